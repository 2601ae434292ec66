-- The bytes that a pair stores: held before it, noted behind it.
use Rattle.std.proofs.Common.{◌≡◌, ℕ, ◌+◌, ◌<◌, ◌≤◌, List, ◌++◌, length, get_or, take, drop, refl, ap, ◌∙◌, arith, length-take-le}
use lib.ListN.{get_or-append}
use Rattle.ground.specs.Lists.{build, round_byte, read_round}
use Rattle.ground.proofs.Lists.{build-length, build-at}
use Rattle.ground.proofs.Passes.{round-read}
use Rattle.stores.specs.Stores.{from_address}
use Rattle.writers.specs.Types.{Notes}
use Rattle.noting.specs.Stretch.{store}
use Rattle.noting.specs.Noted.{noted_by, noted_each}
use Rattle.noting.specs.Notes.{noting_of, Stays}
use Rattle.noting.proofs.Notes.{notes-none, notes-more}
use Rattle.writers.specs.Ready.{Held, stores_by}

-- bytes read into a list's front
pub held : (mem : List ℕ) (at n : ℕ) (l : List ℕ) {x : List ℕ} → length mem ≡ 65536 → ((i : ℕ) → get_or mem i 0 < 256) → n ≤ length l
    → x ≡ read_round 8 mem at (take n l) → Held mem at n (x ++ drop n l)
held mem at n l {x} whole bytes few e =
    record {
      holds = λ j h.
          let small = bytes (from_address at j) in
          get_or-append x (drop n l) 0 j (omega (arith, long, h)) ∙ ap (λ (y : List ℕ). get_or y j 0) k
          ∙ build-at (length (take n l)) (round_byte 8 mem at) j 0 (omega (arith, front, h))
          ∙ (omega (arith, small));
    }
  where
    front : length (take n l) ≡ n
    front = length-take-le n l few

    k : x ≡ build (length (take n l)) (round_byte 8 mem at)
    k = e ∙ round-read 8 mem at (take n l) whole

    long : length x ≡ n
    long = ap length k ∙ build-length (length (take n l)) (round_byte 8 mem at) ∙ front

-- before store j
pub record NotingAll (pair at : ℕ) (before mem : List ℕ) (a b : Notes) (j : ℕ) : Type 0 where
  pub notes : noting_of b ≡ noted_each a.stretch.first a.stretch.last (stores_by pair at before mem) j (noting_of a)
  pub stays : Stays a b

pub noting-all : (pair at : ℕ) (before mem : List ℕ) (a : Notes) → NotingAll pair at before mem a a 0
noting-all pair at before mem a =
    record {
      notes = notes-none a.stretch.first a.stretch.last (stores_by pair at before mem) (noting_of a);
      stays = record { stretch = refl; same_list = refl; long = refl };
    }

pub noting-on : {pair at : ℕ} {before mem : List ℕ} {a b : Notes} {j : ℕ} → NotingAll pair at before mem a b j
    → {there : ℕ} → there ≡ from_address at j → {next : Notes}
    → noting_of next ≡ noted_by b.stretch.first b.stretch.last (store pair there (get_or before j 0) (get_or mem there 0)) (noting_of b)
    → Stays b next → NotingAll pair at before mem a next (j + 1)
noting-on {pair} {at} {before} {mem} {a} {b} {j} k e {next} f s =
    record {
      notes = f
          ∙ (λ i. noted_by (k.stays.stretch i).first (k.stays.stretch i).last (store pair (e i) (get_or before j 0) (get_or mem (e i) 0)) (k.notes i))
          ∙ notes-more a.stretch.first a.stretch.last (stores_by pair at before mem) j (noting_of a);
      stays = record { stretch = s.stretch ∙ k.stays.stretch; same_list = s.same_list ∙ k.stays.same_list; long = s.long ∙ k.stays.long };
    }
