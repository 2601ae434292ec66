-- Data in auto write, as they follow one another: stored one after the other, and noted where they are in the stretch.
use Rattle.std.proofs.Common.{◌≡◌, ℕ, zero, suc, ◌+◌, ◌-◌, ◌*◌, ◌^◌, ◌<◌, ◌≤◌, min, Bool, true, false, cond, ◌&&◌, ltb, List, [], ◌∷◌, ◌++◌, length, get_or, set, sym, refl, ap, ◌∙◌, append-nil, add-one, arith, length-append, ltb-false, le-ltb}
use native.Mathlib.Decide.{dec_lt}
use lib.Seq.{sets, length-sets}
use Rattle.ground.specs.Lists.{build, stored}
use Rattle.turns.specs.Blocked.{pairs_from, data_of, bytes_from, AllData, Blocked}
use Rattle.turns.proofs.Blocks.{pair_at, pairs-here, data-first, data-none, none_left, data-front, bytes-length, stored-join, block-moves}
use Rattle.stores.specs.Stores.{from_address}
use Rattle.noting.specs.Stretch.{Store, store, in_stretch}
use Rattle.noting.specs.Noted.{room_of, capped, Noting, noting, entry_of, entered, noted_by, noted_each}
use Rattle.noting.specs.Types.{Notes}
use Rattle.noting.specs.Notes.{noting_of, Stays, Put}
use Rattle.noting.specs.Laid.{Spans, laid, datum_at, Puts, Lays}
use Rattle.noting.proofs.Notes.{plus-counts, note-room, notes-more, capped-more}

laid_more : (log : List ℕ) (from at : ℕ) (mem : List ℕ) (n : ℕ)
    → set (laid log from at mem n) (from_address at n) (get_or log (2 * (from + n) + 1) 0) ≡ laid log from at mem (n + 1)
unfolding laid
laid_more log from at mem n = ap (laid log from at mem) (sym (add-one n))

laid-stored : (log : List ℕ) (from at : ℕ) (mem : List ℕ) → at < 65536 → (n : ℕ) → stored mem at (bytes_from log from n) ≡ laid log from at mem n
unfolding build stored laid
laid-stored log from at mem h zero = refl
laid-stored log from at mem h (suc n) =
    stored-join (bytes_from log from n) (get_or log (2 * (from + n) + 1) 0 ∷ []) mem at h
    ∙ (λ t. set (laid-stored log from at mem h n t) (from_address at (bytes-length log from n t)) (get_or log (2 * (from + n) + 1) 0))

-- the data that pairs begin with are data
data-kinds : (log : List ℕ) (total m i : ℕ) → i + m ≡ total → 2 * total ≤ length log → AllData log i (length (data_of (pairs_from log i total)))
data-kinds log total zero i e l = λ j h. absurd (omega (arith, h, ap length (none_left log total i (omega arith))))
data-kinds log total (suc m) i e l = go (get_or log (2 * i) 0) refl (data-kinds log total m (i + 1) (omega arith) l)
  where
    go : (k : ℕ) → get_or log (2 * i) 0 ≡ k → AllData log (i + 1) (length (data_of (pairs_from log (i + 1) total))) → AllData log i (length (data_of (pairs_from log i total)))
    go zero z rest zero h = let f : i + 0 ≡ i = omega arith in ap (λ (x : ℕ). get_or log (2 * x) 0) f ∙ z
    go zero z rest (suc j) h =
        let f : i + suc j ≡ i + 1 + j = omega arith in
        let long = ap length (ap data_of (pairs-here log total i (omega arith) l) ∙ data-first (pair_at log i) (pairs_from log (i + 1) total) z) in
        ap (λ (x : ℕ). get_or log (2 * x) 0) f ∙ rest j (omega (arith, h, long))
    go (suc k) z rest j h =
        let none = ap length (ap data_of (pairs-here log total i (omega arith) l) ∙ data-none (pair_at log i) (pairs_from log (i + 1) total) (λ y. omega (arith, y, z))) in
        absurd (omega (arith, h, none))

-- a block of data as so many taken of at most n
module _ {mem : List ℕ} {at : ℕ} {log : List ℕ} {from : ℕ} (n : ℕ) {after : List ℕ} {end : ℕ} (l : 2 * (from + n) ≤ length log) (b : Blocked mem at log from (from + n) after end) where
  taken-kinds : AllData log from (end - from)
  taken-kinds j h = data-kinds log (from + n) n from refl l j (omega (arith, h, b.reaches))

  taken-bytes : data_of (pairs_from log from (from + n)) ≡ bytes_from log from (end - from)
  taken-bytes =
      let f = data-front log (from + n) from (end - from) (omega (arith, b.inside, b.reaches)) l taken-kinds in
      f ∙ ap (λ (xs : List ℕ). bytes_from log from (end - from) ++ xs) (none (data_of (pairs_from log (from + (end - from)) (from + n))) (rest (data_of (pairs_from log (from + (end - from)) (from + n))) f)) ∙ append-nil (bytes_from log from (end - from))
    where
      none : (xs : List ℕ) → length xs ≡ 0 → xs ≡ []
      none [] e = refl
      none (x ∷ xs) e = absurd (omega arith)

      rest : (xs : List ℕ) → data_of (pairs_from log from (from + n)) ≡ bytes_from log from (end - from) ++ xs → length xs ≡ 0
      rest xs f =
          omega (arith, ap length f, length-append (bytes_from log from (end - from)) xs, bytes-length log from (end - from), b.reaches)

  pub puts-taken : Puts log from n at mem after (end - from)
  puts-taken =
      record {
        low = b.low;
        few = omega (arith, b.inside);
        some = λ h z. omega (arith, block-moves b (omega arith) l z);
        kinds = taken-kinds;
        stores = b.holds ∙ ap (stored mem at) taken-bytes ∙ laid-stored log from at mem b.low (end - from);
      }

-- before datum k
pub record Blocking (log : List ℕ) (from n at : ℕ) (mem₀ mem : List ℕ) (k : ℕ) : Type 0 where
  pub low : at < 65536
  pub few : k ≤ n
  pub kinds : (j : ℕ) → j < k → get_or log (2 * (from + j)) 0 ≡ 0
  pub stores : mem ≡ laid log from at mem₀ k

pub blocking : (log : List ℕ) (from n at : ℕ) (mem : List ℕ) → at < 65536 → Blocking log from n at mem mem 0
unfolding laid
blocking log from n at mem l = record { low = l; few = omega arith; kinds = λ j h. absurd (omega arith); stores = refl }

module _ {log : List ℕ} {from n at : ℕ} {mem₀ mem : List ℕ} {k : ℕ} (g : Blocking log from n at mem₀ mem k) where
  pub blocking-on : k < n → get_or log (2 * (from + k)) 0 ≡ 0 → {a : ℕ} → a ≡ from_address at k → Blocking log from n at mem₀ (set mem a (get_or log (2 * (from + k) + 1) 0)) (k + 1)
  blocking-on h z {a} e =
      record {
        low = g.low;
        few = omega arith;
        kinds = λ j i. go j (dec_lt j k) i;
        stores = (λ t. set (g.stores t) (e t) (get_or log (2 * (from + k) + 1) 0)) ∙ laid_more log from at mem₀ k;
      }
    where
      go : (j : ℕ) → Dec (j < k) → j < k + 1 → get_or log (2 * (from + j)) 0 ≡ 0
      go j (yes i) l = g.kinds j i
      go j (no i) l = let e : j ≡ k = omega arith in ap (λ (x : ℕ). get_or log (2 * (from + x)) 0) e ∙ z

-- and entered
pub record Filling (log : List ℕ) (from n at : ℕ) (mem₀ mem : List ℕ) (before : Noting) (list : List ℕ) (k : ℕ) : Type 0 where
  pub blocks : Blocking log from n at mem₀ mem k
  pub long : length list ≡ length before.list
  pub notes : (first last : ℕ) → ((j : ℕ) → j < k → in_stretch first last (from_address at j) ≡ true)
      → noting (before.count + k) list ≡ noted_each first last (datum_at log from at mem₀) k before

pub filling : (log : List ℕ) (from n at : ℕ) (mem : List ℕ) (count : ℕ) (list : List ℕ) → at < 65536 → Filling log from n at mem mem (noting count list) list 0
unfolding noted_each
filling log from n at mem count list l =
    record {
      blocks = blocking log from n at mem l;
      long = refl;
      notes = λ first last h. let e : count + 0 ≡ count = omega arith in λ t. noting (e t) list;
    }

module _ {log : List ℕ} {from n at : ℕ} {mem₀ mem : List ℕ} {count : ℕ} {list₀ list : List ℕ} {k : ℕ} (g : Filling log from n at mem₀ mem (noting count list₀) list k) where
  pub filling-on : k < n → at + n ≤ 65536 → 4 * (count + n) ≤ length list₀ → length list₀ < 2 ^ 64 → get_or log (2 * (from + k)) 0 ≡ 0
      → {next : List ℕ} → next ≡ sets list (4 * (count + k)) ((from + k) ∷ (at + k) ∷ get_or mem (at + k) 0 ∷ get_or log (2 * (from + k) + 1) 0 ∷ [])
      → Filling log from n at mem₀ (set mem (at + k) (get_or log (2 * (from + k) + 1) 0)) (noting count list₀) next (k + 1)
  filling-on h u r s z {next} f =
      record {
        blocks = blocking-on g.blocks h z here;
        long = ap length f ∙ length-sets list (4 * (count + k)) ((from + k) ∷ (at + k) ∷ get_or mem (at + k) 0 ∷ get_or log (2 * (from + k) + 1) 0 ∷ []) ∙ g.long;
        notes = λ first last i. entry first last (i k (omega arith))
            ∙ ap (noted_by first last (datum_at log from at mem₀ k)) (g.notes first last (λ j l. i j (omega arith)))
            ∙ notes-more first last (datum_at log from at mem₀) k (noting count list₀);
      }
    where
      here : at + k ≡ from_address at k
      here = omega arith

      room : count + k < room_of list
      room = let e = g.long in omega (arith, e, r, h)

      next-count : count + (k + 1) ≡ capped (count + k + 1)
      next-count = let e : count + (k + 1) ≡ count + k + 1 = omega arith in e ∙ plus-counts (count + k) 1 (omega arith)

      entry : (first last : ℕ) → in_stretch first last (from_address at k) ≡ true
          → noting (count + (k + 1)) next ≡ noted_by first last (datum_at log from at mem₀ k) (noting (count + k) list)
      entry first last i =
          note-room first last (count + k) (from + k) (from_address at k) (get_or (laid log from at mem₀ k) (from_address at k) 0) (get_or log (2 * (from + k) + 1) 0) list
          {b = true} (sym i) refl next-count room
          (f ∙ (λ t. sets list (4 * (count + k)) ((from + k) ∷ here t ∷ get_or (g.blocks.stores t) (here t) 0 ∷ get_or log (2 * (from + k) + 1) 0 ∷ [])))

-- on what is lent
pub record Filled (log : List ℕ) (from n at : ℕ) (mem₀ mem : List ℕ) (before notes : Notes) (k : ℕ) : Type 0 where
  pub fills : Filling log from n at mem₀ mem (noting_of before) notes.list.now k
  pub count : notes.count ≡ before.count
  pub stays : Stays before notes

pub filled : (log : List ℕ) (from n at : ℕ) (mem : List ℕ) (notes : Notes) → at < 65536 → Filled log from n at mem mem notes notes 0
filled log from n at mem notes l =
    record { fills = filling log from n at mem notes.count notes.list.now l; count = refl; stays = record { stretch = refl; same_list = refl; long = refl } }

pub filled-on : {log : List ℕ} {from n at : ℕ} {mem₀ mem : List ℕ} {before notes next : Notes} {k : ℕ} → Filled log from n at mem₀ mem before notes k
    → k < n → at + n ≤ 65536 → 4 * (before.count + n) ≤ length before.list.now → length before.list.now < 2 ^ 64 → get_or log (2 * (from + k)) 0 ≡ 0
    → Put notes (notes.count + k) (store (from + k) (at + k) (get_or mem (at + k) 0) (get_or log (2 * (from + k) + 1) 0)) next
    → Filled log from n at mem₀ (set mem (at + k) (get_or log (2 * (from + k) + 1) 0)) before next (k + 1)
filled-on {log} {from} {n} {at} {mem₀} {mem} {before} {notes} {next} {k} g h u r s z p =
    record {
      fills = filling-on g.fills h u r s z
          (p.holds ∙ ap (λ (m : ℕ). sets notes.list.now (4 * (m + k)) ((from + k) ∷ (at + k) ∷ get_or mem (at + k) 0 ∷ get_or log (2 * (from + k) + 1) 0 ∷ [])) g.count);
      count = p.count ∙ g.count;
      stays = record { stretch = p.stays.stretch ∙ g.stays.stretch; same_list = p.stays.same_list ∙ g.stays.same_list; long = p.stays.long ∙ g.stays.long };
    }

-- noted: none outside the stretch, all in it, counted alone where there is no room
module _ (first last : ℕ) (f : ℕ → Store) (count : ℕ) (list : List ℕ) where
  notes-outside : (k : ℕ) → ((j : ℕ) → j < k → in_stretch first last (f j).address ≡ false) → noting count list ≡ noted_each first last f k (noting count list)
  unfolding noted_each
  notes-outside zero h = refl
  notes-outside (suc k) h =
      notes-outside k (λ j i. h j (omega arith))
      ∙ sym (ap (λ (t : Bool). cond t (entered (f k) (noted_each first last f k (noting count list))) (noted_each first last f k (noting count list))) (h k (omega arith)))

  least : (n : ℕ) → room_of list ≤ n → room_of list < 2 ^ 64 → room_of list ≤ capped n
  least n h l = go (ltb n (2 ^ 64))
    where
      go : (t : Bool) → room_of list ≤ cond t n (2 ^ 64 - 1)
      go true = h
      go false = omega arith

  notes-full : (k : ℕ) → room_of list ≤ count → count < 2 ^ 64 → ((j : ℕ) → j < k → in_stretch first last (f j).address ≡ true)
      → noting (capped (count + k)) list ≡ noted_each first last f k (noting count list)
  unfolding noted_each
  notes-full zero r l h = let e : count + 0 ≡ count = omega arith in λ t. noting ((sym (plus-counts count 0 (omega arith)) ∙ e) t) list
  notes-full (suc k) r l h =
      let e : count + k + 1 ≡ count + suc k = omega arith in
      let full : ltb (capped (count + k)) (room_of list) ≡ false = le-ltb (capped (count + k)) (room_of list) (least (count + k) (omega arith) (omega arith)) in
      (λ t. noting ((sym (ap capped e) ∙ sym (capped-more (count + k))) t) list)
      ∙ ap (λ (t : Bool). noting (capped (capped (count + k) + 1)) (cond t (sets list (4 * capped (count + k)) (entry_of (f k))) list)) (sym full)
      ∙ ap (entered (f k)) (notes-full k r l (λ j i. h j (omega arith)))
      ∙ sym (ap (λ (t : Bool). cond t (entered (f k) (noted_each first last f k (noting count list))) (noted_each first last f k (noting count list))) (h k (omega arith)))

-- as many as lie alike
module _ {first last at : ℕ} {inside : Bool} (left : ℕ) {span : ℕ} (near : ℕ) (i : inside ≡ in_stretch first last at) (s : Spans first last at span) (e : near ≡ min left span) where
  alike : (t : Bool) → inside ≡ t → (k : ℕ) → k ≤ near → (j : ℕ) → j < k → in_stretch first last (from_address at j) ≡ t
  alike t o k l j h = s.alike j (omega (arith, e, l, h)) ∙ sym i ∙ o

  wider : {log : List ℕ} {from n : ℕ} {mem after : List ℕ} {k : ℕ} → n ≤ near → (0 < near → 0 < n) → Puts log from n at mem after k → Puts log from left at mem after k
  wider l m b =
      record { low = b.low; few = omega (arith, b.few, e, l); some = λ h z. b.some (m (omega (arith, h, e, s.some))) z; kinds = b.kinds; stores = b.stores }

  module _ {log : List ℕ} {from : ℕ} {mem after : List ℕ} {count : ℕ} {list : List ℕ} where
    pub lays-counted : {room : ℕ} → room ≡ room_of list → count < 2 ^ 64 → (inside && ltb count room) ≡ false → inside ≡ true → {k : ℕ}
        → Puts log from near at mem after k → {r : ℕ} → r ≡ capped (count + k) → Lays first last log from left at mem after (noting count list) (noting r list) k
    lays-counted {room} r l h o {k} b f =
        let none : ltb count room ≡ false = sym (ap (λ (t : Bool). t && ltb count room) o) ∙ h in
        let full : room ≤ count = ltb-false count room none in
        record {
          blocks = wider (omega arith) (λ q. q) b;
          notes = (λ t. noting (f t) list)
              ∙ notes-full first last (datum_at log from at mem) count list k (omega (arith, full, r)) l (alike true o k b.few);
        }

    pub lays-passed : inside ≡ false → {k : ℕ} → Puts log from near at mem after k → Lays first last log from left at mem after (noting count list) (noting count list) k
    lays-passed o {k} b =
        record {
          blocks = wider (omega arith) (λ q. q) b;
          notes = notes-outside first last (datum_at log from at mem) count list k (alike false o k b.few);
        }
