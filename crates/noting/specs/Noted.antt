-- Stores entered in a list of so much room.
use Rattle.std.specs.Prelude.{◌≡◌, ℕ, zero, suc, ◌+◌, ◌-◌, ◌*◌, ◌/◌, ◌^◌, ◌<◌, cond, List, [], ◌∷◌, length, ◌≢◌, nat_lt}
use Rattle.std.proofs.lemmas.List.Edits.{sets}
use Rattle.codes.specs.Command.{decode_of}
use Rattle.stores.specs.Stores.{code_stores}
use Rattle.noting.specs.Types.{Panel, Registers}
use Rattle.noting.specs.Stretch.{Store, in_stretch}

-- entries there is room for, four numbers each
abbrev pub room_of : List ℕ → ℕ
room_of list = length list / 4

-- a number of entries as 64 bits say it, which no log reaches
abbrev pub capped : ℕ → ℕ
capped n = cond (nat_lt n (2 ^ 64)) n (2 ^ 64 - 1)

-- the entries needed so far, and the list
pub record Noting : Type 0 where
  pub count : ℕ
  pub list : List ℕ

abbrev pub noting : ℕ → List ℕ → Noting
noting count list = record { count = count; list = list }

abbrev pub entry_of : Store → List ℕ
entry_of x = x.pair ∷ x.address ∷ x.before ∷ x.after ∷ []

-- one more entry, put behind those before where there is room
abbrev pub entered : Store → Noting → Noting
entered x n =
    noting (capped (n.count + 1)) (cond (nat_lt n.count (room_of n.list)) (sets n.list (4 * n.count) (entry_of x)) n.list)

-- a store is entered if its address is in the stretch
abbrev pub noted_by : ℕ → ℕ → Store → Noting → Noting
noted_by first last x n = cond (in_stretch first last x.address) (entered x n) n

unfoldable pub noted_each : ℕ → ℕ → (ℕ → Store) → ℕ → Noting → Noting
noted_each first last f zero n = n
noted_each first last f (suc k) n = noted_by first last (f k) (noted_each first last f k n)

-- how many bytes a code's command stores, none or one: any code but E0H to EFH
pub record Singles (k n : ℕ) : Type 0 where
  pub few : n < 2
  pub counts : (k / 16 ≢ 14) → (p : Panel) (r : Registers) → code_stores p r (decode_of k) ≡ n

-- a command's store noted, if it stores a byte
pub record SingleNoted (first last k : ℕ) (x : Store) (before noted : Noting) : Type 0 where
  pub low : x.address < 65536
  pub notes : (k / 16 ≢ 14) → (p : Panel) (r : Registers) (f : ℕ → Store) → f 0 ≡ x → noted ≡ noted_each first last f (code_stores p r (decode_of k)) before
