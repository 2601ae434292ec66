-- Stores into a stretch of memory: where, the byte before and the byte after.
use Rattle.std.specs.Prelude.{ℕ, zero, suc, Bool, cond, ◌&&◌, ◌||◌, List, [], ◌∷◌, ◌++◌, nat_le, slice_index}
use Rattle.effects.specs.Machine.{Machine, pointer}
use Rattle.stores.specs.Stores.{from_address}

-- one byte stored: by which pair, at which address, the byte there before and after
pub record Store : Type 0 where
  pub pair : ℕ
  pub address : ℕ
  pub before : ℕ
  pub after : ℕ

abbrev pub store : ℕ → ℕ → ℕ → ℕ → Store
store pair address before after = record { pair = pair; address = address; before = before; after = after }

-- from a first address to a last one; a first above the last means through FFFFH to 0000H
abbrev pub in_stretch : ℕ → ℕ → ℕ → Bool
in_stretch first last a = cond (nat_le first last) (nat_le first a && nat_le a last) (nat_le first a || nat_le a last)

-- byte j that pair k stores, from machine s to machine t. A pair stores at most eighty bytes, no two at one address (01, A displayed byte)
abbrev pub store_at : ℕ → Machine → Machine → ℕ → Store
store_at k s t j =
    store k (from_address (pointer s) j) (slice_index s.memory (from_address (pointer s) j)) (slice_index t.memory (from_address (pointer s) j))

-- of n stores those at an address of the stretch, in order
unfoldable pub stores_in : ℕ → ℕ → (ℕ → Store) → ℕ → List Store
stores_in first last f zero = []
stores_in first last f (suc n) = stores_in first last f n ++ cond (in_stretch first last (f n).address) (f n ∷ []) []

-- four numbers an entry
unfoldable pub store_numbers : List Store → List ℕ
store_numbers [] = []
store_numbers (x ∷ xs) = x.pair ∷ x.address ∷ x.before ∷ x.after ∷ store_numbers xs
