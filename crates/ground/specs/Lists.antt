-- Lists made from a rule, searched, and stored into a memory that goes round.
use Rattle.std.specs.Prelude.{ℕ, zero, suc, ◌+◌, ◌*◌, ◌%◌, ◌^◌, Bool, cond, ◌&&◌, List, [], ◌∷◌, ◌++◌, length, replicate, ◌==◌, nat_lt, slice_index, slice_index_or, slice_set}

module _ {A : Type 0} where
  -- f 0, f 1, .., n of them
  unfoldable pub build : ℕ → (ℕ → A) → List A
  build zero f = []
  build (suc n) f = build n f ++ (f n ∷ [])

  -- the lists f 0, f 1, .., n of them, one after the other
  unfoldable pub joined : ℕ → (ℕ → List A) → List A
  joined zero f = []
  joined (suc n) f = joined n f ++ f n

  -- the first of a list of which the test holds, or d where there is none
  unfoldable pub first_of : (A → Bool) → A → List A → A
  first_of test d [] = d
  first_of test d (x ∷ xs) = cond (test x) x (first_of test d xs)

-- n bytes 00H
unfoldable pub zeros : ℕ → List ℕ
zeros n = replicate n 0

-- 01, Panel and memory: all addresses are modulo 65,536; bytes stored one after the other from an address on
unfoldable pub stored : List ℕ → ℕ → List ℕ → List ℕ
stored m at [] = m
stored m at (b ∷ bs) = stored (slice_set m at b) ((at + 1) % 65536) bs

-- and read so: the low w bits of byte n from an address on
abbrev pub round_byte : ℕ → List ℕ → ℕ → ℕ → ℕ
round_byte w mem start n = slice_index mem ((start + n) % 65536) % 2 ^ w

-- a list filled with them; a memory of another length leaves it as it was
unfoldable pub read_round : ℕ → List ℕ → ℕ → List ℕ → List ℕ
read_round w mem start out = cond (length mem == 65536) (build (length out) (round_byte w mem start)) out

-- codes, each replaced by the low w bits of byte 8·code + v of a table of 2,048; another table, or v past 7, leaves them
unfoldable pub looked_up : ℕ → List ℕ → ℕ → List ℕ → List ℕ
looked_up w table v codes =
    cond (length table == 2048 && nat_lt v 8) (build (length codes) (λ j. slice_index table (8 * slice_index codes j + v) % 2 ^ w)) codes

-- a list over another's front: where it has no byte any more, the other's as it was
unfoldable pub given_to : List ℕ → List ℕ → List ℕ
given_to from to = build (length to) (λ j. slice_index_or from j (slice_index to j))
