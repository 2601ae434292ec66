-- 01, A displayed byte: what text and graphic show together.
use Rattle.std.specs.Prelude.{ℕ, Bool, true, false, cond, List, length, ◌==◌, bit_and, bit_or, bit_xor, slice_index}
use Rattle.ground.specs.Lists.{build, round_byte}
use Rattle.state.specs.Types.{Combination, Or, Exor, And, Attribute}

abbrev pub is_attribute : Combination → Bool
is_attribute Or = false
is_attribute Exor = false
is_attribute And = false
is_attribute Attribute = true

-- text and graphic both on: their OR, EXOR or AND; in attribute mode the text shows alone
abbrev pub combined : Combination → ℕ → ℕ → ℕ
combined Or t g = bit_or t g
combined Exor t g = bit_xor t g
combined And t g = bit_and t g
combined Attribute t g = t

-- both on: combined; one on: that one alone; neither: 0, as a layer that is off has no dots
abbrev pub mixed : Bool → Bool → Combination → ℕ → ℕ → ℕ
mixed text graphic k t g = cond text (cond graphic (combined k t g) t) g

-- cells of text, each with the low w bits of the graphic's byte, from an address on, round; a memory of another length leaves them
unfoldable pub mixed_round : Bool → Bool → Combination → ℕ → List ℕ → ℕ → List ℕ → List ℕ
mixed_round text graphic k w mem start cells =
    cond (length mem == 65536) (build (length cells) (λ j. mixed text graphic k (slice_index cells j) (round_byte w mem start j))) cells
