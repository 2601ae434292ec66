-- 01, Panel and memory: the frame's rows of dots, packed leftmost dot in the top bit.
use Rattle.std.specs.Prelude.{◌≡◌, ℕ, zero, suc, ◌+◌, ◌-◌, ◌*◌, ◌/◌, ◌%◌, ◌^◌, ◌≤◌, Bool, cond, ◌&&◌, ◌||◌, ◌⊎◌, List, length, ◌==◌, nat_le, nat_lt, slice_index}
use Rattle.ground.specs.Lists.{build, joined}

-- dot x of a row of C cells of w dots, bit w - 1 of a cell's byte leftmost; spare bits 0
unfoldable pub dot_at : ℕ → ℕ → (ℕ → ℕ) → ℕ → ℕ
dot_at C w cell x = cond (nat_lt x (C * w)) (cell (x / w) / 2 ^ (w - 1 - x % w) % 2) 0

-- n dots from dot s on as one number, the leftmost in the top bit
unfoldable pub packed : (ℕ → ℕ) → ℕ → ℕ → ℕ
packed dot s zero = 0
packed dot s (suc n) = packed dot s n * 2 + dot (s + n)

-- R, the bytes of a row: C·w/8 rounded up
abbrev pub row_bytes : ℕ → ℕ → ℕ
row_bytes C w = (C * w + 7) / 8

-- a row of C cells; cell c is the byte shown in column c
unfoldable pub row_from : ℕ → ℕ → (ℕ → ℕ) → List ℕ
row_from C w cell = build (row_bytes C w) (λ j. packed (dot_at C w cell) (8 * j) 8)

-- the 8L rows one after the other; cell r c is the byte shown at dot row r and column c
unfoldable pub frame_from : ℕ → ℕ → ℕ → (ℕ → ℕ → ℕ) → List ℕ
frame_from C L w cell = joined (8 * L) (λ r. row_from C w (cell r))

-- dot x of a row whose cells stand in a list
unfoldable pub dot_in : ℕ → List ℕ → ℕ → ℕ
dot_in w cells x = dot_at (length cells) w (λ c. slice_index cells c) x

-- the row of such cells
unfoldable pub row_in : ℕ → List ℕ → List ℕ
row_in w cells = row_from (length cells) w (λ c. slice_index cells c)

-- w 6 or 8, at most 80 cells
abbrev pub packs : ℕ → List ℕ → Bool
packs w cells = (w == 6 || w == 8) && nat_le (length cells) 80

pub record Packable (w : ℕ) (cells : List ℕ) : Type 0 where
  pub width : (w ≡ 6) ⊎ (w ≡ 8)
  pub few : length cells ≤ 80

-- their row in a buffer of just its bytes; any other buffer, and what cannot be packed, leaves it as it was
unfoldable pub pack_of : ℕ → List ℕ → List ℕ → List ℕ
pack_of w cells out = cond (packs w cells) (cond (length out == row_bytes (length cells) w) (row_in w cells) out) out
