-- What inner routines rest on, tested once at the door, and what each of them gives.
use Rattle.std.specs.Prelude.{◌≡◌, ℕ, ◌+◌, ◌-◌, ◌*◌, ◌/◌, ◌%◌, ◌<◌, ◌≤◌, min, Bool, cond, ◌||◌, List, length, ◌==◌, nat_lt}
use Rattle.display.specs.Displayed.{text_code}
use Rattle.stores.specs.Stores.{from_address}
use Rattle.touch.specs.Types.{Panel, Plane, Display}
use Rattle.touch.specs.Touch.{any_of, in_row, glyph_byte_at, glyph_at, plane_row}

-- rows may be looked through
pub record Marking (p : Panel) (d : Display) (mem : List ℕ) : Type 0 where
  pub wide : 0 < p.columns
  pub columns : p.columns ≤ 80
  pub lines : p.lines ≤ 32
  pub offset : d.offset < 32
  pub memory : length mem ≡ 65536

-- n addresses from one on, and a row of a plane
unfoldable pub row_meets : Plane → ℕ → ℕ → ℕ → ℕ → Bool
row_meets q row C at n = any_of n (λ j. in_row q row C (from_address at j))

-- how far from C - 1 before the first address a row may begin
abbrev pub span_of : ℕ → ℕ → ℕ
span_of C n = cond (n == 0) 0 (min n 65536 + C - 1)

-- where a row begins, from an address on
abbrev pub reaches_of : Plane → ℕ → ℕ → ℕ → Bool
reaches_of q row low span = nat_lt (((q.home + row * q.area) % 65536 + (65536 - low)) % 65536) span

-- and the bytes of a dot row that stand in text and graphic, no byte read
abbrev pub planes_meet : Panel → Display → ℕ → ℕ → ℕ → Bool
planes_meet p d at n r =
    row_meets d.text (r / 8) p.columns at n || row_meets d.graphic (plane_row d.combination r) p.columns at n

-- and a code's glyph byte in dot row v
unfoldable pub code_meets : Display → ℕ → ℕ → ℕ → ℕ → Bool
code_meets d code v at n = any_of n (λ j. glyph_byte_at d code v (from_address at j))

-- and the codes of a dot row's line, cell by cell
unfoldable pub line_meets : Panel → Display → List ℕ → ℕ → ℕ → ℕ → Bool
line_meets p d mem r at n = any_of p.columns (λ c. code_meets d (text_code d mem (r / 8) c) (r % 8) at n)

-- the same, address by address
unfoldable pub glyph_meets : Panel → Display → List ℕ → ℕ → ℕ → ℕ → Bool
glyph_meets p d mem r at n = any_of n (λ j. glyph_at p d mem r (from_address at j))

-- and the 2,048 bytes at the offset
abbrev pub near_bank : Display → ℕ → ℕ → Bool
near_bank d at n = nat_lt ((at + (65536 - 2048 * d.offset)) % 65536) 2048 || nat_lt ((2048 * d.offset + (65536 - at)) % 65536) n

-- one flag
abbrev pub kept_flag : Bool → ℕ → ℕ
kept_flag set flag = cond set 1 flag
