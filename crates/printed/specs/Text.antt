-- Numbers, bytes and dots as text, in ASCII.
use Rattle.std.specs.Prelude.{ℕ, zero, suc, ◌+◌, ◌-◌, ◌/◌, ◌%◌, cond, List, [], ◌∷◌, ◌++◌, ltb, eqb, get_or}
use Prim.Native.Char.{code}
use Prim.Native.String.{String, [] as empty, ◌∷◌ as ◌before◌}
use Rattle.ground.specs.Lists.{build, joined}
use Rattle.ground.specs.Bytes.{bit_of}

-- the codes of a text's characters
unfoldable pub ascii : String → List ℕ
ascii empty = []
ascii (c before s) = code c ∷ ascii s

-- a line's end
abbrev pub newline : List ℕ
newline = 10 ∷ []

-- the last digits of n, at most so many
unfoldable pub digits : ℕ → ℕ → List ℕ
digits zero n = []
digits (suc most) n = cond (ltb n 10) [] (digits most (n / 10)) ++ ((48 + n % 10) ∷ [])

-- a number in decimal; it has at most n + 1 digits
unfoldable pub decimal : ℕ → List ℕ
decimal n = digits (suc n) n

-- a digit, `0` to `9` and `A` to `F`
abbrev pub hex_digit : ℕ → ℕ
hex_digit d = cond (ltb d 10) (48 + d) (55 + d)

-- a byte's two digits
abbrev pub hex_digits : ℕ → List ℕ
hex_digits b = hex_digit (b / 16) ∷ hex_digit (b % 16) ∷ []

-- a byte on a line of its own
abbrev pub hex_line : ℕ → List ℕ
hex_line b = hex_digit (b / 16) ∷ hex_digit (b % 16) ∷ newline

-- the first `given` bytes, one to a line
abbrev pub hex_line_at : List ℕ → ℕ → List ℕ
hex_line_at bytes i = hex_line (get_or bytes i 0)

unfoldable pub hex_lines : ℕ → List ℕ → List ℕ
hex_lines given bytes = joined given (hex_line_at bytes)

-- `.` for dot 0, `#` for dot 1
abbrev pub dot_mark : ℕ → ℕ
dot_mark d = cond (eqb d 0) 46 35

-- dot x of a row whose bytes begin at `from`, the leftmost dot in the top bit
abbrev pub dot_mark_at : List ℕ → ℕ → ℕ → ℕ
dot_mark_at frame from x = dot_mark (bit_of (get_or frame (from + x / 8) 0) (7 - x % 8))

unfoldable pub dot_line : List ℕ → ℕ → ℕ → List ℕ
dot_line frame from dots = build dots (dot_mark_at frame from) ++ newline
