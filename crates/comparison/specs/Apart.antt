-- 02, Req 06: the number of differing dots in two frames.
use Rattle.std.specs.Prelude.{ℕ, zero, suc, ◌+◌, ◌*◌, Bool, cond, not, List, eqb}
use Rattle.display.specs.Frame.{dot_of}
use Rattle.comparison.specs.Types.{Panel, Display}

-- of 0, 1, .., n of them, how many pass a test
unfoldable pub how_many : ℕ → (ℕ → Bool) → ℕ
how_many zero test = 0
how_many (suc n) test = how_many n test + cond (test n) 1 0

-- f 0, f 1, .., n of them, added up
unfoldable pub added_up : ℕ → (ℕ → ℕ) → ℕ
added_up zero f = 0
added_up (suc n) f = added_up n f + f n

-- in dot row r
abbrev pub row_apart : Panel → Display → List ℕ → Display → List ℕ → List ℕ → ℕ → ℕ
row_apart p d mem e memory rom r =
    how_many (p.columns * p.width) (λ x. not (eqb (dot_of p d mem rom r x) (dot_of p e memory rom r x)))

unfoldable pub dots_apart : Panel → Display → List ℕ → Display → List ℕ → List ℕ → ℕ
dots_apart p d mem e memory rom = added_up (8 * p.lines) (row_apart p d mem e memory rom)
