-- Pairs of a room moved apart, from the last one on.
use Rattle.std.specs.Prelude.{ℕ, zero, suc, ◌+◌, ◌*◌, List, get_or, set}

-- a status read and a pair, from byte i on
abbrev pub asked_at : List ℕ → ℕ → ℕ → ℕ → List ℕ
asked_at l i kind byte = set (set (set (set l i 3) (i + 1) 0) (i + 2) kind) (i + 3) byte

unfoldable pub spread_of : ℕ → List ℕ → List ℕ
spread_of zero l = l
spread_of (suc j) l = spread_of j (asked_at l (4 * j) (get_or l (2 * j) 0) (get_or l (2 * j + 1) 0))
