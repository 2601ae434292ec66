-- 02, Req 08: of a panel in two halves the upper is lines 0 to L/2-1; lines and rows run on through both.
use Rattle.std.specs.Prelude.{ℕ, ◌+◌, ◌-◌, ◌/◌, cond, ◌&&◌, nat_le}
use Rattle.state.specs.Types.{Panel}

-- cursor Y 0 to 15 is the upper half and 16 to 31 the lower: line l of the lower half has Y = 16 + l - L/2
abbrev pub cursor_y : Panel → ℕ → ℕ
cursor_y p l = cond (p.dual && nat_le (p.lines / 2) l) (16 + (l - p.lines / 2)) l
