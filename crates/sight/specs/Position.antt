-- 01, A displayed byte: the positions of the pointer.
use Rattle.std.specs.Prelude.{ℕ, ◌*◌, Bool, false, cond, List, ◌==◌}
use Rattle.ground.specs.Lists.{build, joined, first_of}
use Rattle.sight.specs.Types.{Panel, Plane, Position, At, Nowhere}
use Rattle.state.specs.State.{valid_panel}
use Rattle.state.specs.Address.{address_of}

-- (r, c), r below 8L and c below C, in reading order
unfoldable pub positions : Panel → List Position
positions p = joined (8 * p.lines) (λ r. build p.columns (λ c. At r c))

-- pointer = graphic home + r·graphic area + c
abbrev pub stands_at : Plane → ℕ → Position → Bool
stands_at graphic pointer (At r c) = pointer == address_of graphic r c
stands_at graphic pointer Nowhere = false

-- several may exist, and the first in reading order serves (H)
unfoldable pub position_of : Panel → Plane → ℕ → Position
position_of p graphic pointer = first_of (stands_at graphic pointer) Nowhere (positions p)

-- asked of any panel: one that is not valid has none
abbrev pub located_of : Panel → Plane → ℕ → Position
located_of p graphic pointer = cond (valid_panel p) (position_of p graphic pointer) Nowhere
