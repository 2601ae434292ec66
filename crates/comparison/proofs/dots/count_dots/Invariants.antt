-- `count_dots` meets its contract: dot by dot.
use mathlib.Core.Path.{◌≡◌}
use Prim.Native.Nat.{◌-◌, ◌≤◌}
use Rattle.comparison.specs.Apart.{how_many}
use Rattle.comparison.proofs.Aparts.{unlike, bit_in}
use Rattle.comparison.proofs.dots.count_dots.Given as goal

abbrev pub invariant-loop-x : goal.invariant-loop-x
invariant-loop-x l = (l.count ≡ how_many l.x (unlike (bit_in l.one) (bit_in l.two))) × (l.x ≤ l.dots)

abbrev pub decreases-loop-x : goal.decreases-loop-x
decreases-loop-x l = l.dots - l.x
