-- `spread` meets its contract: what is left to spread always comes to the whole.
use mathlib.Core.Path.{◌≡◌}
use Rattle.asking.specs.Spread.{spread_of}
use Rattle.asking.proofs.spread.spread.Given as goal

abbrev pub invariant-loop-j : goal.invariant-loop-j
invariant-loop-j l = spread_of l.j l.room ≡ spread_of l.n l.fn.room
