-- `spread` meets its contract: what is left to spread always comes to the whole.
use mathlib.Core.Path.{sym, ◌∙◌}
use native.Mathlib.Omega.{arith}
use Rattle.asking.proofs.Spreads.{spread-next, spread-none}
use Rattle.asking.proofs.spread.spread.Goals as goal

pub loop-j-preserved : goal.loop-j-preserved
loop-j-preserved c = rw c.number.ensures (spread-next c.loop-j.j c.loop-j.room (omega arith) ∙ c.loop-j.invariant)

pub returns : goal.returns
returns c = sym (spread-none c.loop-j.j c.loop-j.room (omega arith)) ∙ c.loop-j.invariant
