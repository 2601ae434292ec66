-- `good_end` meets its contract: what is left of the body is taken as the whole.
use Prim.Native.Nat.{◌-◌}
use Rattle.layout.proofs.Good.{GoodSoFar}
use Rattle.layout.proofs.saving.good_end.Given as goal

abbrev pub invariant-loop-standing : goal.invariant-loop-standing
invariant-loop-standing l = GoodSoFar l.panel l.book l.end l.start l.at

abbrev pub decreases-loop-standing : goal.decreases-loop-standing
decreases-loop-standing l = l.end - l.at
