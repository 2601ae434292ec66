-- `count` meets its contract: what is left of the body is counted as the whole.
use Prim.Native.Nat.{◌-◌}
use Rattle.book.proofs.Counting.{Counting}
use Rattle.book.proofs.check.count.Given as goal

abbrev pub invariant-loop-standing : goal.invariant-loop-standing
invariant-loop-standing l = Counting l.panel l.book l.start l.end l.at l.total

abbrev pub decreases-loop-standing : goal.decreases-loop-standing
decreases-loop-standing l = l.end - l.at
