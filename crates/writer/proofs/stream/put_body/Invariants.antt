-- `put_body` meets its contract: what is left of the body is still to be put.
use Prim.Native.Nat.{◌-◌}
use Rattle.writer.proofs.Bodies.{Writing}
use Rattle.writer.proofs.stream.put_body.Given as goal

abbrev pub invariant-loop-standing : goal.invariant-loop-standing
invariant-loop-standing l = Writing l.panel l.book l.start l.end l.fn.stream l.stream l.next

abbrev pub decreases-loop-standing : goal.decreases-loop-standing
decreases-loop-standing l = l.end - l.next
