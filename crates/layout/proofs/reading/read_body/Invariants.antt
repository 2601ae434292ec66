-- `read_body` meets its contract: what is left of the body is read as the whole.
use Prim.Native.Nat.{◌-◌}
use Rattle.layout.proofs.Uses.{BodyReading}
use Rattle.layout.proofs.reading.read_body.Given as goal

abbrev pub invariant-loop-standing : goal.invariant-loop-standing
invariant-loop-standing l = BodyReading l.panel l.book l.start l.end l.at l.uses

abbrev pub decreases-loop-standing : goal.decreases-loop-standing
decreases-loop-standing l = l.end - l.at
