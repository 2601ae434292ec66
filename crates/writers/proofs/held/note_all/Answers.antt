-- `note_all` meets its contract: one store after the other.
use Rattle.std.proofs.Common.{arith}
use Rattle.writers.proofs.Holding.{noting-all, noting-on}
use Rattle.writers.proofs.held.note_all.Goals as goal

pub loop-j-init : goal.loop-j-init
loop-j-init c = noting-all _ _ _ _ _

pub loop-j-preserved : goal.loop-j-preserved
loop-j-preserved c = noting-on c.loop-j.invariant (omega arith) c.note.ensures.noted c.note.ensures.stays
