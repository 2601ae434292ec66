-- `put_changes` meets its contract: the changes from byte i on are still to be put.
use native.Mathlib.Omega.{arith}
use Rattle.difference.proofs.Comparing.{differs-room, differs-other, differs-same, differs-over}
use Rattle.difference.proofs.changes.put_changes.Goals as goal
use Rattle.difference.proofs.changes.put_changes.Goals.{then-old-i, else-old-i}

pub put_change-requires : goal.put_change-requires
put_change-requires c = differs-room c.requires c.loop-i.invariant (omega arith) c.if-old-i.true

pub loop-i-preserved : goal.loop-i-preserved
loop-i-preserved c =
    elim c.if-old-i.branch [
      | then-old-i w ↦ rw w.stream-is (differs-other c.requires c.loop-i.invariant (omega arith) w.if-old-i.true w.put_change.ensures)
      | else-old-i w ↦ rw w.stream-is (differs-same c.requires c.loop-i.invariant (omega arith) w.if-old-i.false)
    ]

pub returns : goal.returns
returns c = differs-over c.requires c.loop-i.invariant (omega arith)
