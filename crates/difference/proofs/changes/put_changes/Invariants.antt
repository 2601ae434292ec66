-- `put_changes` meets its contract: the changes from byte i on are still to be put.
use Rattle.difference.proofs.Comparing.{Differs}
use Rattle.difference.proofs.changes.put_changes.Given as goal

abbrev pub invariant-loop-i : goal.invariant-loop-i
invariant-loop-i l = Differs l.fn.stream l.home l.old l.new l.stream l.i
