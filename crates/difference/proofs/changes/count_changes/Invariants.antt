-- `count_changes` meets its contract: those before byte i are counted.
use Rattle.difference.proofs.Comparing.{Counting}
use Rattle.difference.proofs.changes.count_changes.Given as goal

abbrev pub invariant-loop-i : goal.invariant-loop-i
invariant-loop-i l = Counting l.old l.new l.count l.i
