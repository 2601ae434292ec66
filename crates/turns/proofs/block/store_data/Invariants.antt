-- `store_data` meets its contract: stretch after stretch, all before it stored.
use Rattle.turns.proofs.Blocks.{Blocking}
use Rattle.turns.proofs.block.store_data.Given as goal

abbrev pub invariant-loop-left : goal.invariant-loop-left
invariant-loop-left l = Blocking l.initial.mem l.start l.log l.from l.end l.mem l.at l.i l.left

abbrev pub decreases-loop-left : goal.decreases-loop-left
decreases-loop-left l = l.left
