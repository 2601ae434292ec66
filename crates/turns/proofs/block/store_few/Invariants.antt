-- `store_few` meets its contract: datum after datum.
use Rattle.turns.proofs.Blocks.{Beginning}
use Rattle.turns.proofs.block.store_few.Given as goal

abbrev pub invariant-loop-i : goal.invariant-loop-i
invariant-loop-i l = Beginning l.initial.mem l.start l.log l.from l.total l.mem l.pointer l.i
