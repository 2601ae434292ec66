-- `scan` meets its contract: sixteen at a time, then one by one.
use Rattle.turns.specs.Blocked.{Scanning}
use Rattle.turns.proofs.block.scan.Given as goal

abbrev pub invariant-loop-end : goal.invariant-loop-end
invariant-loop-end l = Scanning l.log l.from l.total l.end
