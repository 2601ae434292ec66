-- `scan_sixteens` meets its contract: sixteen more that are data.
use Rattle.std.proofs.Common.{◌-◌}
use Rattle.turns.specs.Blocked.{Scanning}
use Rattle.turns.proofs.block.scan_sixteens.Given as goal

abbrev pub invariant-loop-i : goal.invariant-loop-i
invariant-loop-i l = Scanning l.log l.from l.total l.i

abbrev pub decreases-loop-i : goal.decreases-loop-i
decreases-loop-i l = l.total - l.i
