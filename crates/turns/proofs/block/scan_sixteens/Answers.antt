-- `scan_sixteens` meets its contract: sixteen more that are data.
use Rattle.turns.proofs.Blocks.{scan-on}
use Rattle.turns.proofs.block.scan_sixteens.Goals as goal

pub loop-i-preserved : goal.loop-i-preserved
loop-i-preserved c = scan-on c.loop-i.invariant 16 c.loop-i-test.true (c.kinds.ensures c.if-kinds.false)
