-- `store_data` meets its contract: stretch after stretch, all before it stored.
use Rattle.std.proofs.Common.{arith}
use Rattle.turns.proofs.Blocks.{block-starts, block_on, block-ends}
use Rattle.turns.proofs.block.store_data.Goals as goal

pub loop-left-init : goal.loop-left-init
loop-left-init c = block-starts _ _ _ _ _ (omega arith) c.scan-end.ensures.seen.onward

pub loop-left-preserved : goal.loop-left-preserved
loop-left-preserved c = let k = c.loop-left.invariant in
    block_on k c.loop-left-test.true c.min-n.ensures c.store_stretch.ensures

pub returns : goal.returns
returns c = block-ends c.loop-left.invariant c.scan-end.ensures c.requires.total_in_bounds.0 c.loop-left-test.false
