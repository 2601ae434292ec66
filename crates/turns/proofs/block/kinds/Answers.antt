-- `kinds` meets its contract: what is or-ed to 0 is 0.
use Rattle.std.proofs.Common.{arith}
use Rattle.turns.proofs.Blocks.{kinds-on}
use Rattle.turns.proofs.block.kinds.Goals as goal

pub loop-j-preserved : goal.loop-j-preserved
loop-j-preserved c = let a = c.args in
    let k = c.loop-j in
    (omega arith, kinds-on a.log.now a.from k.j k.any k.invariant.1)
