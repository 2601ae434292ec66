-- `fill` meets its contract: entry and store after one another.
use Rattle.std.proofs.Common.{arith}
use Rattle.noting.proofs.Laying.{filled, filled-on}
use Rattle.noting.proofs.block.fill.Goals as goal

pub loop-k-init : goal.loop-k-init
loop-k-init c = filled _ _ _ _ _ _ (omega arith)

pub loop-k-preserved : goal.loop-k-preserved
loop-k-preserved c = filled-on c.loop-k.invariant c.loop-k-test.true c.requires.mem_len.1 c.requires.n_in_bounds.1 (omega arith) c.if-log-i.false c.put.ensures
