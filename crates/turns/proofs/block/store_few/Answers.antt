-- `store_few` meets its contract: datum after datum.
use Rattle.std.proofs.Common.{refl, arith}
use Rattle.turns.proofs.Blocks.{begins, begin-on}
use Rattle.turns.proofs.block.store_few.Goals as goal

pub loop-i-init : goal.loop-i-init
loop-i-init c = begins _ _ _ _ _ (omega arith) c.requires.total_in_bounds.1

pub loop-i-preserved : goal.loop-i-preserved
loop-i-preserved c = begin-on c.loop-i.invariant c.loop-i-test.true c.if-log-i.false refl refl
