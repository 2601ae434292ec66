-- `block` meets its contract: the door, the first data, then the others.
use Rattle.std.proofs.Common.{refl, arith}
use Rattle.turns.proofs.Blocks.{begun-stops, begun-on}
use Rattle.turns.proofs.block.block.Goals as goal

pub returns-then-first-near : goal.returns-then-first-near
returns-then-first-near c = λ m l f. begun-stops c.store_few-first.ensures (omega (arith, c.min-near.ensures)) l c.if-first-near.true

pub returns-then-lent-from : goal.returns-then-lent-from
returns-then-lent-from c = λ m l f. begun-on c.store_few-first.ensures (omega (arith, c.min-near.ensures)) l c.if-first-near.false refl c.store_data.ensures
