-- `put_all` meets its contract: one pair after the other.
use mathlib.Core.Path.{refl}
use Rattle.writer.proofs.Loops.{loop-on, loop-over, pairs_next, pairs-none}
use native.Mathlib.Omega.{arith}
use Rattle.writer.proofs.put.Stream.put_all.Goals as goal

pub loop-pair-preserved : goal.loop-pair-preserved
loop-pair-preserved c = loop-on c.loop-pair.invariant (pairs_next c.args.pairs.now c.loop-pair.pair-index _ (omega arith)) refl c.put.ensures

pub returns : goal.returns
returns c = loop-over c.loop-pair.invariant (omega arith) (pairs-none c.args.pairs.now) refl
