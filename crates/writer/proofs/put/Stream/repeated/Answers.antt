-- `repeated` meets its contract: one datum in each turn.
use mathlib.Core.Path.{refl}
use Rattle.writer.proofs.Loops.{loop-on, loop-over, fill-next, fill_none, fill-all}
use native.Mathlib.Omega.{arith}
use Rattle.writer.proofs.put.Stream.repeated.Goals as goal

pub loop-preserved : goal.loop-preserved
loop-preserved c = loop-on c.loop.invariant (fill-next c.args.byte c.args.n c.loop.counter (omega arith)) refl c.put.ensures

pub returns : goal.returns
returns c = let a = c.args in loop-over c.loop.invariant (omega arith) (fill_none a.byte a.n) (fill-all a.byte a.n)
