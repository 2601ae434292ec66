-- `data` meets its contract: one datum for each byte.
use mathlib.Core.Path.{refl}
use Rattle.writer.proofs.Loops.{loop-on, loop-over, bytes_next, bytes-none}
use native.Mathlib.Omega.{arith}
use Rattle.writer.proofs.put.Stream.data.Goals as goal

pub loop-byte-preserved : goal.loop-byte-preserved
loop-byte-preserved c = loop-on c.loop-byte.invariant (bytes_next c.args.bytes.now c.loop-byte.byte-index (omega arith)) refl c.put.ensures

pub returns : goal.returns
returns c = loop-over c.loop-byte.invariant (omega arith) (bytes-none c.args.bytes.now) refl
