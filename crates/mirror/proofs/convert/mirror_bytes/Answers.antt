-- `mirror_bytes` meets its contract: byte by byte, each as it was until it is written.
use mathlib.Core.Path.{refl}
use native.Mathlib.Omega.{arith}
use Rattle.ground.proofs.Filling.{none_yet}
use Rattle.mirror.proofs.Orders.{mirrors-one, mirrors-all}
use Rattle.mirror.proofs.convert.mirror_bytes.Goals as goal

pub loop-byte-init : goal.loop-byte-init
loop-byte-init c = none_yet _ _

pub loop-byte-preserved : goal.loop-byte-preserved
loop-byte-preserved c = mirrors-one _ c.loop-byte.invariant c.loop-byte-test.true c.mirrors-table.ensures c.from.ensures (omega arith) refl

pub returns : goal.returns
returns c = mirrors-all _ c.loop-byte.invariant c.loop-byte-test.false
