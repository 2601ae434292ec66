-- `mirror_bytes` meets its contract: byte by byte, each as it was until it is written.
use Rattle.ground.proofs.Filling.{Filled}
use Rattle.mirror.proofs.Orders.{mirror_at}
use Rattle.mirror.proofs.convert.mirror_bytes.Given as goal

abbrev pub invariant-loop-byte : goal.invariant-loop-byte
invariant-loop-byte l = Filled (mirror_at l.initial.frame) l.initial.frame l.frame l.byte-index
