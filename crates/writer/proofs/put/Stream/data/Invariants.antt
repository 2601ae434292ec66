-- `data` meets its contract: one datum for each byte.
use lib.ListN.{length}
use Rattle.writer.proofs.Loops.{Looping, bytes_left}
use Rattle.writer.proofs.put.Stream.data.Given as goal

abbrev pub invariant-loop-byte : goal.invariant-loop-byte
invariant-loop-byte l = Looping l.fn.self (length l.bytes) 1 (bytes_left l.bytes) l.self l.byte-index
