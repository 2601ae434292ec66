-- `read_round` meets its contract: byte by byte, the address going on, or nothing.
use Rattle.ground.specs.Lists.{round_byte}
use Rattle.ground.proofs.Passes.{Passing}
use Rattle.ground.proofs.stretches.read_round.Given as goal

abbrev pub invariant-loop-byte : goal.invariant-loop-byte
invariant-loop-byte l = Passing (round_byte l.width l.mem l.start) l.start l.initial.out l.out l.at l.byte-index
