-- `store` meets its contract: what is left to store always comes to the whole.
use Rattle.std.proofs.Common.{take}
use Rattle.sight.proofs.Lines.{Storing}
use Rattle.sight.proofs.line.store.Given as goal

abbrev pub invariant-loop-byte : goal.invariant-loop-byte
invariant-loop-byte l = Storing l.initial.mem l.address (take l.fn.line.count l.fn.line.bytes) l.mem l.at l.byte-index
