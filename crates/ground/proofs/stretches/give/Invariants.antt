-- `give` meets its contract: byte by byte, up to the shorter one's end.
use Rattle.std.proofs.Common.{get_or}
use Rattle.ground.proofs.Filling.{Filled}
use Rattle.ground.proofs.stretches.give.Given as goal

abbrev pub invariant-loop-j : goal.invariant-loop-j
invariant-loop-j l = Filled (λ j. get_or l.from j 0) l.initial.byte-items l.byte-items l.j
