-- `store_stretch` meets its contract: byte after byte.
use Rattle.std.proofs.Common.{◌+◌, ◌*◌, get_or}
use Rattle.ground.proofs.Filling.{Filled}
use Rattle.turns.proofs.block.store_stretch.Given as goal

abbrev pub invariant-loop-j : goal.invariant-loop-j
invariant-loop-j l = Filled (λ j. get_or l.log (2 * (l.from + j) + 1) 0) l.initial.byte-items l.byte-items l.j
