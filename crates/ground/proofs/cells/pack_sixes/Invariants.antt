-- `pack_sixes` meets its contract: four cells a turn, then the rest.
use Rattle.std.proofs.Common.{◌-◌, length}
use Rattle.ground.proofs.Sixes.{Walked}
use Rattle.ground.proofs.cells.pack_sixes.Given as goal

abbrev pub invariant-loop-c : goal.invariant-loop-c
invariant-loop-c l = Walked l.cells l.initial.out l.out l.c l.at

abbrev pub decreases-loop-c : goal.decreases-loop-c
decreases-loop-c l = length l.cells - l.c
