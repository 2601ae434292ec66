-- `find` meets its contract: row by row, at most one column of each has the pointer.
use Rattle.sight.proofs.Positions.{Searching}
use Rattle.sight.proofs.position.find.Given as goal

abbrev pub invariant-loop-row : goal.invariant-loop-row
invariant-loop-row l = Searching l.columns l.initial.start l.graphic.area l.pointer l.start l.row
