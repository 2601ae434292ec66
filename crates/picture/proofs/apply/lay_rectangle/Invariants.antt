-- `lay_rectangle` meets its contract: row after row.
use Rattle.picture.proofs.Storing.{Filling}
use Rattle.picture.proofs.apply.lay_rectangle.Given as goal

abbrev pub invariant-loop-row : goal.invariant-loop-row
invariant-loop-row l = Filling l.panel l.top l.column l.height l.width l.value l.initial.graphic l.graphic l.row
