-- `mark_planes` meets its contract: row by row.
use Rattle.ground.proofs.Filling.{Filled}
use Rattle.touch.proofs.Marks.{mark_at, plane_test}
use Rattle.touch.proofs.touch.Stored.mark_planes.Given as goal

abbrev pub invariant-loop-row : goal.invariant-loop-row
invariant-loop-row l = Filled (mark_at (plane_test l.self.display l.columns l.self.at l.self.n l.altered) l.initial.flags) l.initial.flags l.flags l.row
