-- `paint` meets its contract: each row comes back in its own stretch.
use Rattle.std.proofs.Common.{◌*◌}
use Rattle.ground.specs.Packing.{row_from}
use Rattle.ground.proofs.Rows.{Rowed}
use Rattle.painter.specs.Ready.{shown}
use Rattle.painter.proofs.scene.Scene.paint.Given as goal

abbrev pub invariant-loop-row : goal.invariant-loop-row
invariant-loop-row l = let p = l.self.panel in Rowed l.bytes (8 * p.lines) (λ r. row_from p.columns p.width (shown l.self r)) l.initial.frame l.frame l.row
