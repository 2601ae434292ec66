-- `paint_row` meets its contract: the cells gathered, then packed.
use Rattle.std.proofs.Common.{◌≡◌, ℕ, ◌<◌, length, get_or}
use Rattle.painter.specs.Ready.{shown}
use Rattle.painter.proofs.scene.Scene.paint_row.Given as goal

abbrev pub invariant-loop-column : goal.invariant-loop-column
invariant-loop-column l = record {
  long : length l.cells ≡ l.self.panel.columns;
  gathered : (k : ℕ) → k < l.column → get_or l.cells k 0 ≡ shown l.self l.row k;
}
