-- `pack` meets its contract: its two tests, then the row.
use Rattle.std.proofs.Common.{◌∙◌}
use Rattle.ground.proofs.Packs.{pack-shut, pack-misfit, pack-fits}
use Rattle.ground.proofs.cells.pack.Goals as goal

pub returns-then-out-bytes : goal.returns-then-out-bytes
returns-then-out-bytes c = let a = c.args in c.pack_row.ensures ∙ pack-fits a.width a.cells.now a.out.now c.if-width-cells.true c.if-out-bytes.true

pub returns-else-out-bytes : goal.returns-else-out-bytes
returns-else-out-bytes c = let a = c.args in pack-misfit a.width a.cells.now a.out.now c.if-width-cells.true c.if-out-bytes.false

pub returns-else-width-cells : goal.returns-else-width-cells
returns-else-width-cells c = let a = c.args in pack-shut a.width a.cells.now a.out.now c.if-width-cells.false
