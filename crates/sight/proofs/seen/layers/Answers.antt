-- `layers` meets its contract: lists of one cell.
use Rattle.std.proofs.Common.{◌∙◌}
use Rattle.sight.proofs.Cells.{refused-seen, layers-taken, layers-refused}
use Rattle.sight.proofs.seen.layers.Goals as goal

pub returns-in_err-row_layers : goal.returns-in_err-row_layers
returns-in_err-row_layers c = let a = c.args in
    let e = c.in_err-row_layers.ensures.err in
    refused-seen c.from_residual.result _ c.from_residual.ensures.1 ∙ layers-refused a.panel a.display a.mem.now a.rom.now a.row a.column c.row_layers.ensures.answer c.in_err-row_layers.was e.0 e.1 e.2

pub returns : goal.returns
returns c = let a = c.args in
    layers-taken a.panel a.display a.mem.now a.rom.now a.row a.column c.row_layers.ensures.answer c.in_ok-row_layers.was
