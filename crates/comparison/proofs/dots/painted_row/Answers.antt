-- `painted_row` meets its contract: a row has at most eighty bytes.
use Rattle.std.proofs.Common.{◌∙◌, arith, length-take-le}
use Rattle.state.proofs.Sizes.{is-size}
use Rattle.comparison.proofs.Aparts.{row-size-few, row_first}
use Rattle.comparison.proofs.dots.painted_row.Goals as goal

pub returns-clause-result_value : goal.returns-clause-result_value
returns-clause-result_value c = let a = c.args in
    let v = c.requires in
    let h = row-size-few a.panel v.panel c.row_size-size.ensures in
    row_first a.panel a.display a.mem.now a.rom.now a.row v _ _ (length-take-le c.row_size-size.result _ (omega (arith, h)) ∙ is-size a.panel v.panel c.row_size-size.ensures) c.paint_one.ensures.answer
