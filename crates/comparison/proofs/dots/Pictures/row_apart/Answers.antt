-- `row_apart` meets its contract: two rows painted, their dots compared.
use Rattle.comparison.proofs.Aparts.{row-apart}
use Rattle.comparison.proofs.dots.Pictures.row_apart.Goals as goal

pub returns : goal.returns
returns c = let a = c.args.self.now in
    row-apart a.panel a.first a.one.now a.second a.two.now a.rom.now c.args.row c.painted_row-a.result c.painted_row-b.result c.painted_row-a.ensures.result_value c.painted_row-b.ensures.result_value c.count_dots.ensures
