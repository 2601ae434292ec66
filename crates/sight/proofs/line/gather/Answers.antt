-- `gather` meets its contract: the bytes shown, from the column to the edge.
use Rattle.std.proofs.Common.{◌-◌, ◌≤◌, sym, refl, arith, length-take-le}
use Rattle.sight.proofs.Lines.{gathered}
use Rattle.sight.proofs.Readied.{shown-bytes}
use Rattle.sight.proofs.line.gather.Goals as goal

pub returns : goal.returns
returns c = let h : c.args.panel.columns - c.args.column ≤ 80 = omega (arith, c.requires.seeing.columns) in
    gathered _ _ _ _ _ refl refl h (length-take-le _ _ h) (shown-bytes c.requires.seeing _ _ _ _ _ c.row_layers.ensures.answer refl refl)
