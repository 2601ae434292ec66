-- `shade` meets its contract: cell by cell, over the dots that stand there, the attributes' address going on, or nothing.
use Rattle.std.proofs.Common.{◌<◌, get_or, sym, refl, ◌∙◌, arith}
use Rattle.ground.proofs.Filling.{at-end}
use Rattle.ground.proofs.Passes.{passes-from}
use Rattle.state.proofs.Rounds.{shades-on, all-shaded, none-shaded}
use Rattle.state.proofs.attribute.shade.Goals as goal

pub loop-cell-init : goal.loop-cell-init
loop-cell-init c = passes-from _ _ _ (omega arith)

pub loop-cell-preserved : goal.loop-cell-preserved
loop-cell-preserved c = let a = c.args in
    let few : get_or c.loop-cell.cells c.loop-cell.cell-index 0 < 256 = omega arith in
    shades-on a.width a.mem.now a.start a.table.now a.cells.now _ c.loop-cell.invariant c.loop-cell-test.true c.full-all.ensures (omega (arith, few)) (omega arith) few refl

pub returns-after-loop-cell : goal.returns-after-loop-cell
returns-after-loop-cell c = at-end _ _ c.loop-cell.invariant.filled _ refl c.loop-cell-test.false ∙ sym (all-shaded _ _ _ _ _ refl c.if-mem-table.true)

pub returns-else-mem-table : goal.returns-else-mem-table
returns-else-mem-table c = sym (none-shaded _ _ _ _ _ refl c.if-mem-table.false)
