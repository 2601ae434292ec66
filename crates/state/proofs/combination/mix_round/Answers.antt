-- `mix_round` meets its contract: cell by cell, over the text that stands there, the graphic's address going on, or nothing.
use Rattle.std.proofs.Common.{sym, refl, ◌∙◌, arith}
use Rattle.ground.proofs.Filling.{at-end}
use Rattle.ground.proofs.Passes.{passes-from}
use Rattle.state.proofs.Rounds.{mixes-on, all-mixed, none-mixed}
use Rattle.state.proofs.combination.mix_round.Goals as goal

pub loop-cell-init : goal.loop-cell-init
loop-cell-init c = passes-from _ _ _ (omega arith)

pub loop-cell-preserved : goal.loop-cell-preserved
loop-cell-preserved c = let a = c.args in
    mixes-on a.bits.text a.bits.graphic a.combination a.width a.mem.now a.start a.cells.now c.loop-cell.invariant c.loop-cell-test.true c.low-graphic.ensures c.mix.ensures refl

pub returns-after-loop-cell : goal.returns-after-loop-cell
returns-after-loop-cell c = at-end _ _ c.loop-cell.invariant.filled _ refl c.loop-cell-test.false ∙ sym (all-mixed _ _ _ _ _ _ _ c.if-mem-eq65536.true)

pub returns-else-mem-eq65536 : goal.returns-else-mem-eq65536
returns-else-mem-eq65536 c = sym (none-mixed _ _ _ _ _ _ _ c.if-mem-eq65536.false)
