-- `dots_apart` meets its contract: row by row.
use native.Mathlib.Omega.{arith}
use Rattle.state.proofs.Sizes.{lines-few}
use Rattle.comparison.proofs.Aparts.{adding, row-few, adds_on, added-all}
use Rattle.comparison.proofs.dots.Pictures.dots_apart.Goals as goal

pub loop-row-init : goal.loop-row-init
loop-row-init c = (adding _ _ _ _ _ _, omega arith)

pub overflow_add-count : goal.overflow_add-count
overflow_add-count c = let a = c.args.self.now in
    omega (arith, row-few a.panel a.first a.one.now a.second a.two.now a.rom.now c.args.self.now.pictured.panel c.loop-row.invariant.0 c.row_apart-count.ensures, c.loop-row.invariant.0.few, c.loop-row-test.true, lines-few a.panel c.args.self.now.pictured.panel)

pub loop-row-preserved : goal.loop-row-preserved
loop-row-preserved c = let a = c.args.self.now in
    (adds_on a.panel a.first a.one.now a.second a.two.now a.rom.now c.args.self.now.pictured.panel c.loop-row.invariant.0 c.row_apart-count.ensures, omega (arith, c.loop-row-test.true))

pub returns : goal.returns
returns c = added-all _ _ _ _ _ _ c.loop-row.invariant.0 (omega (arith, c.loop-row.invariant.1, c.loop-row-test.false))
