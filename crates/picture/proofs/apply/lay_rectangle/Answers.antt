-- `lay_rectangle` meets its contract: row after row.
use Rattle.std.proofs.Common.{◌≡◌, ◌-◌, ◌+◌, arith}
use Rattle.book.proofs.Places.{row-place}
use Rattle.picture.proofs.Storing.{filling-on, filling-over}
use Rattle.picture.proofs.apply.lay_rectangle.Goals as goal

pub fill-requires : goal.fill-requires
fill-requires c = let a = c.args in
    let l = c.loop-row in
    let e : a.top + (l.row - a.top) ≡ l.row = omega arith in
    omega (arith, rw e at (row-place a.panel c.requires.valid c.requires.range (l.row - a.top) (omega arith)))

pub loop-row-preserved : goal.loop-row-preserved
loop-row-preserved c = let a = c.args in filling-on a.panel a.top a.column a.height a.width a.value c.loop-row.invariant c.loop-row-test.true c.fill.ensures

pub returns : goal.returns
returns c = let a = c.args in filling-over a.panel a.top a.column a.height a.width a.value c.loop-row.invariant c.loop-row-test.false
