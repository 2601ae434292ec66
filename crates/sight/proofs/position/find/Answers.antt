-- `find` meets its contract: row by row, at most one column of each has the pointer.
use Rattle.std.proofs.Common.{refl, arith}
use Rattle.sight.proofs.Positions.{searching, search-on, search-found, search-over}
use Rattle.sight.proofs.position.find.Goals as goal

pub returns-then-across-columns : goal.returns-then-across-columns
returns-then-across-columns c =
    search-found c.args.panel c.args.graphic c.loop-row.invariant (omega arith) (omega arith) c.loop-row-test.true c.requires.0 c.if-across-columns.true

pub returns : goal.returns
returns c = search-over c.args.panel c.args.graphic c.loop-row.invariant c.loop-row-test.false
