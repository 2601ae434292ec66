-- `shade` meets its contract: cell by cell, over the dots that stand there, the attributes' address going on, or nothing.
use Rattle.ground.proofs.Passes.{Passing}
use Rattle.state.specs.Attribute.{shaded_at}
use Rattle.state.proofs.attribute.shade.Given as goal

abbrev pub invariant-loop-cell : goal.invariant-loop-cell
invariant-loop-cell l = Passing (shaded_at l.width l.mem l.start l.table l.initial.cells) l.start l.initial.cells l.cells l.at l.cell-index
