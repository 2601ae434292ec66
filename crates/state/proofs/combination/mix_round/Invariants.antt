-- `mix_round` meets its contract: cell by cell, over the text that stands there, the graphic's address going on, or nothing.
use Rattle.ground.proofs.Passes.{Passing}
use Rattle.state.proofs.Rounds.{mixed_at}
use Rattle.state.proofs.combination.mix_round.Given as goal

abbrev pub invariant-loop-cell : goal.invariant-loop-cell
invariant-loop-cell l = Passing (mixed_at l.bits.text l.bits.graphic l.combination l.width l.mem l.start l.initial.cells) l.start l.initial.cells l.cells l.at l.cell-index
