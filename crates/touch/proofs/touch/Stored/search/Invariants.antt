-- `search` meets its contract: cell by cell, none of them so far.
use Rattle.touch.proofs.Searched.{Unmet}
use Rattle.touch.proofs.touch.Stored.search.Given as goal

abbrev pub invariant-loop-column : goal.invariant-loop-column
invariant-loop-column l = Unmet l.self.display l.self.memory.now l.row l.self.at l.self.n l.column
