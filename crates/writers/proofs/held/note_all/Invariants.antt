-- `note_all` meets its contract: one store after the other.
use Rattle.writers.proofs.Holding.{NotingAll}
use Rattle.writers.proofs.held.note_all.Given as goal

abbrev pub invariant-loop-j : goal.invariant-loop-j
invariant-loop-j l = NotingAll l.pair l.at l.before l.memory l.fn.notes l.notes l.j
