-- `find` meets its contract: as many operations are walked over as stand before the first that was asked for.
use Rattle.order.proofs.Seeks.{Seeking}
use Rattle.order.proofs.swap.find.Given as goal

abbrev pub invariant-loop : goal.invariant-loop
invariant-loop l = Seeking l.panel l.book l.start l.end l.i l.next l.counter
