-- `repeated` meets its contract: one datum in each turn.
use Rattle.writer.proofs.Loops.{Looping, fill_left}
use Rattle.writer.proofs.put.Stream.repeated.Given as goal

abbrev pub invariant-loop : goal.invariant-loop
invariant-loop l = Looping l.fn.self l.n 1 (fill_left l.byte l.n) l.self l.counter
