-- `put_all` meets its contract: one pair after the other.
use lib.ListN.{length}
use Rattle.writer.proofs.Loops.{Looping, pairs_left}
use Rattle.writer.proofs.put.Stream.put_all.Given as goal

abbrev pub invariant-loop-pair : goal.invariant-loop-pair
invariant-loop-pair l = Looping l.fn.self (length l.pairs) 1 (pairs_left l.pairs) l.self l.pair-index
