-- `fill` meets its contract: entry and store after one another.
use Rattle.noting.proofs.Laying.{Filled}
use Rattle.noting.proofs.block.fill.Given as goal

abbrev pub invariant-loop-k : goal.invariant-loop-k
invariant-loop-k l = Filled l.log l.from l.n l.start l.initial.memory l.memory l.fn.notes l.notes l.k
