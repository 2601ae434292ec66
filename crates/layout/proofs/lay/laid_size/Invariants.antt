-- `laid_size` meets its contract: what is left of the screens comes to the whole.
use lib.ListN.{drop}
use Rattle.contents.specs.Replies.{bodies}
use Rattle.layout.proofs.Sums.{Summing}
use Rattle.layout.proofs.lay.laid_size.Given as goal

abbrev pub invariant-loop-span : goal.invariant-loop-span
invariant-loop-span l = Summing l.two (bodies l.spans) l.size (bodies (drop l.span-index l.spans))
