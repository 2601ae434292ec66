-- `put_bodies` meets its contract: what is left of the screens comes to the whole.
use lib.ListN.{drop}
use Rattle.contents.specs.Replies.{bodies}
use Rattle.layout.proofs.Sums.{BodiesPut}
use Rattle.layout.proofs.lay.put_bodies.Given as goal

abbrev pub invariant-loop-span : goal.invariant-loop-span
invariant-loop-span l = BodiesPut (bodies l.spans) l.book l.fn.output l.output (bodies (drop l.span-index l.spans))
