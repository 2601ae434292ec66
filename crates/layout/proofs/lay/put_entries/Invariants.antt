-- `put_entries` meets its contract: what is left of the screens comes to the whole.
use lib.ListN.{drop}
use Rattle.contents.specs.Replies.{bodies}
use Rattle.layout.proofs.Sums.{EntriesPut}
use Rattle.layout.proofs.lay.put_entries.Given as goal

abbrev pub invariant-loop-span : goal.invariant-loop-span
invariant-loop-span l = EntriesPut l.two (bodies l.spans) l.fn.output l.output l.start (bodies (drop l.span-index l.spans))
