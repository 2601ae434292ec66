-- `cut` meets its contract: what is left of the screens comes to the whole.
use lib.ListN.{drop}
use Rattle.contents.specs.Replies.{bodies}
use Rattle.layout.proofs.Cuts.{Cutting}
use Rattle.layout.proofs.saving.cut.Given as goal

abbrev pub invariant-loop-i : goal.invariant-loop-i
invariant-loop-i l = Cutting l.panel l.book (bodies l.spans) l.cut l.screens l.i (bodies (drop l.i l.spans))
