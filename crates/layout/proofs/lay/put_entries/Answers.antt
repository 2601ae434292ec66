-- `put_entries` meets its contract: what is left of the screens comes to the whole.
use mathlib.Core.Path.{subst}
use native.Mathlib.Omega.{arith}
use Rattle.contents.specs.Replies.{bodies}
use Rattle.layout.proofs.Sums.{span-here, no_span-left, EntriesPut, entries_next, entries-ends}
use Rattle.layout.proofs.lay.put_entries.Goals as goal

pub loop-span-preserved : goal.loop-span-preserved
loop-span-preserved c = let s = c.args in let l = c.loop-span in
    entries_next (subst (EntriesPut s.two (bodies s.spans.now) s.output.now l.output l.start) (span-here s.spans.now l.span-index (omega arith)) l.invariant)
    c.put_entry.ensures

pub returns : goal.returns
returns c = let s = c.args in let l = c.loop-span in
    entries-ends (subst (EntriesPut s.two (bodies s.spans.now) s.output.now l.output l.start) (no_span-left s.spans.now l.span-index (omega arith)) l.invariant)
