-- `laid_size` meets its contract: what is left of the screens comes to the whole.
use mathlib.Core.Path.{ap, subst, ◌∙◌}
use native.Mathlib.Omega.{arith}
use Rattle.contents.specs.Contents.{first_body}
use Rattle.contents.specs.Replies.{bodies}
use Rattle.layout.proofs.Sums.{span-here, no_span-left, spans-count, Summing, summing-starts, summing_on, summing-ends}
use Rattle.layout.proofs.lay.laid_size.Goals as goal

pub loop-span-init : goal.loop-span-init
loop-span-init c = let s = c.args in
    summing-starts s.two (bodies s.spans.now) c.requires (c.first_body-size.ensures ∙ ap (first_body s.two) (spans-count s.spans.now))

pub loop-span-preserved : goal.loop-span-preserved
loop-span-preserved c = let s = c.args in let l = c.loop-span in
    summing_on (subst (Summing s.two (bodies s.spans.now) l.size) (span-here s.spans.now l.span-index (omega arith)) l.invariant)

pub returns : goal.returns
returns c = let s = c.args in let l = c.loop-span in
    summing-ends (subst (Summing s.two (bodies s.spans.now) l.size) (no_span-left s.spans.now l.span-index (omega arith)) l.invariant)
