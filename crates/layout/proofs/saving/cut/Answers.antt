-- `cut` meets its contract: what is left of the screens comes to the whole.
use mathlib.Core.Path.{refl, subst}
use native.Mathlib.Omega.{arith}
use Rattle.contents.specs.Replies.{bodies}
use Rattle.layout.proofs.Cuts.{Cutting, cutting-starts, cutting-room, cutting-on, cut-bodies, cut-kept-bytes, cut-dropped-bytes}
use Rattle.layout.proofs.Sums.{span-here, no_span-left, spans-count}
use Rattle.layout.proofs.saving.cut.Goals as goal

pub loop-i-init : goal.loop-i-init
loop-i-init c = let s = c.args in cutting-starts s.panel s.book.now (bodies s.spans.now) c.requires

pub overflow_sub-screens : goal.overflow_sub-screens
overflow_sub-screens c = let s = c.args in let l = c.loop-i in
    (cutting-room s.panel s.book.now (bodies s.spans.now) (subst (Cutting s.panel s.book.now (bodies s.spans.now) l.cut l.screens l.i) (span-here s.spans.now l.i (omega arith)) l.invariant) c.good_end-good.ensures).1.0

pub overflow_sub-screens-in-loop-i : goal.overflow_sub-screens-in-loop-i
overflow_sub-screens-in-loop-i c = let s = c.args in let l = c.loop-i in
    (cutting-room s.panel s.book.now (bodies s.spans.now) (subst (Cutting s.panel s.book.now (bodies s.spans.now) l.cut l.screens l.i) (span-here s.spans.now l.i (omega arith)) l.invariant) c.good_end-good.ensures).1.1

pub loop-i-preserved : goal.loop-i-preserved
loop-i-preserved c = let s = c.args in let l = c.loop-i in
    cutting-on s.panel s.book.now (bodies s.spans.now) (subst (Cutting s.panel s.book.now (bodies s.spans.now) l.cut l.screens l.i) (span-here s.spans.now l.i (omega arith)) l.invariant) c.good_end-good.ensures refl refl refl

pub returns : goal.returns
returns c = let s = c.args in let l = c.loop-i in
    let k = subst (Cutting s.panel s.book.now (bodies s.spans.now) l.cut l.screens l.i) (no_span-left s.spans.now l.i (omega arith)) l.invariant in
    record {
      spans = cut-bodies s.panel s.book.now (bodies s.spans.now) k _ (spans-count s.spans.now) (omega (arith, spans-count s.spans.now, c.requires.few));
      kept = cut-kept-bytes s.panel s.book.now (bodies s.spans.now) k;
      dropped = cut-dropped-bytes s.panel s.book.now (bodies s.spans.now) k;
    }
