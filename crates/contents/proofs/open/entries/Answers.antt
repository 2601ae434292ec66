-- `entries` meets its contract: what is left of the entries is taken as the whole.
use mathlib.Core.Path.{refl, ap, sym, ◌∙◌}
use mathlib.Core.List.{List}
use lib.ListN.{length-set}
use Rattle.contents.specs.declared.spans.Span.{Span}
use Rattle.contents.specs.Contents.{sound}
use Rattle.contents.specs.Replies.{bodies}
use Rattle.contents.specs.Spans.{spans_of}
use Rattle.ground.specs.Lists.{zeros}
use native.Mathlib.Omega.{arith}
use Rattle.std.proofs.lemmas.List.{take_more_set, take_all}
use Rattle.contents.proofs.Opening.{opening-wrong, opening_on, opening-ends, tables-are, take-front}
use Rattle.contents.proofs.open.entries.Goals as goal

pub returns-then-wrong_entry : goal.returns-then-wrong_entry
returns-then-wrong_entry c = let s = c.args in
    let w = opening-wrong s.two s.book.now s.n c.loop-i.invariant.1 (omega (arith, c.loop-i.invariant.0)) c.entry_at-entry.ensures c.wrong_entry.ensures c.if-wrong_entry.true in
    record { value = ap (spans_of s.two) w; contents = (refl, sym w) }

pub loop-i-preserved : goal.loop-i-preserved
loop-i-preserved c = let s = c.args in (
  simp length-set c.loop-i.invariant.0,
  opening_on s.two s.book.now s.n c.loop-i.invariant.1 (omega (arith, c.loop-i.invariant.0)) c.entry_at-entry.ensures c.wrong_entry.ensures c.if-wrong_entry.false c.entry_size-at.ensures
      (take_more_set c.loop-i.span-items c.loop-i.i _ (omega arith)),
)

pub returns : goal.returns
unfolding zeros
returns c = let s = c.args in
    let ss : List Span = c.loop-i.span-items in
    let w = ap (λ (l : List Span). sound (bodies l)) (sym (take_all c.loop-i.i ss (omega arith)))
    ∙ opening-ends s.two s.book.now s.n c.loop-i.invariant.1 (omega (arith, c.loop-i.invariant.0)) in
    record {
      value = tables-are ss _ c.loop-i.invariant.0 c.loop-i.invariant.1.few s.two refl refl refl w;
      contents = (refl, sym w ∙ ap (λ (l : List Span). sound (bodies l)) (sym (take-front ss _ c.loop-i.invariant.0)));
    }
