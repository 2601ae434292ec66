-- `put_bodies` meets its contract: what is left of the screens comes to the whole.
use mathlib.Core.Path.{subst}
use native.Mathlib.Omega.{arith}
use Rattle.contents.specs.Replies.{bodies}
use Rattle.layout.proofs.Sums.{span-here, no_span-left, BodiesPut, bodies-room, bodies-next, bodies-ends}
use Rattle.layout.proofs.Puts.{between-length}
use Rattle.layout.proofs.lay.put_bodies.Goals as goal

pub put-requires : goal.put-requires
put-requires c = let s = c.args in let l = c.loop-span in
    let h = bodies-room (subst (BodiesPut (bodies s.spans.now) s.book.now s.output.now l.output) (span-here s.spans.now l.span-index (omega arith)) l.invariant) in
    omega (arith, h.2, between-length s.book.now _ _ h.0 h.1)

pub loop-span-preserved : goal.loop-span-preserved
loop-span-preserved c = let s = c.args in let l = c.loop-span in
    bodies-next (subst (BodiesPut (bodies s.spans.now) s.book.now s.output.now l.output) (span-here s.spans.now l.span-index (omega arith)) l.invariant) c.put.ensures

pub returns : goal.returns
returns c = let s = c.args in let l = c.loop-span in
    bodies-ends (subst (BodiesPut (bodies s.spans.now) s.book.now s.output.now l.output) (no_span-left s.spans.now l.span-index (omega arith)) l.invariant)
