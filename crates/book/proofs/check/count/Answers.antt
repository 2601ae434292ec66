-- `count` meets its contract: what is left of the body is counted as the whole.
use mathlib.Core.Path.{refl, ap, ◌∙◌}
use native.Mathlib.Omega.{arith}
use Rattle.std.specs.Prelude.{Ok, Err}
use Rattle.book.specs.Replies.{found}
use Rattle.book.proofs.Counting.{counting-found, counting-on, counting-ends, counting-faulty}
use Rattle.book.proofs.check.count.Goals as goal

pub loop-standing-smaller : goal.loop-standing-smaller
loop-standing-smaller c = let a = c.args in
    let e = ap found (c.in-Ok-Some.is ∙ ap (λ x. Ok x) c.in-Ok-Some.field-0-is) in
    let k = counting-found a.panel a.book.now a.start a.end c.loop-standing.invariant c.read.ensures.value e in omega (arith, k.on, k.to_end)

pub loop-standing-preserved : goal.loop-standing-preserved
loop-standing-preserved c = let a = c.args in
    let e = ap found (c.in-Ok-Some.is ∙ ap (λ x. Ok x) c.in-Ok-Some.field-0-is) in
    counting-on a.panel a.book.now a.start a.end c.loop-standing.invariant c.read.ensures.value e c.pairs-total.ensures

pub returns-in-Ok-None : goal.returns-in-Ok-None
returns-in-Ok-None c = let a = c.args in
    let e = ap found (c.in-Ok-None.is ∙ ap (λ x. Ok x) c.in-Ok-None.field-0-is) in
    counting-ends a.panel a.book.now a.start a.end c.loop-standing.invariant c.read.ensures.value e

pub returns-in-Err : goal.returns-in-Err
returns-in-Err c = let a = c.args in
    let w = rw c.in-Err.is at c.read.ensures.refusal in
    rw w (counting-faulty a.panel a.book.now a.start a.end c.loop-standing.invariant c.read.ensures.value (ap found (c.in-Err.is ∙ ap (λ x. Err x) w)) refl)
