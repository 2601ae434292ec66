-- `good_end` meets its contract: what is left of the body is taken as the whole.
use mathlib.Core.Path.{◌≡◌, refl, sym}
use Rattle.std.specs.Prelude.{None}
use Rattle.std.proofs.Common.{rules}
use Rattle.layout.proofs.Good.{good-found, good-on, good-ends, good-faulty}
use native.Mathlib.Omega.{arith}
use Rattle.layout.proofs.saving.good_end.Goals as goal

pub loop-standing-smaller : goal.loop-standing-smaller
loop-standing-smaller c = let s = c.args in
    let k = good-found s.panel s.book.now s.end c.loop-standing.invariant refl (sym (rw c.in-Ok-Some.field-0-is at c.in-Ok-Some.ensures.value)) in
    omega (arith, k.on, k.to_end)

pub loop-standing-preserved : goal.loop-standing-preserved
loop-standing-preserved c = let s = c.args in
    good-on s.panel s.book.now s.end c.loop-standing.invariant refl (sym (rw c.in-Ok-Some.field-0-is at c.in-Ok-Some.ensures.value))

pub returns-in_default : goal.returns-in_default
returns-in_default c = let s = c.args in
    let none : c.in_default.field-0 ≡ None = search rules in
    good-ends s.panel s.book.now s.end c.loop-standing.invariant refl (sym (rw (c.in_default.is, none) at c.read.ensures.value))

pub returns-in_default-2 : goal.returns-in_default-2
returns-in_default-2 c = let s = c.args in
    good-faulty s.panel s.book.now s.end c.loop-standing.invariant refl (sym (rw c.in_default.is at c.read.ensures.value))
