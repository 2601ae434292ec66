-- `put_body` meets its contract: what is left of the body is still to be put.
use mathlib.Core.Path.{◌≡◌, refl, sym}
use Rattle.std.specs.Prelude.{None}
use Rattle.std.proofs.Common.{rules}
use Rattle.writer.proofs.Bodies.{writing, writing-found, writing-ready, writing-on, writing-ends, writing-never}
use native.Mathlib.Omega.{arith}
use Rattle.writer.proofs.stream.put_body.Goals as goal

pub put_operation-requires : goal.put_operation-requires
put_operation-requires c = let a = c.args in writing-ready a.panel a.book.now a.start a.end c.loop-standing.invariant refl (sym (rw c.in-Ok-Some.field-0-is at c.in-Ok-Some.ensures.value))

pub loop-standing-smaller : goal.loop-standing-smaller
loop-standing-smaller c = let a = c.args in let k = writing-found a.panel a.book.now a.start a.end c.loop-standing.invariant refl (sym (rw c.in-Ok-Some.field-0-is at c.in-Ok-Some.ensures.value)) in omega (arith, k.on, k.to_end)

pub loop-standing-preserved : goal.loop-standing-preserved
loop-standing-preserved c = let a = c.args in writing-on a.panel a.book.now a.start a.end c.loop-standing.invariant refl (sym (rw c.in-Ok-Some.field-0-is at c.in-Ok-Some.ensures.value)) c.put_operation.ensures

pub returns-in_default : goal.returns-in_default
returns-in_default c = let a = c.args in
    let none : c.in_default.field-0 ≡ None = search rules in
    writing-ends a.panel a.book.now a.start a.end c.loop-standing.invariant refl (sym (rw (c.in_default.is, none) at c.read.ensures.value))

pub returns-in_default-2 : goal.returns-in_default-2
returns-in_default-2 c = let a = c.args in absurd (writing-never a.panel a.book.now a.start a.end c.loop-standing.invariant refl (sym (rw c.in_default.is at c.read.ensures.value)))
