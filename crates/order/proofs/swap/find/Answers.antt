-- `find` meets its contract: as many operations are walked over as stand before the first that was asked for.
use Rattle.std.proofs.Common.{◌≡◌, None, sym, rules}
use Rattle.order.proofs.Seeks.{seeking-on, seeking-here, seeking-ends, seeking-never}
use Rattle.order.proofs.swap.find.Goals as goal

pub returns-in_default : goal.returns-in_default
returns-in_default c =
    let none : c.in_default.field-0 ≡ None = search rules in
    seeking-ends _ _ _ _ _ c.loop.invariant (sym (rw (c.in_default.is, none) at c.read.ensures.value))

pub returns-in_default-2 : goal.returns-in_default-2
returns-in_default-2 c = absurd (seeking-never _ _ _ _ _ c.loop.invariant (sym (rw c.in_default.is at c.read.ensures.value)))

pub loop-preserved : goal.loop-preserved
loop-preserved c = seeking-on _ _ _ _ _ c.loop.invariant (sym (rw c.in-Ok-Some.field-0-is at c.in-Ok-Some.ensures.value)) c.loop-test.true

pub returns-in_default-read : goal.returns-in_default-read
returns-in_default-read c =
    let none : c.in_default-read.field-0 ≡ None = search rules in
    seeking-ends _ _ _ _ _ c.loop.invariant (sym (rw (c.in_default-read.is, none) at c.read-2.ensures.value))

pub returns-in_default-read-2 : goal.returns-in_default-read-2
returns-in_default-read-2 c = absurd (seeking-never _ _ _ _ _ c.loop.invariant (sym (rw c.in_default-read.is at c.read-2.ensures.value)))

pub returns : goal.returns
returns c = seeking-here _ _ _ _ _ c.loop.invariant (sym (rw c.in-Ok-Some-read.field-0-is at c.in-Ok-Some-read.ensures.value)) c.loop-test.false c.beside.ensures
