-- `convert` meets its contract: the tests at the door, in order, then the bytes.
use borrow.Author.Tests.{eq-eqb, ne_eqb}
use Rattle.mirror.proofs.Doors.{converts-0, converts-1, converts-2}
use Rattle.mirror.proofs.convert.convert.Goals as goal

pub returns-then-not-valid-clause-answer : goal.returns-then-not-valid-clause-answer
returns-then-not-valid-clause-answer c = converts-1 _ _ c.valid-valid.ensures c.if-not-valid.true

pub returns-then-not-fits-clause-answer : goal.returns-then-not-fits-clause-answer
returns-then-not-fits-clause-answer c = converts-2 _ _ c.valid-valid.ensures c.if-not-valid.false c.frame_size-size.ensures.value (ne_eqb _ _ c.if-not-fits.true)

pub returns-clause-answer : goal.returns-clause-answer
returns-clause-answer c = converts-0 _ _ c.valid-valid.ensures c.if-not-valid.false
    c.frame_size-size.ensures.value (eq-eqb _ _ c.if-not-fits.false) c.mirror_bytes.ensures
