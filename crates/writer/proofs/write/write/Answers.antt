-- `write` meets its contract: the screen checked, the room measured, then opening and body.
use mathlib.Core.Path.{refl}
use Rattle.std.proofs.Common.{rules}
use Rattle.std.proofs.lemmas.Result.{err_from_is_err_and}
use Rattle.writer.proofs.Answers.{accepted, body-few, total-few, write-err, write-12, body-ready, write-0}
use native.Mathlib.Omega.{arith}
use Rattle.writer.proofs.write.write.Goals as goal

pub returns-in_err-checked-clause-value : goal.returns-in_err-checked-clause-value
returns-in_err-checked-clause-value c = let a = c.args in
    let p = err_from_is_err_and c.from_residual.result c.from_residual.ensures.1 in
    rw (p.1, p.2) (write-err a.panel a.book.now a.number _ c.in_err-checked.ensures a.room.now)

pub total-pairs-requires : goal.total-pairs-requires
total-pairs-requires c = let a = c.args in record { panel_value = (accepted a.panel a.book.now a.number c.in_ok-checked.ensures refl).panel; few = body-few a.panel a.book.now a.number c.in_ok-checked.ensures refl }

pub overflow_mul-pairs : goal.overflow_mul-pairs
overflow_mul-pairs c = let a = c.args in omega (arith, total-few a.panel a.book.now a.number c.in_ok-checked.ensures refl, c.total-pairs.ensures)

pub returns-then-room-pairs-clause-value : goal.returns-then-room-pairs-clause-value
returns-then-room-pairs-clause-value c = let a = c.args in rw c.total-pairs.ensures (write-12 a.panel a.book.now a.number c.in_ok-checked.ensures refl a.room.now (rw c.total-pairs.ensures at c.if-room-pairs.true))

pub put_opening-requires : goal.put_opening-requires
put_opening-requires c = let a = c.args in record { panel_value = (accepted a.panel a.book.now a.number c.in_ok-checked.ensures refl).panel; room_for = omega (arith, c.if-room-pairs.false, c.total-pairs.ensures) }

pub put_body-requires : goal.put_body-requires
put_body-requires c = let a = c.args in body-ready a.panel a.book.now a.number c.in_ok-checked.ensures refl a.room.now (rw c.total-pairs.ensures at c.if-room-pairs.false) (refl, refl) c.put_opening.ensures

pub returns-clause-value : goal.returns-clause-value
returns-clause-value c = let a = c.args in rw c.total-pairs.ensures (write-0 a.panel a.book.now a.number c.in_ok-checked.ensures refl a.room.now (rw c.total-pairs.ensures at c.if-room-pairs.false) (refl, refl) c.put_opening.ensures c.put_body.ensures (search rules))
