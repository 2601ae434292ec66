-- `write_asking` meets its contract: the screen counted, the room measured, the plain stream written, then spread.
use Rattle.std.proofs.lemmas.Result.{err_from_is_err_and}
use Rattle.writer.proofs.Answers.{counted-stream}
use Rattle.asking.proofs.Asks.{asking-err, asking-12, asking-0, plain-written}
use native.Mathlib.Omega.{arith}
use Rattle.asking.proofs.asking.write_asking.Goals as goal

pub returns-in_err-plain-clause-value : goal.returns-in_err-plain-clause-value
returns-in_err-plain-clause-value c = let a = c.args in
    let p = err_from_is_err_and c.from_residual.result c.from_residual.ensures.1 in
    rw (p.1, p.2) (asking-err a.panel a.book.now a.number _ c.in_err-plain.ensures a.room.now)

pub overflow_mul-plain : goal.overflow_mul-plain
overflow_mul-plain c = let a = c.args in omega (arith, (counted-stream a.panel a.book.now a.number c.in_ok-plain.ensures).few)

pub overflow_mul-result : goal.overflow_mul-result
overflow_mul-result c = let a = c.args in omega (arith, (counted-stream a.panel a.book.now a.number c.in_ok-plain.ensures).few)

pub returns-then-room-plain-clause-value : goal.returns-then-room-plain-clause-value
returns-then-room-plain-clause-value c = let a = c.args in asking-12 a.panel a.book.now a.number (counted-stream a.panel a.book.now a.number c.in_ok-plain.ensures) a.room.now c.if-room-plain.true

pub returns-in_err-write : goal.returns-in_err-write
returns-in_err-write c = let a = c.args in
    absurd (plain-written a.panel a.book.now a.number (counted-stream a.panel a.book.now a.number c.in_ok-plain.ensures) a.room.now c.if-room-plain.false _ c.in_err-write.ensures.value)

pub returns-clause-value : goal.returns-clause-value
returns-clause-value c = let a = c.args in asking-0 a.panel a.book.now a.number (counted-stream a.panel a.book.now a.number c.in_ok-plain.ensures) a.room.now c.if-room-plain.false c.in_ok-write.ensures.value c.spread.ensures
