-- `rehearse` meets its contract: the door, then what writing, running and painting answered.
use mathlib.Core.Path.{sym}
use native.Mathlib.Omega.{arith}
use lib.Seq.{length-take-le}
use Rattle.std.proofs.lemmas.Result.{err_from_is_err_and}
use Rattle.rehearsal.proofs.Rehearsals.{door-open, rehearse-1, rehearse-2, rehearse-err, written, rehearse-paints, rehearse-ok}
use Rattle.rehearsal.proofs.rehearse.rehearse.Goals as goal

pub returns-then-not-valid-clause-frame_after : goal.returns-then-not-valid-clause-frame_after
returns-then-not-valid-clause-frame_after c = let s = c.args in
    rw (c.into.ensures.0, c.into.ensures.1) (rehearse-1 s.panel s.registers s.memory.now s.rom.now s.book.now s.number s.room.now s.frame.now c.valid.ensures c.valid-2.ensures c.if-not-valid.true)

pub returns-then-not-fits-clause-frame_after : goal.returns-then-not-fits-clause-frame_after
returns-then-not-fits-clause-frame_after c = let s = c.args in
    rw (c.into-then-not-fits.ensures.0, c.into-then-not-fits.ensures.1) (rehearse-2 s.panel s.registers s.memory.now s.rom.now s.book.now s.number s.room.now s.frame.now c.valid.ensures c.valid-2.ensures c.if-not-valid.false c.frame_size-size.ensures.value c.if-not-fits.true)

pub returns-in_err-written-clause-frame_after : goal.returns-in_err-written-clause-frame_after
returns-in_err-written-clause-frame_after c = let s = c.args in
    let p = err_from_is_err_and c.from_residual.result c.from_residual.ensures.1 in
    rw (p.1, p.2) (rehearse-err s.panel s.registers s.memory.now s.rom.now s.book.now s.number s.room.now s.frame.now (door-open s.panel s.registers s.memory.now s.rom.now s.book.now s.number s.room.now s.frame.now c.valid.ensures c.valid-2.ensures c.if-not-valid.false c.frame_size-size.ensures.value c.if-not-fits.false) _ c.in_err-written.ensures.value)

pub overflow_mul-end : goal.overflow_mul-end
overflow_mul-end c = let s = c.args in omega (arith, (written s.panel s.registers s.memory.now s.rom.now s.book.now s.number s.room.now s.frame.now (door-open s.panel s.registers s.memory.now s.rom.now s.book.now s.number s.room.now s.frame.now c.valid.ensures c.valid-2.ensures c.if-not-valid.false c.frame_size-size.ensures.value c.if-not-fits.false) (λ i. (c.type_inv.book i).fits) c.in_ok-written.ensures.value).few)

pub slice_bounds-run_stopping-end : goal.slice_bounds-run_stopping-end
slice_bounds-run_stopping-end c = let s = c.args in omega (arith, (written s.panel s.registers s.memory.now s.rom.now s.book.now s.number s.room.now s.frame.now (door-open s.panel s.registers s.memory.now s.rom.now s.book.now s.number s.room.now s.frame.now c.valid.ensures c.valid-2.ensures c.if-not-valid.false c.frame_size-size.ensures.value c.if-not-fits.false) (λ i. (c.type_inv.book i).fits) c.in_ok-written.ensures.value).fits, c.write.auto)

pub slice_bounds-run_stopping-end-2 : goal.slice_bounds-run_stopping-end-2
slice_bounds-run_stopping-end-2 c = let s = c.args in sym (length-take-le _ _ (omega (arith, (written s.panel s.registers s.memory.now s.rom.now s.book.now s.number s.room.now s.frame.now (door-open s.panel s.registers s.memory.now s.rom.now s.book.now s.number s.room.now s.frame.now c.valid.ensures c.valid-2.ensures c.if-not-valid.false c.frame_size-size.ensures.value c.if-not-fits.false) (λ i. (c.type_inv.book i).fits) c.in_ok-written.ensures.value).fits, c.write.auto)))

pub returns-in_err-paint : goal.returns-in_err-paint
returns-in_err-paint c = let s = c.args in
    absurd (rehearse-paints s.panel s.registers s.memory.now s.rom.now s.book.now s.number s.room.now s.frame.now (door-open s.panel s.registers s.memory.now s.rom.now s.book.now s.number s.room.now s.frame.now c.valid.ensures c.valid-2.ensures c.if-not-valid.false c.frame_size-size.ensures.value c.if-not-fits.false) (λ i. (c.type_inv.book i).fits) c.in_ok-written.ensures.value _ c.run_stopping-ran.ensures _ c.in_err-paint.ensures.answer)

pub returns-clause-frame_after : goal.returns-clause-frame_after
returns-clause-frame_after c = let s = c.args in
    (rehearse-ok s.panel s.registers s.memory.now s.rom.now s.book.now s.number s.room.now s.frame.now (door-open s.panel s.registers s.memory.now s.rom.now s.book.now s.number s.room.now s.frame.now c.valid.ensures c.valid-2.ensures c.if-not-valid.false c.frame_size-size.ensures.value c.if-not-fits.false) (λ i. (c.type_inv.book i).fits) c.in_ok-written.ensures.value _ c.run_stopping-ran.ensures c.in_ok-paint.ensures.answer).0

pub returns-clause-outright : goal.returns-clause-outright
returns-clause-outright c = let s = c.args in
    (rehearse-ok s.panel s.registers s.memory.now s.rom.now s.book.now s.number s.room.now s.frame.now (door-open s.panel s.registers s.memory.now s.rom.now s.book.now s.number s.room.now s.frame.now c.valid.ensures c.valid-2.ensures c.if-not-valid.false c.frame_size-size.ensures.value c.if-not-fits.false) (λ i. (c.type_inv.book i).fits) c.in_ok-written.ensures.value _ c.run_stopping-ran.ensures c.in_ok-paint.ensures.answer).1
