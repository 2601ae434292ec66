-- `put_ran` meets its contract: the first line, and where no refusal bars them the answers and the frame.
use Prim.Native.Nat.{ℕ}
use native.Mathlib.Omega.{arith}
use lib.ListN.{length-replicate}
use lib.Seq.{length-take-le}
use Rattle.controller.specs.Run.{ran_all}
use Rattle.log_program.proofs.Prints.{text-short, text-long, answers-behind, next-few, next-inside, frame-behind, text-few}
use Rattle.log_program.proofs.print.put_ran.Goals as goal

pub returns-then-invalid-odd-clause-text_put : goal.returns-then-invalid-odd-clause-text_put
returns-then-invalid-odd-clause-text_put c = let s = c.args in
    text-short s.panel s.rom.now (ran_all s.ran s.memory.now s.answers.now) (rw (c.number.ensures, c.number-2.ensures) at c.if-invalid-odd.true) c.put_line-line.ensures.text_put

pub overflow_add-next : goal.overflow_add-next
overflow_add-next c = let line = c.put_line-line.ensures in
    omega (arith, next-few c.args.panel c.args.ran c.requires line.text_put line.upper_bound c.print_answers.ensures)

pub slice_bounds-print_rows-count : goal.slice_bounds-print_rows-count
slice_bounds-print_rows-count c = let line = c.put_line-line.ensures in
    next-inside c.args.panel c.args.ran c.requires line.text_put line.upper_bound c.print_answers.ensures

pub slice_bounds-print_rows-start : goal.slice_bounds-print_rows-start
slice_bounds-print_rows-start c = let line = c.put_line-line.ensures in
    next-inside c.args.panel c.args.ran c.requires line.text_put line.upper_bound c.print_answers.ensures

pub overflow_add-result : goal.overflow_add-result
overflow_add-result c = let line = c.put_line-line.ensures in
    let size = c.frame_size-size in
    omega (arith, text-few c.args.panel c.args.ran c.requires line.text_put line.upper_bound c.print_answers.ensures (rw (c.number.ensures, c.number-2.ensures) at c.if-invalid-odd.false) size.ensures.value _ (length-take-le size.result _ (omega (arith, size.ensures.upper_bound, length-replicate {0} {A = ℕ} 20480 0))) c.paint.ensures.answer c.print_rows.ensures)

pub returns-clause-text_put : goal.returns-clause-text_put
returns-clause-text_put c = let s = c.args in
    let line = c.put_line-line.ensures in
    let size = c.frame_size-size in
    text-long s.panel s.rom.now (ran_all s.ran s.memory.now s.answers.now) (rw (c.number.ensures, c.number-2.ensures) at c.if-invalid-odd.false) line.text_put (answers-behind s.panel s.ran c.requires line.text_put line.upper_bound c.print_answers.ensures)
    (frame-behind s.panel s.ran c.requires line.text_put line.upper_bound c.print_answers.ensures (rw (c.number.ensures, c.number-2.ensures) at c.if-invalid-odd.false) size.ensures.value _ (length-take-le size.result _ (omega (arith, size.ensures.upper_bound, length-replicate {0} {A = ℕ} 20480 0))) c.paint.ensures.answer c.print_rows.ensures)

pub returns-clause-upper_bound : goal.returns-clause-upper_bound
returns-clause-upper_bound c = let line = c.put_line-line.ensures in
    let size = c.frame_size-size in
    text-few c.args.panel c.args.ran c.requires line.text_put line.upper_bound c.print_answers.ensures (rw (c.number.ensures, c.number-2.ensures) at c.if-invalid-odd.false) size.ensures.value _ (length-take-le size.result _ (omega (arith, size.ensures.upper_bound, length-replicate {0} {A = ℕ} 20480 0))) c.paint.ensures.answer c.print_rows.ensures
