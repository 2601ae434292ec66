-- `write_both` meets its contract: the stream behind the panel's bytes, or the refusal.
use mathlib.Core.Path.{refl}
use Rattle.std.proofs.Common.{ap, not}
use native.Mathlib.Omega.{arith}
use Rattle.state.proofs.RefusalNumbers.{not_zero}
use Rattle.write.proofs.Writings.{given-none, given-refused, pairs-few, given-written}
use Rattle.write.proofs.write_both.Goals as goal

pub returns-then-not-fits : goal.returns-then-not-fits
returns-then-not-fits c = given-none c.args.dual c.args.input.now c.args.out.now c.args.error.now (ap not c.if-not-fits.true)

pub returns-in-Err : goal.returns-in-Err
returns-in-Err c = given-refused c.args.dual c.args.input.now c.args.out.now c.args.error.now (ap not c.if-not-fits.false) c.panel_in-panel.ensures c.word_at-key.ensures c.rest_in-book.ensures c.in-Err.ensures.value (not_zero c.in-Err.refused.refusal) c.put_refusal-line.ensures

pub overflow_mul-result : goal.overflow_mul-result
overflow_mul-result c = omega (arith, pairs-few c.args.dual c.args.input.now c.args.out.now c.args.error.now (ap not c.if-not-fits.false) c.panel_in-panel.ensures c.word_at-key.ensures c.rest_in-book.ensures c.in-Ok.ensures.value refl)

pub overflow_add-result : goal.overflow_add-result
overflow_add-result c = omega (arith, pairs-few c.args.dual c.args.input.now c.args.out.now c.args.error.now (ap not c.if-not-fits.false) c.panel_in-panel.ensures c.word_at-key.ensures c.rest_in-book.ensures c.in-Ok.ensures.value refl)

pub returns-in-Ok : goal.returns-in-Ok
returns-in-Ok c = given-written c.args.dual c.args.input.now c.args.out.now c.args.error.now (ap not c.if-not-fits.false) c.panel_in-panel.ensures c.word_at-key.ensures c.rest_in-book.ensures c.in-Ok.ensures.value refl c.byte_in.ensures c.byte_in-in-Ok.ensures c.byte_in-in-Ok-2.ensures
