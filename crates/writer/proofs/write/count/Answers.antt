-- `count` meets its contract: the screen checked, then its pairs.
use mathlib.Core.Path.{refl}
use Rattle.std.proofs.lemmas.Result.{err_from_is_err_and}
use Rattle.writer.proofs.Answers.{accepted, body-few, count-err, count-0}
use Rattle.writer.proofs.write.count.Goals as goal

pub returns-in_err-checked : goal.returns-in_err-checked
returns-in_err-checked c = let a = c.args in
    let p = err_from_is_err_and c.from_residual.result c.from_residual.ensures.1 in
    rw (p.1, p.2) (count-err a.panel a.book.now a.number _ c.in_err-checked.ensures)

pub total-requires : goal.total-requires
total-requires c = let a = c.args in record { panel_value = (accepted a.panel a.book.now a.number c.in_ok-checked.ensures refl).panel; few = body-few a.panel a.book.now a.number c.in_ok-checked.ensures refl }

pub returns : goal.returns
returns c = let a = c.args in rw c.total.ensures (count-0 a.panel a.book.now a.number c.in_ok-checked.ensures refl)
