-- `check` meets its contract: the panel, then the contents, then the body.
use mathlib.Core.Path.{refl, sym}
use Rattle.std.proofs.lemmas.Result.{err_from_is_err_and}
use Rattle.contents.proofs.Asking.{asked-inside}
use Rattle.book.proofs.Verdicts.{checked-1, checked_refused, checked-body}
use Rattle.book.proofs.check.check.Goals as goal

pub returns-then-not-valid : goal.returns-then-not-valid
returns-then-not-valid c = let a = c.args in rw (c.from.ensures.0, c.from.ensures.1) (checked-1 a.panel a.book.now a.number c.valid.ensures c.if-not-valid.true refl)

pub returns-in_err-body : goal.returns-in_err-body
returns-in_err-body c = let a = c.args in
    let p = err_from_is_err_and c.from_residual.result c.from_residual.ensures.1 in
    rw (p.1, p.2) (checked_refused a.panel a.book.now a.number c.valid.ensures c.if-not-valid.false refl (sym c.in_err-body.ensures.value) refl)

pub count-requires-clause-inside : goal.count-requires-clause-inside
count-requires-clause-inside c = let a = c.args in asked-inside a.book.now a.number (sym c.in_ok-body.ensures.value)

pub returns-in_err-pairs : goal.returns-in_err-pairs
returns-in_err-pairs c = let a = c.args in
    let p = err_from_is_err_and c.from_residual-in_err-pairs.result c.from_residual-in_err-pairs.ensures.1 in
    rw (p.1, p.2) (checked-body a.panel a.book.now a.number c.valid.ensures c.if-not-valid.false refl (sym c.in_ok-body.ensures.value) c.in_err-pairs.ensures)

pub returns : goal.returns
returns c = let a = c.args in checked-body a.panel a.book.now a.number c.valid.ensures c.if-not-valid.false refl (sym c.in_ok-body.ensures.value) c.in_ok-pairs.ensures
