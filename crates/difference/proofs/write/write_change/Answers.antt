-- `write_change` meets its contract: the panel, screen a, screen b, then both.
use Rattle.std.proofs.lemmas.Result.{err_from_is_err_and}
use Rattle.difference.proofs.Screens.{change-1, change-a, change-b, change-both}
use Rattle.difference.proofs.write.write_change.Goals as goal

pub returns-then-not-valid-clause-value : goal.returns-then-not-valid-clause-value
returns-then-not-valid-clause-value c = let a = c.args in rw (c.into.ensures.0, c.into.ensures.1) (change-1 a.panel a.book.now a.a a.b a.room.now c.valid.ensures c.if-not-valid.true)

pub returns-in_err-ask-clause-value : goal.returns-in_err-ask-clause-value
returns-in_err-ask-clause-value c = let a = c.args in
    let p = err_from_is_err_and c.from_residual.result c.from_residual.ensures.1 in
    rw (p.1, p.2) (change-a a.panel a.book.now a.a a.b a.room.now c.valid.ensures c.if-not-valid.false _ c.in_err-ask.ensures.value)

pub returns-in_err-ask-2-clause-value : goal.returns-in_err-ask-2-clause-value
returns-in_err-ask-2-clause-value c = let a = c.args in
    let p = err_from_is_err_and c.from_residual-in_err-ask-2.result c.from_residual-in_err-ask-2.ensures.1 in
    rw (p.1, p.2) (change-b a.panel a.book.now a.a a.b a.room.now c.valid.ensures c.if-not-valid.false c.in_ok-ask.ensures.value _ c.in_err-ask-2.ensures.value)

pub returns-clause-value : goal.returns-clause-value
returns-clause-value c = let a = c.args in change-both a.panel a.book.now a.a a.b a.room.now c.valid.ensures c.if-not-valid.false c.in_ok-ask.ensures.value c.in_ok-ask-2.ensures.value c.write_screens.ensures.value
