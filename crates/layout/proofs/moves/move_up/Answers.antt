-- `move_up` meets its contract.
use mathlib.Core.Path.{sym, ◌∙◌}
use Rattle.std.proofs.lemmas.Result.{err_from_is_err_and}
use Rattle.layout.proofs.Laying.{sound-spanned}
use Rattle.layout.proofs.Moving.{first_two, first_one, up-panel, up-two, up-wrong, up-refused, up-plain}
use Rattle.layout.proofs.moves.move_up.Goals as goal

pub returns-then-not-valid-clause-value : goal.returns-then-not-valid-clause-value
returns-then-not-valid-clause-value c = let s = c.args in
    rw (c.into.ensures.0, c.into.ensures.1) (up-panel s.panel s.book.now s.out.now (sym c.valid.ensures ∙ c.if-not-valid.true))

pub returns-then-byte_at-eq0-clause-value : goal.returns-then-byte_at-eq0-clause-value
returns-then-byte_at-eq0-clause-value c = let s = c.args in
    rw (c.into-then-byte_at-eq0.ensures.0, c.into-then-byte_at-eq0.ensures.1)
    (up-two s.panel s.book.now s.out.now (sym c.valid.ensures ∙ c.if-not-valid.false) (first_two s.book.now c.byte_at.ensures c.if-byte_at-eq0.true))

pub returns-in_err-opened-clause-value : goal.returns-in_err-opened-clause-value
returns-in_err-opened-clause-value c = let s = c.args in
    let p = err_from_is_err_and c.from_residual.result c.from_residual.ensures.1 in
    let o = c.in_err-opened.ensures.contents in
    rw (p.1, p.2, o.0) (up-wrong s.panel s.book.now s.out.now (sym c.valid.ensures ∙ c.if-not-valid.false) (first_one s.book.now c.byte_at.ensures c.if-byte_at-eq0.false) o.1)

pub returns-in_err-read_bodies-clause-value : goal.returns-in_err-read_bodies-clause-value
returns-in_err-read_bodies-clause-value c = let s = c.args in
    let p = err_from_is_err_and c.from_residual-in_err-read_bodies.result c.from_residual-in_err-read_bodies.ensures.1 in
    rw (p.1, p.2)
    (up-refused s.panel s.book.now s.out.now (sym c.valid.ensures ∙ c.if-not-valid.false) (first_one s.book.now c.byte_at.ensures c.if-byte_at-eq0.false) (rw c.all-spans.ensures c.in_ok-opened.ensures.contents.1) _
    c.in_err-read_bodies.ensures)

pub fit_up-requires : goal.fit_up-requires
fit_up-requires c = sound-spanned c.args.book.now (rw c.all-spans.ensures c.in_ok-opened.ensures.contents.1)

pub returns-clause-value : goal.returns-clause-value
returns-clause-value c = let s = c.args in
    c.fit_up.ensures.value
    ∙ up-plain s.panel s.book.now s.out.now (sym c.valid.ensures ∙ c.if-not-valid.false) (first_one s.book.now c.byte_at.ensures c.if-byte_at-eq0.false) (rw c.all-spans.ensures c.in_ok-opened.ensures.contents.1)
    c.in_ok-read_bodies.ensures
