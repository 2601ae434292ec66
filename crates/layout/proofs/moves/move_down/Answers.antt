-- `move_down` meets its contract.
use mathlib.Core.Path.{◌∙◌}
use Rattle.std.proofs.lemmas.Result.{err_from_is_err_and}
use Rattle.contents.specs.Replies.{bodies}
use Rattle.layout.proofs.Laying.{sound-spanned}
use Rattle.layout.proofs.Moving.{first_two, first_one, open-size, down-one, down-wrong, down-other, down_fits}
use Rattle.layout.proofs.moves.move_down.Goals as goal

pub returns-then-byte_at-ne0-clause-value : goal.returns-then-byte_at-ne0-clause-value
returns-then-byte_at-ne0-clause-value c = let s = c.args in
    rw (c.into.ensures.0, c.into.ensures.1) (down-one s.book.now s.out.now (first_one s.book.now c.byte_at.ensures c.if-byte_at-ne0.true))

pub returns-in_err-opened-clause-value : goal.returns-in_err-opened-clause-value
returns-in_err-opened-clause-value c = let s = c.args in
    let p = err_from_is_err_and c.from_residual.result c.from_residual.ensures.1 in
    let o = c.in_err-opened.ensures.contents in
    rw (p.1, p.2, o.0) (down-wrong s.book.now s.out.now (first_two s.book.now c.byte_at.ensures c.if-byte_at-ne0.false) o.1)

pub returns-then-not-numbered-clause-value : goal.returns-then-not-numbered-clause-value
returns-then-not-numbered-clause-value c = let s = c.args in
    rw (c.into-then-not-numbered.ensures.0, c.into-then-not-numbered.ensures.1)
    (down-other s.book.now s.out.now (first_two s.book.now c.byte_at.ensures c.if-byte_at-ne0.false) {bs = bodies c.all-spans.result.now} (rw c.all-spans.ensures c.in_ok-opened.ensures.contents.1) c.numbered.ensures c.if-not-numbered.true)

pub fit-requires : goal.fit-requires
fit-requires c = let s = c.args in
    (sound-spanned s.book.now (rw c.all-spans.ensures c.in_ok-opened.ensures.contents.1), open-size s.book.now (rw c.all-spans.ensures c.in_ok-opened.ensures.contents.1))

pub returns-clause-value : goal.returns-clause-value
returns-clause-value c = let s = c.args in
    c.fit.ensures.value
    ∙ down_fits s.book.now s.out.now (first_two s.book.now c.byte_at.ensures c.if-byte_at-ne0.false) (rw c.all-spans.ensures c.in_ok-opened.ensures.contents.1) c.numbered.ensures c.if-not-numbered.false
