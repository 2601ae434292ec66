-- `fit` meets its contract.
use mathlib.Core.Path.{sym, ◌∙◌}
use Rattle.contents.specs.Replies.{bodies}
use Rattle.layout.specs.Laid.{laid_out, screens_of}
use Rattle.layout.proofs.Laying.{laid-size, fit-done, fit-short}
use Rattle.layout.proofs.Sums.{spanned-wide}
use Rattle.layout.proofs.moves.fit.Goals as goal

pub laid_size-size-requires : goal.laid_size-size-requires
laid_size-size-requires c = spanned-wide c.requires.0

pub returns-then-size-out-clause-value : goal.returns-then-size-out-clause-value
returns-then-size-out-clause-value c = let s = c.args in
    fit-done (laid_out s.two (screens_of s.book.now (bodies s.spans.now))) (c.laid_size-size.ensures ∙ sym (laid-size s.book.now (bodies s.spans.now) c.requires.0.within s.two)) c.if-size-out.true c.lay.ensures

pub returns-clause-value : goal.returns-clause-value
returns-clause-value c = let s = c.args in
    fit-short (laid_out s.two (screens_of s.book.now (bodies s.spans.now))) (c.laid_size-size.ensures ∙ sym (laid-size s.book.now (bodies s.spans.now) c.requires.0.within s.two)) c.if-size-out.false
