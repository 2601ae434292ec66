-- `fit_up` meets its contract.
use mathlib.Core.Path.{sym, ◌∙◌}
use mathlib.Core.Bool.{true}
use Rattle.contents.specs.Replies.{bodies}
use Rattle.layout.specs.Laid.{laid_out, screens_of}
use Rattle.layout.proofs.Laying.{laid-size}
use Rattle.layout.proofs.Moving.{up-long, up_fits}
use Rattle.layout.proofs.Sums.{spanned-wide}
use Rattle.layout.proofs.moves.fit_up.Goals as goal

pub laid_size-size-requires : goal.laid_size-size-requires
laid_size-size-requires c = spanned-wide c.requires

pub returns-then-size-gt-LONGEST_BOOK-clause-value : goal.returns-then-size-gt-LONGEST_BOOK-clause-value
returns-then-size-gt-LONGEST_BOOK-clause-value c = let s = c.args in
    up-long s.out.now (laid_out true (screens_of s.book.now (bodies s.spans.now))) (c.laid_size-size.ensures ∙ sym (laid-size s.book.now (bodies s.spans.now) c.requires.within true)) c.if-size-gt-LONGEST_BOOK.true

pub returns-clause-value : goal.returns-clause-value
returns-clause-value c = let s = c.args in
    c.fit.ensures.value ∙ up_fits s.out.now (laid_out true (screens_of s.book.now (bodies s.spans.now))) (c.laid_size-size.ensures ∙ sym (laid-size s.book.now (bodies s.spans.now) c.requires.within true)) c.if-size-gt-LONGEST_BOOK.false
