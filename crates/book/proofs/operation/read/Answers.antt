-- `read` meets its contract.
use mathlib.Core.Path.{refl}
use borrow.Author.Tests.{le-leb, lt-leb}
use Rattle.book.specs.Operation.{found_at}
use Rattle.book.proofs.Numbers.{found-numbered}
use Rattle.book.proofs.operation.read.Goals as goal

pub returns-then-end-at : goal.returns-then-end-at
unfolding found_at
returns-then-end-at c = let s = c.args in
    let both = found-numbered s.panel s.book.now s.at s.end (rw (le-leb _ _ c.if-end-at.true)) in record { value = both.0; result_value = both.1; refusal = tt }

pub returns-in-Some : goal.returns-in-Some
unfolding found_at
returns-in-Some c = let s = c.args in
    let both = found-numbered s.panel s.book.now s.at s.end (rw (lt-leb _ _ c.if-end-at.false, le-leb _ _ c.if-book-end.false) c.in-Some.ensures) in record { value = both.0; result_value = both.1; refusal = tt }

pub returns-in-None : goal.returns-in-None
unfolding found_at
returns-in-None c = let s = c.args in
    let both = found-numbered s.panel s.book.now s.at s.end (rw (lt-leb _ _ c.if-end-at.false, le-leb _ _ c.if-book-end.false) c.in-None.ensures) in record { value = both.0; result_value = both.1; refusal = refl }

pub returns-then-book-end : goal.returns-then-book-end
unfolding found_at
returns-then-book-end c = let s = c.args in
    let both = found-numbered s.panel s.book.now s.at s.end (rw (lt-leb _ _ c.if-end-at.false, lt-leb _ _ c.if-book-end.true)) in record { value = both.0; result_value = both.1; refusal = refl }
