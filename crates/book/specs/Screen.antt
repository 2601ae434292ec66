-- 01, Screens, and Numbers returned: a screen of a book asked for by its number.
use Rattle.std.specs.Prelude.{ℕ, zero, suc, ◌-◌, List, [], ◌∷◌}
use Rattle.state.specs.declared.panel.Panel.{Panel}
use Rattle.contents.specs.Asked.{asked_of}
use Rattle.contents.specs.Replies.{Asked, Body as Asked-Body, Refused}
use Rattle.book.specs.declared.operation.Placed.{Placed}
use Rattle.book.specs.Replies.{Found, Operation as Found-Operation, End, Faulty}
use Rattle.book.specs.Operation.{Operation, operation_of, found_at}

-- a screen's operations, or a refusal with its place
pub data Screen : Type 0 where
  screen : List Operation → Screen
  refused : ℕ → ℕ → Screen

abbrev pub with_operation : Operation → Screen → Screen
with_operation o (screen os) = screen (o ∷ os)
with_operation o (refused n place) = refused n place

abbrev pub after_found : Found → (Placed → ℕ → Screen) → Screen → Screen → Screen
after_found (Found-Operation o next) on end off = on o next
after_found End on end off = end
after_found Faulty on end off = off

-- the operations from a byte on, at most n of them; 11 for the first faulty one, with its byte in the book
unfoldable pub operations_from : ℕ → Panel → List ℕ → ℕ → ℕ → Screen
operations_from zero p book at end = screen []
operations_from (suc n) p book at end =
    after_found (found_at p book at end) (λ o next. with_operation (operation_of book o) (operations_from n p book next end)) (screen []) (refused 11 at)

-- a body has no more operations than bytes
abbrev pub screen_in : Panel → List ℕ → Asked → Screen
screen_in p book (Asked-Body start end) = operations_from (end - start) p book start end
screen_in p book (Refused n place) = refused n place

-- 9, then 10, then 11, else the operations
unfoldable pub screen_of : Panel → List ℕ → ℕ → Screen
screen_of p book number = screen_in p book (asked_of book number)
