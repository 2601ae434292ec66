-- What comes back of a book's operations, read from the results: what reading found, and a whole screen checked.
use Rattle.std.specs.Prelude.{ℕ, Result, Ok, Err, Option, Some, None}
use Rattle.state.specs.Refusals.{number_of}
use Rattle.state.specs.declared.refusal.Refusal.{Refusal}
use Rattle.state.specs.declared.refusal.Refused.{Refused}
use Rattle.book.specs.declared.check.Checked.{Checked as Checked-Body}
use Rattle.book.specs.declared.operation.Placed.{Placed}
use Rattle.book.specs.declared.operation.Standing.{Standing}

-- an operation and the byte behind it, the body's end, or an operation that is unknown, cut or out of range
pub data Found : Type 0 where
  Operation : Placed → ℕ → Found
  End : Found
  Faulty : Found

abbrev pub found : Result (Option Standing) Refusal → Found
found (Ok (Some s)) = Operation s.placed s.next
found (Ok None) = End
found (Err e) = Faulty

-- one that begins inside the body
abbrev pub standing : Option Standing → Found
standing (Some s) = Operation s.placed s.next
standing None = Faulty

-- a number and place; where the body begins and ends, and the pairs of its operations, 0 where it was refused
pub record Checked : Type 0 where
  pub number : ℕ
  pub place : ℕ
  pub start : ℕ
  pub end : ℕ
  pub pairs : ℕ

abbrev pub checked : Result Checked-Body Refused → Checked
checked (Ok c) = record { number = 0; place = 0; start = c.start; end = c.end; pairs = c.pairs }
checked (Err e) = record { number = number_of e.refusal; place = e.place; start = 0; end = 0; pairs = 0 }

-- the pairs of a body, or a refusal
abbrev pub counted : ℕ → ℕ → Result ℕ Refused → Checked
counted start end (Ok n) = record { number = 0; place = 0; start = start; end = end; pairs = n }
counted start end (Err e) = record { number = number_of e.refusal; place = e.place; start = 0; end = 0; pairs = 0 }
