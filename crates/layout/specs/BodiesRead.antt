-- The bodies of a book read on a panel.
use Rattle.std.specs.Prelude.{ℕ, Result, Ok, Err}
use Rattle.state.specs.declared.refusal.Refusal.TheVariants.{WrongOperation, UsesAnd}
use Rattle.state.specs.declared.refusal.Refused.{Refused}

-- all of them, the first screen that uses AND, or the byte of the first faulty operation
pub data BodiesRead : Type 0 where
  Plain : BodiesRead
  And : ℕ → BodiesRead
  Faulty : ℕ → BodiesRead

abbrev pub reads : BodiesRead → Result Unit Refused
reads Plain = Ok tt
reads (And screen) = Err (record { refusal = UsesAnd; place = screen })
reads (Faulty place) = Err (record { refusal = WrongOperation; place = place })
