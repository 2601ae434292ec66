-- A body read on a panel.
use Rattle.std.specs.Prelude.{ℕ, Bool, true, false, Result, Ok, Err}
use Rattle.state.specs.declared.refusal.Refusal.TheVariants.{WrongOperation}
use Rattle.state.specs.declared.refusal.Refused.{Refused}

-- a body that can be read, one that uses AND, or the byte of its first faulty operation
pub data BodyRead : Type 0 where
  Plain : BodyRead
  And : BodyRead
  Faulty : ℕ → BodyRead

-- whether it uses AND, or its refusal
abbrev pub reads_one : BodyRead → Result Bool Refused
reads_one Plain = Ok false
reads_one And = Ok true
reads_one (Faulty place) = Err (record { refusal = WrongOperation; place = place })
