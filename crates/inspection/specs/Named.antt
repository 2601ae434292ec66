-- What an inspection says, as a number and a place, the first pair and the first answer named, and the registers after.
use Rattle.std.specs.Prelude.{ℕ, Bool, true, false, ◌&&◌, Option, Some, None, Result, Ok, Err}
use Rattle.state.specs.Refusals.{number_of}
use Rattle.state.specs.declared.registers.Registers.{Registers}
use Rattle.state.specs.declared.refusal.Refused.{Refused}
use Rattle.inspection.specs.declared.look.Findings.{Findings}
use Rattle.inspection.specs.declared.look.Looked.{Looked as Seen}

-- the first of something: a pair, or an answer's index among the answers
pub data Named : Type 0 where
  At : ℕ → Named
  Nothing : Named

abbrev pub is_nothing : Named → Bool
is_nothing (At n) = false
is_nothing Nothing = true

-- whether a ready status was read since the last pair that needed one; the first pair that had none; the first recorded answer that is not
-- the controller's own
pub record Looked : Type 0 where
  pub asked : Bool
  pub unasked : Named
  pub wrong : Named

-- a number and place; what is named; whether the log passes; the registers after
pub record Inspected : Type 0 where
  pub registers : Registers
  pub number : ℕ
  pub place : ℕ
  pub unasked : Named
  pub wrong : Named
  pub passes : Bool

-- what the code gives, read so
abbrev pub named_by : Option ℕ → Named
named_by None = Nothing
named_by (Some n) = At n

abbrev pub looked : Seen → Looked
looked s = record { asked = s.asked; unasked = named_by s.named.unasked; wrong = named_by s.named.wrong }

abbrev pub inspected : Result Findings Refused → Registers → Inspected
inspected (Ok f) r =
    record {
      registers = r;
      number = 0;
      place = 0;
      unasked = named_by f.unasked;
      wrong = named_by f.wrong;
      passes = is_nothing (named_by f.unasked) && is_nothing (named_by f.wrong);
    }
inspected (Err e) r = record { registers = r; number = number_of e.refusal; place = e.place; unasked = Nothing; wrong = Nothing; passes = false }
