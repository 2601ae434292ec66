-- What a buffer of registers comes to at the door.
use Rattle.std.specs.Prelude.{ℕ, Result, Ok, Err}
use Rattle.state.specs.Refusals.{number_of}
use Rattle.state.specs.declared.refusal.Refusal.{Refusal}
use Rattle.state.specs.declared.registers.Registers.{Registers}

-- the registers that stand there, or the number of a refusal
pub data Entry : Type 0 where
  State : Registers → Entry
  Refused : ℕ → Entry

-- what an answer of `enter` stands for
abbrev pub entry : Result Registers Refusal → Entry
entry (Ok r) = State r
entry (Err e) = Refused (number_of e)
