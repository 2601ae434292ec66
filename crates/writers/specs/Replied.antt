-- What a list comes to, as a number and a place, the entries listed and the registers after.
use Rattle.std.specs.Prelude.{ℕ}
use Rattle.state.specs.Replies.{placed_reply}
use Rattle.state.specs.declared.registers.Registers.{Registers}
use Rattle.writers.specs.declared.list.Listed.{Listed as Code}

pub record Listed : Type 0 where
  pub registers : Registers
  pub number : ℕ
  pub place : ℕ
  pub count : ℕ

-- what the code gives, read so
abbrev pub listed : Code → Listed
listed x = record { registers = x.registers; number = (placed_reply x.end).number; place = (placed_reply x.end).place; count = x.count }
