-- 01, Numbers returned: what comes back, as a number and a place; 0 with place 0 is acceptance.
use Rattle.std.specs.Prelude.{ℕ, Result, Ok, Err}
use Rattle.state.specs.declared.refusal.Refusal.{Refusal}
use Rattle.state.specs.declared.refusal.Refused.{Refused}
use Rattle.state.specs.declared.registers.Registers.{Registers}
use Rattle.state.specs.Refusals.{number_of}

pub record Reply : Type 0 where
  pub number : ℕ
  pub place : ℕ

-- what a single access comes to: a number and place, the registers after, and the byte read or 0
pub record Acted : Type 0 where
  pub number : ℕ
  pub place : ℕ
  pub registers : Registers
  pub answer : ℕ

-- a refusal that names no place
abbrev pub reply : Result Unit Refusal → Reply
reply (Ok u) = record { number = 0; place = 0 }
reply (Err e) = record { number = number_of e; place = 0 }

-- one that may name a place
abbrev pub placed_reply : Result Unit Refused → Reply
placed_reply (Ok u) = record { number = 0; place = 0 }
placed_reply (Err e) = record { number = number_of e.refusal; place = e.place }
