-- 02, Req 07: the layers of one cell row, as they are answered.
use Rattle.std.specs.Prelude.{ℕ, Result, Ok, Err}
use Rattle.state.specs.Refusals.{number_of}
use Rattle.state.specs.declared.refusal.Refusal.{Refusal}
use Rattle.sight.specs.declared.seen.Seen.{Seen as Three}

-- a number, its place 0, and the low w bits of text, of graphic and of what comes of them, without cursor; 0 where it was refused
pub record Seen : Type 0 where
  pub number : ℕ
  pub place : ℕ
  pub text : ℕ
  pub graphic : ℕ
  pub shown : ℕ

-- what an answer of `layers` stands for
abbrev pub seen : Result Three Refusal → Seen
seen (Ok three) = record { number = 0; place = 0; text = three.text; graphic = three.graphic; shown = three.shown }
seen (Err e) = record { number = number_of e; place = 0; text = 0; graphic = 0; shown = 0 }
