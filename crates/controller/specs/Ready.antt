-- What inner routines rest on, tested once at the door, and what they give.
use Rattle.std.specs.Prelude.{◌≡◌, Bool, true, cond, List, ℕ, Result, Ok, Err}
use Rattle.state.specs.State.{valid_panel, valid_registers}
use Rattle.display.specs.Frame.{lent_lengths}
use Rattle.controller.specs.Types.{Panel, Registers, Taken}
use Rattle.controller.specs.Access.{Accessed}
use Rattle.effects.specs.Machine.{Machine, machine}
use Rattle.controller.specs.Run.{Standing, Turn, went, halted}
use Rattle.controller.specs.Skip.{Skipping}
use Rattle.state.specs.Refusals.{number_of}
use Rattle.state.specs.declared.refusal.Refusal.{Refusal}
pub use Rattle.turns.specs.Blocked.{pairs_from, Blocked}
unfoldable pub use Rattle.turns.specs.Blocked.{data_of}
pub use Rattle.turns.specs.Noted.{NotedAll, noted_all, noted_of}

-- a run under way
pub record Runs (p : Panel) (r : Registers) (mem rom : List ℕ) : Type 0 where
  pub panel : valid_panel p ≡ true
  pub state : valid_registers r ≡ true
  pub lent : lent_lengths mem rom ≡ true

abbrev pub standing : Registers → List ℕ → List ℕ → ℕ → Standing Machine
standing r mem answers given = record { machine = machine r mem; answers = answers; given = given }

-- a run under way, its list of skipped pairs and the pair to come
abbrev pub standing_on : {M : Type 0} → Standing M → List ℕ → ℕ → ℕ → Standing (Skipping M)
standing_on s skips listed place =
    record { machine = record { machine = s.machine; skips = skips; listed = listed; place = place }; answers = s.answers; given = s.given }

-- one pair of a run: the registers then, the answers so far, a number, 0 where it is taken
pub record Turned : Type 0 where
  pub registers : Registers
  pub given : ℕ
  pub number : ℕ

-- what a result says of it: a pair that is refused leaves registers and answers as they were
abbrev pub turned : Registers → ℕ → Result Taken Refusal → Turned
turned r given (Ok t) = record { registers = t.registers; given = t.given; number = 0 }
turned r given (Err e) = record { registers = r; given = given; number = number_of e }

-- one pair of a run, the display memory and the answer buffer then
pub record TurnedAll : Type 0 where
  pub turned : Turned
  pub memory : List ℕ
  pub answers : List ℕ

abbrev pub turned_all : Turned → List ℕ → List ℕ → TurnedAll
turned_all turned memory answers = record { turned = turned; memory = memory; answers = answers }

-- where the pair is refused all is as it was
abbrev pub turned_of : Standing Machine → Turn Machine → TurnedAll
turned_of s (went t) =
    turned_all (record { number = 0; registers = t.machine.registers; given = t.given }) t.machine.memory t.answers
turned_of s (halted n) =
    turned_all (record { number = n; registers = s.machine.registers; given = s.given }) s.machine.memory s.answers
