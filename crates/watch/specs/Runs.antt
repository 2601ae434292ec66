-- A run with flags under way: one pair of it, and what its routines rest on.
use Rattle.std.specs.Prelude.{◌≡◌, ℕ, ◌-◌, false, List, Result, Ok, Err}
use Rattle.state.specs.Refusals.{number_of}
use Rattle.state.specs.declared.refusal.Refusal.{Refusal}
use Rattle.effects.specs.Machine.{machine}
use Rattle.controller.specs.Access.{Pair, done, step_of}
use Rattle.controller.specs.Ready.{Blocked}
use Rattle.controller.specs.Run.{Standing, Turn, went, halted}
use Rattle.stores.specs.Stores.{stores_of}
use Rattle.touch.specs.Marked.{marks_of}
use Rattle.flags.specs.Flags.{Flagged, with_flags}
use Rattle.watch.specs.Types.{Panel, Registers, Taken}

abbrev pub standing_flags : Registers → List ℕ → List ℕ → List ℕ → ℕ → Standing Flagged
standing_flags r mem flags answers given = record { machine = with_flags (machine r mem) flags; answers = answers; given = given }

-- the turn that a result stands for
abbrev pub flag_turn : Result Taken Refusal → List ℕ → List ℕ → List ℕ → Turn Flagged
flag_turn (Ok t) mem flags answers = went (standing_flags t.registers mem flags answers t.given)
flag_turn (Err e) mem flags answers = halted (number_of e)

-- a block of data in auto write: its bytes stored, the rows that one of its addresses touches flagged
pub record Stretched (p : Panel) (r : Registers) (mem log : List ℕ) (from total : ℕ) (flags after next : List ℕ) (end : ℕ) : Type 0 where
  pub blocked : Blocked mem r.bus.pointer log from total after end
  pub marks : next ≡ marks_of p r.display after r.bus.pointer (end - from) false flags

-- a pair done apart from the others: as a step does it; it stores nothing and alters nothing that is shown
pub record Quickly (r : Registers) (q : Pair) (next : Registers) : Type 0 where
  pub acts : (p : Panel) (rom mem : List ℕ) → step_of p rom (machine r mem) q ≡ done (machine next mem)
  pub shown : next.display ≡ r.display
  pub stores : (p : Panel) → stores_of p r q ≡ 0
