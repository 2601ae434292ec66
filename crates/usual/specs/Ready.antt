-- What the routines of the usual pairs give: done as a step does it, or left, and memory and answers are as they were.
use Rattle.std.specs.Prelude.{◌≡◌, Bool, true, false, List, ℕ, ◌+◌, ltb, length, set}
use Rattle.state.specs.State.{none}
use Rattle.codes.specs.Command.{is_off}
use Rattle.effects.specs.Effect.{with_pending}
use Rattle.effects.specs.Machine.{Machine, machine}
use Rattle.sight.specs.Steps.{code, Step, done, answered, step_of}
use Rattle.usual.specs.Types.{Panel, Display, Bus, Told, Drawn, Asked}

-- a command told to the bus and the memory alone, where auto is off: done as a step does it, whatever the display; or left, and all is as it was
pub record Tells (b : Bus) (mem : List ℕ) (still : Bool) (k : ℕ) (told : Told) (after : List ℕ) : Type 0 where
  pub quiet : told.done ≡ true → still ≡ true
  pub acts : told.done ≡ true → is_off b.auto ≡ true → (p : Panel) (rom : List ℕ) (d : Display)
      → step_of p rom (machine (record { display = d; bus = b }) mem) (code k) ≡ done (machine (record { display = d; bus = told.bus }) after)
  pub keeps : told.done ≡ false → after ≡ mem

-- a command of the display alone, where auto is off: done as a step does it, whatever the bus and the memory
pub record Draws (d : Display) (still : Bool) (k : ℕ) (drawn : Drawn) : Type 0 where
  pub quiet : drawn.done ≡ true → still ≡ true
  pub acts : drawn.done ≡ true → (b : Bus) → is_off b.auto ≡ true → (p : Panel) (rom mem : List ℕ)
      → step_of p rom (machine (record { display = d; bus = b }) mem) (code k) ≡ done (machine (record { display = drawn.display; bus = with_pending b none }) mem)

-- a step that answers, and there is room for its byte
pub record Answers (o : Step Machine) (m : Machine) (answers : List ℕ) (given : ℕ) (after : List ℕ) (next : ℕ) : Type 0 where
  pub byte : ℕ
  pub steps : o ≡ answered m byte
  pub room : ltb given (length answers) ≡ true
  pub holds : after ≡ set answers given byte
  pub counts : next ≡ given + 1

-- a read of data or status, whatever the display but for its phase
pub record Asks (phase : Bool) (b : Bus) (mem answers : List ℕ) (given kind : ℕ) (u : Asked) (after : List ℕ) : Type 0 where
  pub acts : u.done ≡ true → (p : Panel) (rom : List ℕ) (d : Display) (byte : ℕ) → d.phase ≡ phase
      → Answers (step_of p rom (machine (record { display = d; bus = b }) mem) (record { kind = kind; byte = byte })) (machine (record { display = d; bus = u.bus }) mem) answers given after u.given
  pub keeps : u.done ≡ false → after ≡ answers
