-- A command told, and what it stored noted.
use Rattle.std.specs.Prelude.{◌≡◌, ℕ, Bool, true, false, List, Option, Some, None}
use Rattle.codes.specs.Command.{decode_of, is_off}
use Rattle.effects.specs.Machine.{machine}
use Rattle.controller.specs.Access.{code, done, step_of}
use Rattle.stores.specs.Stores.{code_stores}
use Rattle.noting.specs.Types.{Panel, Display, Bus}
use Rattle.noting.specs.Stretch.{store_at}
use Rattle.noting.specs.Noted.{Noting, noting, noted_each}

-- a command done or left: the bus and the entries needed then
pub record Said : Type 0 where
  pub bus : Bus
  pub count : ℕ
  pub done : Bool

-- what the code gives, read so: the bus then, or none, and the entries needed
abbrev pub said : Bus → Option Bus → ℕ → Said
said b (Some next) count = record { bus = next; count = count; done = true }
said b None count = record { bus = b; count = count; done = false }

-- a command done as a step does it, whatever the display, and its store noted; or left, and all is as it was
pub record Says (first last pair : ℕ) (b : Bus) (mem : List ℕ) (still : Bool) (k : ℕ) (before : Noting) (said : Said) (after list : List ℕ) : Type 0 where
  pub quiet : said.done ≡ true → still ≡ true
  pub acts : said.done ≡ true → is_off b.auto ≡ true → (p : Panel) (rom : List ℕ) (d : Display)
      → step_of p rom (machine (record { display = d; bus = b }) mem) (code k) ≡ done (machine (record { display = d; bus = said.bus }) after)
  pub notes : said.done ≡ true → (p : Panel) (d : Display)
      → noting said.count list
      ≡ noted_each first last (store_at pair (machine (record { display = d; bus = b }) mem) (machine (record { display = d; bus = said.bus }) after))
      (code_stores p (record { display = d; bus = b }) (decode_of k)) before
  pub keeps : said.done ≡ false → (after ≡ mem) × (list ≡ before.list)
