-- What the routines of the usual pairs answer, as what was done and what was left.
use Rattle.std.specs.Prelude.{ℕ, Bool, true, false, Option, Some, None}
use Rattle.state.specs.declared.registers.Display.{Display}
use Rattle.state.specs.declared.registers.Bus.{Bus}
use Rattle.usual.specs.declared.ask.Asked.{Asked as Read}

-- a command of the display alone, done or left as it was
pub record Drawn : Type 0 where
  pub display : Display
  pub done : Bool

-- a read done, or left: the bus then, the answers so far
pub record Asked : Type 0 where
  pub bus : Bus
  pub given : ℕ
  pub done : Bool

abbrev pub drawn : Display → Option Display → Drawn
drawn d (Some next) = record { display = next; done = true }
drawn d None = record { display = d; done = false }

abbrev pub asked : Bus → ℕ → Option Read → Asked
asked b given (Some read) = record { bus = read.bus; given = read.given; done = true }
asked b given None = record { bus = b; given = given; done = false }
