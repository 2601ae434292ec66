-- What inner routines rest on, tested once at the door.
use Rattle.std.specs.Prelude.{◌≡◌, true, List, ℕ, ◌≤◌, Result, MatchResult}
use Rattle.state.specs.State.{valid_panel, valid_display}
use Rattle.display.specs.Frame.{lent_lengths}
use Rattle.entries.specs.Entered.{Entered}
use Rattle.comparison.specs.Types.{Panel, Display, Registers}
use Rattle.comparison.specs.declared.compare.Refused.{Refused}
use Rattle.whole.specs.Whole.{RanWhole}

-- few enough entries to be added up
pub record Few (e : Entered) : Type 0 where
  pub bytes : e.bytes ≤ 65536
  pub values : e.values ≤ 17

-- two pictures on one panel
pub record Pictured (p : Panel) (d : Display) (mem : List ℕ) (e : Display) (memory rom : List ℕ) : Type 0 where
  pub panel : valid_panel p ≡ true
  pub one : valid_display d ≡ true
  pub two : valid_display e ≡ true
  pub first : lent_lengths mem rom ≡ true
  pub second : lent_lengths memory rom ≡ true

-- a machine that paints
pub record Paints (p : Panel) (d : Display) (mem rom : List ℕ) : Type 0 where
  pub panel : valid_panel p ≡ true
  pub state : valid_display d ≡ true
  pub lent : lent_lengths mem rom ≡ true

-- what a whole run came to: its registers, or its refusal, as one of log n; and the memory then
pub record RanReset (n : ℕ) (w : RanWhole) (x : Result Registers Refused) (mem : List ℕ) : Type 0 where
  pub memory : mem ≡ w.memory
  pub answer : MatchResult x (λ r. (w.ran.number ≡ 0) × (w.ran.registers ≡ r)) (λ e. (1 ≤ e.number) × (e ≡ record { number = w.ran.number; place = w.ran.place; log = n }))
