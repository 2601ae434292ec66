-- What inner routines rest on, tested once at the door, and what they give.
use Rattle.std.specs.Prelude.{◌≡◌, ℕ, ◌≤◌, true, List, length, take}
use Rattle.state.specs.State.{valid_panel, valid_display}
use Rattle.display.specs.Frame.{lent_lengths}
use Rattle.sight.specs.Types.{Panel, Display, Line}

-- one access
pub record Seeing (p : Panel) (d : Display) (mem rom : List ℕ) : Type 0 where
  pub panel : valid_panel p ≡ true
  pub display : valid_display d ≡ true
  pub lent : lent_lengths mem rom ≡ true
  pub columns : p.columns ≤ 80
  pub lines : p.lines ≤ 32
  pub memory : length mem ≡ 65536

-- a line gathered
pub record Gathered (line : Line) (bytes : List ℕ) : Type 0 where
  pub few : line.count ≤ 80
  pub holds : take line.count line.bytes ≡ bytes
