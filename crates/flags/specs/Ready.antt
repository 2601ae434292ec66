-- What an inner routine rests on, tested once at the door.
use Rattle.std.specs.Prelude.{◌≡◌, true, List, ℕ, ◌*◌, length}
use Rattle.state.specs.State.{valid_panel, valid_registers}
use Rattle.display.specs.Frame.{lent_lengths}
use Rattle.flags.specs.Types.{Panel, Registers}

-- a pair may be followed: the panel, the registers and the lengths lent
pub record Following (p : Panel) (r : Registers) (mem rom flags : List ℕ) : Type 0 where
  pub panel : valid_panel p ≡ true
  pub state : valid_registers r ≡ true
  pub lent : lent_lengths mem rom ≡ true
  pub rows : length flags ≡ 8 * p.lines
