-- What inner routines rest on, tested once at the door.
use Rattle.std.specs.Prelude.{◌≡◌, true, List, ℕ, ◌≤◌, length}
use Rattle.state.specs.declared.panel.Panel.{Panel}
use Rattle.printed.specs.Screen.{framed}

-- a screen's rows may be written behind its line
pub record Lines (p : Panel) (number : ℕ) (frame out : List ℕ) (at : ℕ) : Type 0 where
  pub framed : framed p number frame ≡ true
  pub behind : at ≤ 112
  pub roomy : length out ≡ 196608
