-- What inner routines rest on, tested once at the door.
use Rattle.std.specs.Prelude.{◌≡◌, true, false, ◌&&◌, List, ℕ, ◌+◌, ◌*◌, ◌≤◌, eqb, length}
use Rattle.ground.specs.Packing.{row_bytes}
use Rattle.state.specs.State.{valid_panel, valid_registers}
use Rattle.display.specs.Frame.{lent_lengths}
use Rattle.controller.specs.Types.{Panel, Registers}
use Rattle.controller.specs.declared.run.Ran.{Ran}

-- a state that can be drawn, a frame of its size, room for its rows at `at`
pub record FrameReady (p : Panel) (r : Registers) (mem rom frame out : List ℕ) (at : ℕ) : Type 0 where
  pub valid : (valid_panel p && valid_registers r) ≡ true
  pub lent : lent_lengths mem rom ≡ true
  pub sized : length frame ≡ 8 * p.lines * row_bytes p.columns p.width
  pub room : at + 164096 ≤ length out

-- what a run came to, and rooms for its text; refusal 1 alone comes with an invalid panel
pub record TextReady (p : Panel) (a : Ran) (mem rom answers frame out : List ℕ) : Type 0 where
  pub valid : eqb a.number 1 ≡ false → (valid_panel p && valid_registers a.registers) ≡ true
  pub lent : lent_lengths mem rom ≡ true
  pub given : a.answers ≤ length answers
  pub answered : length answers ≡ 8192
  pub framed : length frame ≡ 20480
  pub roomy : length out ≡ 196608
