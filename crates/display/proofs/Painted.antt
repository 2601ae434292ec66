-- What callers may use of a frame: what it depends on, its rows, bytes and dots, and what a painting keeps.
use mathlib.Core.Path.{◌≡◌, refl, sym, ◌∙◌}
use mathlib.Core.List.{List}
use mathlib.Core.Bool.{Bool, true, false, cond, ◌&&◌}
use Prim.Native.Nat.{ℕ, ◌+◌, ◌-◌, ◌*◌, ◌/◌, ◌%◌, ◌^◌, ◌<◌}
use lib.ListN.{length, get_or, take, drop}
use borrow.Author.Tests.{eqb-true}
use Rattle.ground.specs.Packing.{row_bytes, frame_from}
use Rattle.ground.proofs.Frames as frames
use Rattle.ground.proofs.Tests.{both_right}
use Rattle.display.specs.Types.{Panel, Display, Registers}
use Rattle.state.specs.State.{valid_panel, valid_registers}
use Rattle.display.specs.Displayed.{cell_byte}
use Rattle.display.specs.Frame.{dot_of, row_of, frame_of, lent_lengths, frame_fits, reply_of, painted, paint_of}

module _ (p : Panel) (d : Display) (mem rom : List ℕ) where
  pub frame-length : length (frame_of p d mem rom) ≡ 8 * p.lines * row_bytes p.columns p.width
  unfolding frame_of
  frame-length = frames.frame-length p.columns p.lines p.width (cell_byte p d mem rom)

  -- the row at r is the stretch at r·R
  pub frame_row : (r : ℕ) → r < 8 * p.lines
      → take (row_bytes p.columns p.width) (drop (r * row_bytes p.columns p.width) (frame_of p d mem rom)) ≡ row_of p d mem rom r
  unfolding frame_of row_of
  frame_row r h = frames.frame_row p.columns p.lines p.width (cell_byte p d mem rom) r h

  -- each dot, read off the frame
  pub frame-dot : (r x : ℕ) → r < 8 * p.lines → x < 8 * row_bytes p.columns p.width
      → get_or (frame_of p d mem rom) (r * row_bytes p.columns p.width + x / 8) 0 / 2 ^ (7 - x % 8) % 2 ≡ dot_of p d mem rom r x
  unfolding frame_of dot_of
  frame-dot r x h k = frames.frame-dot p.columns p.lines p.width (cell_byte p d mem rom) r x h k

-- equal cells make equal frames
pub frame-cong : (p : Panel) (d e : Display) (mem memory rom : List ℕ) → 0 < p.width
    → ((r c : ℕ) → r < 8 * p.lines → c < p.columns → cell_byte p d mem rom r c ≡ cell_byte p e memory rom r c)
    → frame_of p d mem rom ≡ frame_of p e memory rom
unfolding frame_of
frame-cong p d e mem memory rom w h =
    frames.frame-cong p.columns p.lines p.width w (cell_byte p d mem rom) (cell_byte p e memory rom) h

-- cells that follow a rule make the rule's frame
pub frame-by-rule : (p : Panel) (d : Display) (mem rom : List ℕ) (cell : ℕ → ℕ → ℕ) → 0 < p.width
    → ((r c : ℕ) → r < 8 * p.lines → c < p.columns → cell_byte p d mem rom r c ≡ cell r c)
    → frame_of p d mem rom ≡ frame_from p.columns p.lines p.width cell
unfolding frame_of
frame-by-rule p d mem rom cell w h = frames.frame-cong p.columns p.lines p.width w (cell_byte p d mem rom) cell h

-- of valid registers a painting reads the display group alone
pub paint-by-display : (p : Panel) (r s : Registers) (mem rom frame : List ℕ) → valid_registers r ≡ true → valid_registers s ≡ true
    → r.display ≡ s.display → paint_of p r mem rom frame ≡ paint_of p s mem rom frame
unfolding paint_of
paint-by-display p r s mem rom frame i j e =
    (λ k. cond (valid_panel p && (i ∙ sym j) k)
    (cond (lent_lengths mem rom && frame_fits p frame) (painted (reply_of 0) (frame_of p (e k) mem rom)) (painted (reply_of 2) frame))
    (painted (reply_of 1) frame))

-- a painting keeps the frame's length
pub paint-length : (p : Panel) (r : Registers) (mem rom frame : List ℕ) → length (paint_of p r mem rom frame).frame ≡ length frame
unfolding paint_of
paint-length p r mem rom frame = go (valid_panel p && valid_registers r) (lent_lengths mem rom && frame_fits p frame) (λ e. e)
  where
    go : (v f : Bool) → (f ≡ true → (lent_lengths mem rom && frame_fits p frame) ≡ true)
        → length (cond v (cond f (painted (reply_of 0) (frame_of p r.display mem rom)) (painted (reply_of 2) frame)) (painted (reply_of 1) frame)).frame ≡ length frame
    go true true h =
        frame-length p r.display mem rom
        ∙ sym (eqb-true (length frame) (8 * p.lines * row_bytes p.columns p.width) (both_right (lent_lengths mem rom) _ (h refl)))
    go true false h = refl
    go false f h = refl
