-- 01, Panel and memory, and Numbers returned: the frame, and what painting it answers.
use Rattle.std.specs.Prelude.{ℕ, List, Bool, cond, ◌&&◌, eqb, length}
use Rattle.ground.specs.Packing.{dot_at, row_from, frame_from}
use Rattle.display.specs.Types.{Panel, Display, Registers, Reply}
use Rattle.state.specs.State.{valid_panel, valid_registers}
pub use Rattle.state.specs.Sizes.{frame_fits}
use Rattle.display.specs.Displayed.{cell_byte}

-- dot x of dot row r
unfoldable pub dot_of : Panel → Display → List ℕ → List ℕ → ℕ → ℕ → ℕ
dot_of p d mem rom r x = dot_at p.columns p.width (cell_byte p d mem rom r) x

-- dot row r
unfoldable pub row_of : Panel → Display → List ℕ → List ℕ → ℕ → List ℕ
row_of p d mem rom r = row_from p.columns p.width (cell_byte p d mem rom r)

-- 8L rows of C·w dots
unfoldable pub frame_of : Panel → Display → List ℕ → List ℕ → List ℕ
frame_of p d mem rom = frame_from p.columns p.lines p.width (cell_byte p d mem rom)

-- lent: memory of exactly 65,536 bytes, character ROM of exactly 1,024
abbrev pub lent_lengths : List ℕ → List ℕ → Bool
lent_lengths mem rom = eqb (length mem) 65536 && eqb (length rom) 1024

-- a number with place 0
abbrev pub reply_of : ℕ → Reply
reply_of n = record { number = n; place = 0 }

-- a reply, and the frame buffer then
pub record Painted : Type 0 where
  pub reply : Reply
  pub frame : List ℕ

abbrev pub painted : Reply → List ℕ → Painted
painted reply frame = record { reply = reply; frame = frame }

-- 1 panel or state not valid, 2 a lent fixed length wrong, and then the frame is as it was; else 0 and the frame
unfoldable pub paint_of : Panel → Registers → List ℕ → List ℕ → List ℕ → Painted
paint_of p r mem rom frame =
    cond (valid_panel p && valid_registers r)
    (cond (lent_lengths mem rom && frame_fits p frame)
    (painted (reply_of 0) (frame_of p r.display mem rom))
    (painted (reply_of 2) frame))
    (painted (reply_of 1) frame)
