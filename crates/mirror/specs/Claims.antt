-- 02, Req 01: what a conversion is good for.
use Rattle.std.specs.Prelude.{ℕ, ◌+◌, ◌*◌, ◌/◌, ◌%◌, ◌<◌, ◌≡◌, true, List, get_or}
use Rattle.ground.specs.Bytes.{bit_of}
use Rattle.state.specs.State.{valid_panel}
use Rattle.state.specs.Sizes.{row_size}
use Rattle.display.specs.Types.{Panel, Display}
use Rattle.display.specs.Frame.{painted, dot_of, frame_of}
use Rattle.mirror.specs.Order.{convert_of}

-- converting twice gives the frame again, and the same reply; a frame holds bytes
abbrev pub ConvertTwice : Type 0
ConvertTwice =
    (p : Panel) (frame : List ℕ)
    → ((i : ℕ) → get_or frame i 0 < 256)
    → convert_of p (convert_of p frame).frame ≡ painted (convert_of p frame).reply frame

-- converted, a frame is XBM: dot x of dot row r is bit x mod 8 of byte r·R + x div 8, the lowest bit leftmost
abbrev pub XbmDot : Type 0
XbmDot =
    (p : Panel) (d : Display) (mem rom : List ℕ)
    → valid_panel p ≡ true
    → (r x : ℕ)
    → r < 8 * p.lines
    → x < 8 * row_size p
    → bit_of (get_or (convert_of p (frame_of p d mem rom)).frame (r * row_size p + x / 8) 0) (x % 8) ≡ dot_of p d mem rom r x
