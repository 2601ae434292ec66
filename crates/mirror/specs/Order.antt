-- 02, Req 01: frames in XBM's order, whose bytes hold the leftmost dot in the lowest bit.
use Rattle.std.specs.Prelude.{ℕ, List, map, cond}
use Rattle.ground.specs.Bytes.{bit_of}
use Rattle.ground.specs.Packing.{packed}
use Rattle.state.specs.State.{valid_panel}
use Rattle.display.specs.Types.{Panel}
use Rattle.display.specs.Frame.{frame_fits, reply_of, Painted, painted}

-- a byte mirrored: its lowest bit in the top one, as if it were the leftmost dot
unfoldable pub mirrored : ℕ → ℕ
mirrored n = packed (bit_of n) 0 8

-- 1 panel not valid, 2 a frame length that does not fit the panel, and then the frame is as it was; else 0, and every byte mirrored in
-- its place: from the frame's order to XBM's and back
unfoldable pub convert_of : Panel → List ℕ → Painted
convert_of p frame =
    cond (valid_panel p)
    (cond (frame_fits p frame) (painted (reply_of 0) (map mirrored frame)) (painted (reply_of 2) frame))
    (painted (reply_of 1) frame)
