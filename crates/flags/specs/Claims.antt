-- 02, Req 05: if the frame was right at the last refresh, it then equals one painted afresh, and unflagged rows' bytes are untouched.
use Rattle.std.specs.Prelude.{◌≡◌, List, ℕ, ◌*◌, ◌<◌, get_or}
use Rattle.display.specs.Frame.{row_of, frame_of}
use Rattle.controller.specs.Access.{Pair}
use Rattle.flags.specs.Types.{Panel, Display, Registers}
use Rattle.flags.specs.Flags.{all_set}
use Rattle.display.specs.Flagged.{stretch_of}
use Rattle.flags.specs.Follow.{follow_of, refresh_of}

-- every row that is not flagged stands in the frame as it is shown
pub record Right (p : Panel) (d : Display) (mem rom flags frame : List ℕ) : Type 0 where
  pub rows : (r : ℕ) → r < 8 * p.lines → get_or flags r 0 ≡ 0 → stretch_of p frame r ≡ row_of p d mem rom r

-- at the start, with any frame
abbrev pub StartRight : Type 0
StartRight = (p : Panel) (d : Display) (mem rom frame : List ℕ) → Right p d mem rom (all_set (8 * p.lines)) frame

-- after any access, refused ones included
abbrev pub FollowRight : Type 0
FollowRight =
    (p : Panel) (r : Registers) (mem rom : List ℕ) (q : Pair) (flags frame : List ℕ)
    → Right p r.display mem rom flags frame
    → Right p (follow_of p r mem rom q flags).acted.registers.display (follow_of p r mem rom q flags).memory rom (follow_of p r mem rom q flags).flags frame

-- a refresh that is not refused
abbrev pub RefreshRight : Type 0
RefreshRight =
    (p : Panel) (r : Registers) (mem rom frame flags : List ℕ)
    → (refresh_of p r mem rom frame flags).reply.number ≡ 0
    → (Right p r.display mem rom flags frame → (refresh_of p r mem rom frame flags).frame ≡ frame_of p r.display mem rom)
    × ((i : ℕ) → i < 8 * p.lines → get_or flags i 0 ≡ 0 → stretch_of p (refresh_of p r mem rom frame flags).frame i ≡ stretch_of p frame i)
