-- 02, Req 05: the rows that are flagged painted, the others' bytes as they were.
use Rattle.std.specs.Prelude.{ℕ, ◌+◌, ◌*◌, List, Bool, cond, ◌&&◌, eqb, length, get_or, take, drop}
use Rattle.ground.specs.Lists.{joined}
use Rattle.state.specs.State.{valid_panel, valid_registers}
use Rattle.state.specs.Sizes.{row_size}
use Rattle.display.specs.Types.{Panel, Display, Registers}
use Rattle.display.specs.Frame.{row_of, lent_lengths, frame_fits, reply_of, Painted, painted}

-- as many as the panel has dot rows
abbrev pub flags_fit : Panel → List ℕ → Bool
flags_fit p flags = eqb (length flags) (8 * p.lines)

-- the stretch of dot row r
abbrev pub stretch_of : Panel → List ℕ → ℕ → List ℕ
stretch_of p frame r = take (row_size p) (drop (r * row_size p) frame)

-- the flagged rows painted, the others' bytes as they were
abbrev pub refreshed_row : Panel → Display → List ℕ → List ℕ → List ℕ → List ℕ → ℕ → List ℕ
refreshed_row p d mem rom frame flags i = cond (eqb (get_or flags i 0) 0) (stretch_of p frame i) (row_of p d mem rom i)

-- 1 panel or state not valid, 2 a lent fixed length wrong, and then the frame is as it was; else 0 and the frame so
unfoldable pub paint_flagged_of : Panel → Registers → List ℕ → List ℕ → List ℕ → List ℕ → Painted
paint_flagged_of p r mem rom flags frame =
    cond (valid_panel p && valid_registers r)
    (cond (lent_lengths mem rom && frame_fits p frame && flags_fit p flags)
    (painted (reply_of 0) (joined (8 * p.lines) (refreshed_row p r.display mem rom frame flags)))
    (painted (reply_of 2) frame))
    (painted (reply_of 1) frame)

-- the same of rows from any on, in stretches of R bytes
abbrev pub some_row : Panel → Display → List ℕ → List ℕ → ℕ → ℕ → List ℕ → List ℕ → ℕ → List ℕ
some_row p d mem rom first R flags out i = cond (eqb (get_or flags i 0) 0) (take R (drop (i * R) out)) (row_of p d mem rom (first + i))
