-- 02, Reqs 05 and 06: one dot row, painted by itself.
use Rattle.std.specs.Prelude.{ℕ, List, Bool, cond, ◌&&◌, eqb, length}
use Rattle.state.specs.State.{valid_panel, valid_display}
use Rattle.state.specs.Sizes.{row_size}
use Rattle.display.specs.Types.{Panel, Display}
use Rattle.display.specs.Frame.{row_of, lent_lengths, reply_of, Painted, painted}

-- a buffer of exactly R
abbrev pub row_fits : Panel → List ℕ → Bool
row_fits p out = eqb (length out) (row_size p)

-- 1 panel or display group not valid, 2 a lent fixed length wrong, and then the buffer is as it was; else 0 and the row, whatever its number
unfoldable pub paint_one_of : Panel → Display → List ℕ → List ℕ → ℕ → List ℕ → Painted
paint_one_of p d mem rom r out =
    cond (valid_panel p && valid_display d)
    (cond (lent_lengths mem rom && row_fits p out) (painted (reply_of 0) (row_of p d mem rom r)) (painted (reply_of 2) out))
    (painted (reply_of 1) out)
