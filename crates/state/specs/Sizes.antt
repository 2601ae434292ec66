-- 01, The panel: R bytes a dot row, 8·L dot rows, C·L cells.
use Rattle.std.specs.Prelude.{ℕ, ◌*◌, Bool, cond, List, length, ◌==◌}
use Rattle.ground.specs.Packing.{row_bytes}
use Rattle.state.specs.Types.{Panel}
use Rattle.state.specs.State.{valid_panel}

-- R
abbrev pub row_size : Panel → ℕ
row_size p = row_bytes p.columns p.width

abbrev pub frame_size : Panel → ℕ
frame_size p = 8 * p.lines * row_size p

-- a frame buffer of exactly 8·L·R
abbrev pub frame_fits : Panel → List ℕ → Bool
frame_fits p frame = length frame == frame_size p

abbrev pub cell_count : Panel → ℕ
cell_count p = p.lines * p.columns

-- a size of a valid panel, 0 for another
abbrev pub valid_size : Panel → ℕ → ℕ
valid_size p n = cond (valid_panel p) n 0
