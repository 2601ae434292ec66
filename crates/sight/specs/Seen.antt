-- 02, Req 07: the layers of one cell row, asked for.
use Rattle.std.specs.Prelude.{ℕ, cond, ◌&&◌, List}
use Rattle.state.specs.State.{valid_panel, valid_display}
use Rattle.display.specs.Frame.{lent_lengths}
use Rattle.display.specs.Layers.{Layers, layers_at}
use Rattle.sight.specs.Types.{Panel, Display, Seen}

-- no dots
abbrev pub dark : Layers
dark = record { text = 0; graphic = 0; shown = 0 }

-- a number with place 0, and the layers
abbrev pub seen_of : ℕ → Layers → Seen
seen_of n l = record { number = n; place = 0; text = l.text; graphic = l.graphic; shown = l.shown }

-- the layers of a cell, asked for: 1, 2, or the three
unfoldable pub layers_of : Panel → Display → List ℕ → List ℕ → ℕ → ℕ → Seen
layers_of p d mem rom r c =
    cond (valid_panel p && valid_display d)
    (cond (lent_lengths mem rom) (seen_of 0 (layers_at p d mem rom r c)) (seen_of 2 dark))
    (seen_of 1 dark)
