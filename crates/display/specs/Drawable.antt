-- What inner routines rest on, tested once at the door, and what two of them make of the cells that stand there.
use Rattle.std.specs.Prelude.{◌≡◌, ◌⊎◌, List, ℕ, ◌+◌, ◌≤◌, ◌<◌, length}
use Rattle.ground.specs.Lists.{build}
use Rattle.display.specs.Types.{Panel, Display}
use Rattle.display.specs.Displayed.{text_dots, displayed_byte, cell_byte}

pub record Drawable (p : Panel) (d : Display) (mem : List ℕ) : Type 0 where
  pub columns : p.columns ≤ 80
  pub lines : p.lines ≤ 32
  pub width : (p.width ≡ 6) ⊎ (p.width ≡ 8)
  pub offset : d.offset < 32
  pub height : d.cursor.height ≤ 8
  pub memory : length mem ≡ 65536

-- the graphic over the text's dots, whatever ROM they came from
abbrev pub GraphicOver : Panel → Display → List ℕ → ℕ → ℕ → List ℕ → List ℕ → Type 0
GraphicOver p d mem r c cells after =
    (rom : List ℕ) → cells ≡ build (length cells) (λ j. text_dots p d mem rom r (c + j)) → after ≡ build (length cells) (λ j. displayed_byte p d mem rom r (c + j))

-- the cursor over a row's displayed bytes, whatever they came from
abbrev pub CursorOver : Panel → Display → ℕ → List ℕ → List ℕ → Type 0
CursorOver p d r cells after =
    (mem rom : List ℕ) → cells ≡ build p.columns (displayed_byte p d mem rom r) → after ≡ build p.columns (cell_byte p d mem rom r)
