-- 02, Req 07: text dots, graphic dots and what comes of them, for one cell row.
use Rattle.std.specs.Prelude.{◌≡◌, ℕ, ◌+◌, ◌*◌, ◌/◌, ◌%◌, List, Bool, true, false, cond, not, ◌&&◌, eqb, ltb, length, get_or}
use Rattle.ground.specs.Lists.{build}
use Rattle.state.specs.State.{valid_panel, valid_display}
use Rattle.state.specs.Combination.{is_attribute}
use Rattle.display.specs.Types.{Panel, Display, Reply}
use Rattle.display.specs.Displayed.{text_code, graphic_byte, attribute_byte, text_dots, graphic_dots, displayed_byte}
use Rattle.display.specs.Frame.{lent_lengths, reply_of}

pub record Layers : Type 0 where
  pub text : ℕ
  pub graphic : ℕ
  pub shown : ℕ

-- the low w bits of the text row after attribute, 0 where text is off; those of the graphic byte, 0 where graphic is off or in attribute
-- mode; and the displayed byte
abbrev pub layers_at : Panel → Display → List ℕ → List ℕ → ℕ → ℕ → Layers
layers_at p d mem rom r c =
    record { text = text_dots p d mem rom r c; graphic = graphic_dots p d mem r c; shown = displayed_byte p d mem rom r c }

-- a reply, and three lists then
pub record Stretch : Type 0 where
  pub reply : Reply
  pub text : List ℕ
  pub graphic : List ℕ
  pub shown : List ℕ

abbrev pub stretch : Reply → List ℕ → List ℕ → List ℕ → Stretch
stretch reply text graphic shown = record { reply = reply; text = text; graphic = graphic; shown = shown }

-- the layers of n cells of a dot row, from a column on
abbrev pub layers_from : Panel → Display → List ℕ → List ℕ → ℕ → ℕ → ℕ → Stretch
layers_from p d mem rom r c n =
    stretch (reply_of 0)
    (build n (λ j. (layers_at p d mem rom r (c + j)).text))
    (build n (λ j. (layers_at p d mem rom r (c + j)).graphic))
    (build n (λ j. (layers_at p d mem rom r (c + j)).shown))

-- three lists of one length
abbrev pub alike : List ℕ → List ℕ → List ℕ → Bool
alike text graphic shown = eqb (length text) (length shown) && eqb (length graphic) (length shown)

-- as many cells as three lists are long: 1, 2 (memory, ROM, or lists of different lengths), and the lists are as they were; or all three
unfoldable pub row_layers_of : Panel → Display → List ℕ → List ℕ → ℕ → ℕ → List ℕ → List ℕ → List ℕ → Stretch
row_layers_of p d mem rom r c text graphic shown =
    cond (valid_panel p && valid_display d)
    (cond (lent_lengths mem rom && alike text graphic shown)
    (layers_from p d mem rom r c (length shown))
    (stretch (reply_of 2) text graphic shown))
    (stretch (reply_of 1) text graphic shown)

-- whether a code's glyph row stands in memory
abbrev pub from_memory : Display → ℕ → Bool
from_memory d code = not (not d.external && ltb code 0x80)

-- two memories that hold the same for a cell's dot row: its text code, the code's glyph row where it stands in memory, its graphic byte,
-- or in attribute mode its attribute byte
pub record SameBytes (p : Panel) (d : Display) (mem memory : List ℕ) (r c : ℕ) : Type 0 where
  pub code : text_code d mem (r / 8) c ≡ text_code d memory (r / 8) c
  pub glyph : from_memory d (text_code d mem (r / 8) c) ≡ true
      → get_or mem (2048 * d.offset + 8 * text_code d mem (r / 8) c + r % 8) 0 ≡ get_or memory (2048 * d.offset + 8 * text_code d mem (r / 8) c + r % 8) 0
  pub graphic : is_attribute d.combination ≡ false → graphic_byte d mem r c ≡ graphic_byte d memory r c
  pub attribute : is_attribute d.combination ≡ true → attribute_byte d mem (r / 8) c ≡ attribute_byte d memory (r / 8) c
