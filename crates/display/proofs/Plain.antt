-- What callers may use of a cell where both layers are on, characters internal, no attributes: the bytes of the two layers, combined.
use mathlib.Core.Path.{◌≡◌}
use mathlib.Core.List.{List}
use mathlib.Core.Bool.{Bool, true, false, cond, not, ◌&&◌}
use Prim.Native.Nat.{ℕ, ◌+◌, ◌-◌, ◌*◌, ◌/◌, ◌%◌, ◌^◌}
use lib.Dec.{ltb}
use lib.ListN.{get_or}
use Rattle.display.specs.Types.{Panel, Plane, Cursor, Display, Combination}
use Rattle.state.specs.Address.{address_of}
use Rattle.display.specs.Displayed.{text_code, glyph_row, graphic_byte, attribute_byte, glyph_dots, text_dots, graphic_dots, displayed_byte, cursor_lit, cursor_covers, cell_byte}
use Rattle.state.specs.Attribute.{attributed}
use Rattle.state.specs.Combination.{is_attribute, combined}

abbrev pub plain : Plane → Plane → ℕ → Combination → Bool → Bool → Cursor → Bool → Display
plain text graphic offset k on blink cursor phase =
    record {
      text = text;
      graphic = graphic;
      offset = offset;
      combination = k;
      external = false;
      bits = record { graphic = true; text = true; cursor = on; blink = blink };
      cursor = cursor;
      phase = phase;
    }

-- a glyph row of a code: ROM below 80H, else memory
abbrev pub plain_glyph : ℕ → List ℕ → List ℕ → ℕ → ℕ → ℕ
plain_glyph offset mem rom code v = cond (ltb code 0x80) (get_or rom (8 * code + v) 0) (get_or mem (2048 * offset + 8 * code + v) 0)

pub cell-plain : (p : Panel) (text graphic : Plane) (offset : ℕ) (k : Combination) (on blink : Bool) (cursor : Cursor) (phase : Bool) (mem rom : List ℕ) (r c : ℕ)
    → is_attribute k ≡ false
    → cell_byte p (plain text graphic offset k on blink cursor phase) mem rom r c
    ≡ cond (cursor_lit on blink phase && cursor_covers p cursor (r / 8) (r % 8) c)
    (2 ^ p.width - 1)
    (combined k
    (plain_glyph offset mem rom (get_or mem (address_of text (r / 8) c) 0) (r % 8) % 2 ^ p.width)
    (get_or mem (address_of graphic r c) 0 % 2 ^ p.width))
unfolding cell_byte displayed_byte text_dots graphic_dots glyph_dots text_code glyph_row graphic_byte
cell-plain p text graphic offset k on blink cursor phase mem rom r c e =
    let d : Display = plain text graphic offset k on blink cursor phase in
    λ i.
    cond (cursor_lit on blink phase && cursor_covers p cursor (r / 8) (r % 8) c)
    (2 ^ p.width - 1)
    (combined k
    (cond (e i && true) (attributed p.width phase (attribute_byte d mem (r / 8) c) (glyph_dots p d mem rom r c)) (glyph_dots p d mem rom r c))
    (cond (not (e i)) (graphic_byte d mem r c % 2 ^ p.width) 0))
