-- 01, A displayed byte: for cell column c, dot row r, line l = r div 8, v = r mod 8.
use Rattle.std.specs.Prelude.{ℕ, ◌+◌, ◌-◌, ◌*◌, ◌/◌, ◌%◌, ◌^◌, List, Bool, cond, not, ◌&&◌, ◌||◌, ltb, leb, eqb, get_or}
use Rattle.state.specs.Address.{address_of}
use Rattle.state.specs.Halves.{cursor_y}
use Rattle.state.specs.Attribute.{attributed}
use Rattle.state.specs.Combination.{is_attribute, mixed}
use Rattle.display.specs.Types.{Panel, Cursor, Display}

-- text code: the byte at text home + l·text area + c
unfoldable pub text_code : Display → List ℕ → ℕ → ℕ → ℕ
text_code d mem l c = get_or mem (address_of d.text l c) 0

-- glyph row: ROM byte 8·code + v if internal and code below 80H, else memory byte 2048·offset + 8·code + v
unfoldable pub glyph_row : Display → List ℕ → List ℕ → ℕ → ℕ → ℕ
glyph_row d mem rom code v =
    cond (not d.external && ltb code 0x80)
    (get_or rom (8 * code + v) 0)
    (get_or mem (2048 * d.offset + 8 * code + v) 0)

-- graphic: the byte at graphic home + r·graphic area + c
unfoldable pub graphic_byte : Display → List ℕ → ℕ → ℕ → ℕ
graphic_byte d mem r c = get_or mem (address_of d.graphic r c) 0

-- the attribute byte: at graphic home + l·graphic area + c, for all eight rows
unfoldable pub attribute_byte : Display → List ℕ → ℕ → ℕ → ℕ
attribute_byte d mem l c = get_or mem (address_of d.graphic l c) 0

-- the low w bits of the cell's glyph row
unfoldable pub glyph_dots : Panel → Display → List ℕ → List ℕ → ℕ → ℕ → ℕ
glyph_dots p d mem rom r c = glyph_row d mem rom (text_code d mem (r / 8) c) (r % 8) % 2 ^ p.width

-- text off: 0; in attribute mode attributed if both are on, plain if text only (H)
abbrev pub text_layer : Bool → Bool → Bool → ℕ → ℕ → ℕ
text_layer text graphic attribute shown plain = cond text (cond (attribute && graphic) shown plain) 0

-- the text's w bits after attribute
unfoldable pub text_dots : Panel → Display → List ℕ → List ℕ → ℕ → ℕ → ℕ
text_dots p d mem rom r c =
    text_layer d.bits.text d.bits.graphic (is_attribute d.combination)
    (attributed p.width d.phase (attribute_byte d mem (r / 8) c) (glyph_dots p d mem rom r c))
    (glyph_dots p d mem rom r c)

-- the graphic's w bits; 0 where graphic is off, and in attribute mode (H)
unfoldable pub graphic_dots : Panel → Display → List ℕ → ℕ → ℕ → ℕ
graphic_dots p d mem r c =
    cond (d.bits.graphic && not (is_attribute d.combination)) (graphic_byte d mem r c % 2 ^ p.width) 0

-- what text and graphic show together
unfoldable pub displayed_byte : Panel → Display → List ℕ → List ℕ → ℕ → ℕ → ℕ
displayed_byte p d mem rom r c =
    mixed d.bits.text d.bits.graphic d.combination (text_dots p d mem rom r c) (graphic_dots p d mem r c)

-- X below C: the cell of X on the line with the cursor's Y (02, Req 08), if the panel has one, in its lowest rows, as many as its
-- height (H)
abbrev pub cursor_covers : Panel → Cursor → ℕ → ℕ → ℕ → Bool
cursor_covers p k l v c =
    ltb k.x p.columns && ltb l p.lines && eqb k.x c && eqb k.y (cursor_y p l) && leb (8 - k.height) v

-- cursor bit on, blink bit off or phase normal
abbrev pub cursor_lit : Bool → Bool → Bool → Bool
cursor_lit on blink normal = on && (not blink || normal)

-- the cursor laid over: all dots set
unfoldable pub cell_byte : Panel → Display → List ℕ → List ℕ → ℕ → ℕ → ℕ
cell_byte p d mem rom r c =
    cond (cursor_lit d.bits.cursor d.bits.blink d.phase && cursor_covers p d.cursor (r / 8) (r % 8) c)
    (2 ^ p.width - 1)
    (displayed_byte p d mem rom r c)
