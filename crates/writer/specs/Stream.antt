-- 01, Screens: the pairs written for a screen.
use Rattle.std.specs.Prelude.{ℕ, zero, suc, ◌+◌, ◌-◌, ◌*◌, ◌/◌, ◌%◌, cond, List, [], ◌∷◌, ◌++◌, map, replicate}
use Rattle.ground.specs.Lists.{zeros}
use Rattle.state.specs.declared.panel.Panel.{Panel}
use Rattle.state.specs.Halves.{cursor_y}
use Rattle.state.specs.declared.registers.Combination.{Combination}
use Rattle.state.specs.declared.registers.Combination.TheVariants.{Or, Exor, And, Attribute}
pub use Rattle.controller.specs.Access.{Pair, datum, code}
pub use Rattle.writer.specs.Homes.{graphic_home, text_home, glyph_home}
use Rattle.book.specs.Operation.{Operation, text, rectangle, dot, glyph, cursor, combine, body_count, dot_byte, dot_bit}

-- pointer set
unfoldable pub point_to : ℕ → List Pair
point_to at = datum (at % 256) ∷ datum (at / 256) ∷ code 0x24 ∷ []

-- pointer set, B0H, the bytes, B2H
unfoldable pub block : ℕ → List ℕ → List Pair
block at bytes = point_to at ++ (code 0xb0 ∷ (map datum bytes ++ (code 0xb2 ∷ [])))

-- text home, text area C, graphic home, graphic area C, ignored data 00H
abbrev pub plane_pairs : Panel → List Pair
plane_pairs p =
    datum (text_home p % 256) ∷ datum (text_home p / 256) ∷ code 0x40
    ∷ datum p.columns ∷ datum 0x00 ∷ code 0x41
    ∷ datum (graphic_home % 256) ∷ datum (graphic_home / 256) ∷ code 0x42
    ∷ datum p.columns ∷ datum 0x00 ∷ code 0x43
    ∷ []

-- B2H; the planes; offset 1FH; 80H; 9CH
unfoldable pub set_up : Panel → List Pair
set_up p =
    code 0xb2
    ∷ (plane_pairs p
    ++ (datum 0x1f ∷ datum 0x00 ∷ code 0x22
    ∷ code 0x80
    ∷ code 0x9c
    ∷ []))

-- then graphic area, text area and glyphs cleared
unfoldable pub opening : Panel → List Pair
opening p =
    set_up p
    ++ (block graphic_home (zeros (8 * p.lines * p.columns))
    ++ (block (text_home p) (zeros (p.lines * p.columns))
    ++ block glyph_home (zeros 1024)))

-- 80H, 81H, 83H
abbrev pub combination_code : Combination → ℕ
combination_code Or = 0x80
combination_code Exor = 0x81
combination_code And = 0x83
combination_code Attribute = 0x84

-- each row of a rectangle, from row top on
unfoldable pub row_blocks : Panel → ℕ → ℕ → ℕ → ℕ → ℕ → List Pair
row_blocks p top column zero width value = []
row_blocks p top column (suc height) width value =
    block (graphic_home + (top * p.columns + column)) (replicate width value)
    ++ row_blocks p (suc top) column height width value

-- a text, each row of operation 2 and a glyph are blocks; 3: pointer set, then F0H or F8H plus w-1-(x mod w);
-- 5: 21H with its data, Y the line's (02, Req 08), A0H plus height-1, 9EH or 9FH; 6: its code
unfoldable pub operation_pairs : Panel → Operation → List Pair
operation_pairs p (text line column codes) = block (text_home p + (line * p.columns + column)) codes
operation_pairs p (rectangle top column height width value) = row_blocks p top column height width value
operation_pairs p (dot x y on) =
    point_to (graphic_home + dot_byte p x y) ++ (code (cond on 0xf8 0xf0 + dot_bit p x) ∷ [])
operation_pairs p (glyph k rows) = block (glyph_home + 8 * (k - 0x80)) rows
operation_pairs p (cursor line column height blink) =
    datum column ∷ datum (cursor_y p line) ∷ code 0x21 ∷ code (0xa0 + (height - 1)) ∷ code (cond blink 0x9f 0x9e) ∷ []
operation_pairs p (combine k) = code (combination_code k) ∷ []

unfoldable pub body_pairs : Panel → List Operation → List Pair
body_pairs p [] = []
body_pairs p (o ∷ os) = operation_pairs p o ++ body_pairs p os

unfoldable pub stream_of : Panel → List Operation → List Pair
stream_of p os = opening p ++ body_pairs p os

-- the opening takes 1057 + 9·C·L pairs
unfoldable pub count_of : Panel → List Operation → ℕ
count_of p os = 1057 + 9 * (p.columns * p.lines) + body_count os
