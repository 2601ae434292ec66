-- 01, Screens: the picture, defined over planes with no register in it.
use Rattle.std.specs.Prelude.{ℕ, zero, suc, ◌+◌, ◌-◌, ◌*◌, ◌/◌, ◌%◌, ◌^◌, Bool, true, false, cond, ◌&&◌, List, [], ◌∷◌, ltb, leb, eqb, get_or, set, replicate}
use Rattle.std.proofs.lemmas.List.Edits.{sets}
use Rattle.ground.specs.Bytes.{with_bit}
use Rattle.ground.specs.Lists.{zeros}
use Rattle.ground.specs.Packing.{frame_from}
use Rattle.state.specs.declared.panel.Panel.{Panel}
use Rattle.state.specs.declared.registers.Combination.{Combination}
use Rattle.state.specs.declared.registers.Combination.TheVariants.{Or}
use Rattle.state.specs.declared.registers.Cursor.{Cursor}
use Rattle.state.specs.Combination.{combined}
use Rattle.display.specs.Displayed.{cursor_lit}
use Rattle.book.specs.Operation.{Operation, text, rectangle, dot, glyph, cursor, combine, dot_byte, dot_bit}
use Rattle.picture.specs.Layers.{plane_text, plane_graphic}
use Rattle.picture.specs.Laid.{Laid, Nowhere, Over}

-- planes of C·8L graphic bytes, C·L text codes and 1,024 glyph bytes; the combination; the cursor
pub record Picture : Type 0 where
  pub graphic : List ℕ
  pub codes : List ℕ
  pub glyphs : List ℕ
  pub combination : Combination
  pub cursor : Laid

-- graphic bytes 0, text codes 0, glyphs 80H-FFH all 0, OR, no cursor
unfoldable pub blank : Panel → Picture
blank p =
    record {
      graphic = zeros (8 * p.lines * p.columns);
      codes = zeros (p.lines * p.columns);
      glyphs = zeros 1024;
      combination = Or;
      cursor = Nowhere;
    }

abbrev pub with_planes : Picture → List ℕ → List ℕ → List ℕ → Picture
with_planes a graphic codes glyphs = record { graphic = graphic; codes = codes; glyphs = glyphs; combination = a.combination; cursor = a.cursor }

-- that rectangle of graphic bytes becomes value, row by row from row top on
unfoldable pub filled : Panel → ℕ → ℕ → ℕ → ℕ → ℕ → List ℕ → List ℕ
filled p top column zero width value g = g
filled p top column (suc height) width value g =
    filled p (suc top) column height width value (sets g (top * p.columns + column) (replicate width value))

unfoldable pub applied : Panel → Operation → Picture → Picture
applied p (text line column codes) a =
    with_planes a a.graphic (sets a.codes (line * p.columns + column) codes) a.glyphs
applied p (rectangle top column height width value) a =
    with_planes a (filled p top column height width value a.graphic) a.codes a.glyphs
applied p (dot x y on) a =
    with_planes a (set a.graphic (dot_byte p x y) (with_bit (get_or a.graphic (dot_byte p x y) 0) (dot_bit p x) on)) a.codes a.glyphs
applied p (glyph k rows) a = with_planes a a.graphic a.codes (sets a.glyphs (8 * (k - 0x80)) rows)
applied p (cursor line column height blink) a =
    record {
      graphic = a.graphic;
      codes = a.codes;
      glyphs = a.glyphs;
      combination = a.combination;
      cursor = Over (record { x = column; y = line; height = height }) blink;
    }
applied p (combine k) a =
    record { graphic = a.graphic; codes = a.codes; glyphs = a.glyphs; combination = k; cursor = a.cursor }

-- operations apply in order, later over earlier
unfoldable pub applied_all : Panel → List Operation → Picture → Picture
applied_all p [] a = a
applied_all p (o ∷ os) a = applied_all p os (applied p o a)

unfoldable pub picture_of : Panel → List Operation → Picture
picture_of p os = applied_all p os (blank p)

abbrev pub lit_in : Laid → Bool → Bool
lit_in Nowhere normal = false
lit_in (Over k blink) normal = cursor_lit true blink normal

-- the cell of the cursor's line and column, in its lowest rows, as many as its height (H)
abbrev pub cursor_over : Panel → Cursor → ℕ → ℕ → ℕ → Bool
cursor_over p k l v c =
    ltb k.x p.columns && ltb k.y p.lines && eqb k.x c && eqb k.y l && leb (8 - k.height) v

abbrev pub covered_by : Panel → Laid → ℕ → ℕ → ℕ → Bool
covered_by p Nowhere l v c = false
covered_by p (Over k blink) l v c = cursor_over p k l v c

-- the combination and cursor rules of a displayed byte, both layers on
unfoldable pub picture_cell : Panel → List ℕ → Picture → Bool → ℕ → ℕ → ℕ
picture_cell p rom a normal r c =
    cond (lit_in a.cursor normal && covered_by p a.cursor (r / 8) (r % 8) c)
    (2 ^ p.width - 1)
    (combined a.combination (plane_text p rom a.codes a.glyphs r c) (plane_graphic p a.graphic r c))

-- the picture's dots in a phase, packed as a frame
unfoldable pub picture_frame : Panel → List ℕ → Picture → Bool → List ℕ
picture_frame p rom a normal = frame_from p.columns p.lines p.width (picture_cell p rom a normal)
