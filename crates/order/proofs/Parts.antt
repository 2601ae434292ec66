-- An operation as what it does to each part of a picture, and the places of a plane that it uses.
use mathlib.Core.Path.{◌≡◌, refl, sym, ap, ◌∙◌}
use mathlib.Core.Bool.{Bool, true, ◌&&◌}
use mathlib.Core.List.{List}
use Prim.Native.Nat.{ℕ, ◌+◌, ◌-◌, ◌*◌, ◌/◌, ◌%◌, ◌≤◌, ◌<◌}
use native.Mathlib.Nat.{mul-add-div_right, mul-add-mod_self_right, div-eq_of_lt, mod-eq_of_lt}
use native.Mathlib.Omega.{arith}
use lib.Dec.{eqb}
use lib.ListN.{length, get_or, set}
use lib.Seq.{sets}
use borrow.Author.Tests.{lt-ltb, le-leb}
use Rattle.ground.specs.Bytes.{with_bit}
use Rattle.ground.proofs.Tests.{both}
use Rattle.state.specs.declared.panel.Panel.{Panel}
use Rattle.state.specs.declared.registers.Combination.{Combination}
use Rattle.book.specs.Operation.{Operation, text, rectangle, dot, glyph, cursor, combine, dot_byte, dot_bit}
use Rattle.picture.specs.Laid.{Laid, Over}
use Rattle.picture.specs.Picture.{Picture, filled, applied}
use Rattle.picture.proofs.Planes.{Stores, stores-none, stores_one, stores-sets, stores-filled}
use Rattle.order.specs.declared.area.Area.{Area}
use Rattle.order.specs.Order.{operation_number, area_of, uses, graphic_number}

module _ (p : Panel) where
  abbrev pub on_graphic : Operation → List ℕ → List ℕ
  on_graphic (text line column codes) g = g
  on_graphic (rectangle top column height width value) g = filled p top column height width value g
  on_graphic (dot x y on) g = set g (dot_byte p x y) (with_bit (get_or g (dot_byte p x y) 0) (dot_bit p x) on)
  on_graphic (glyph code rows) g = g
  on_graphic (cursor line column height blink) g = g
  on_graphic (combine k) g = g

  abbrev pub on_codes : Operation → List ℕ → List ℕ
  on_codes (text line column codes) t = sets t (line * p.columns + column) codes
  on_codes (rectangle top column height width value) t = t
  on_codes (dot x y on) t = t
  on_codes (glyph code rows) t = t
  on_codes (cursor line column height blink) t = t
  on_codes (combine k) t = t

  abbrev pub on_glyphs : Operation → List ℕ → List ℕ
  on_glyphs (text line column codes) h = h
  on_glyphs (rectangle top column height width value) h = h
  on_glyphs (dot x y on) h = h
  on_glyphs (glyph code rows) h = sets h (8 * (code - 0x80)) rows
  on_glyphs (cursor line column height blink) h = h
  on_glyphs (combine k) h = h

  abbrev pub on_combination : Operation → Combination → Combination
  on_combination (text line column codes) c = c
  on_combination (rectangle top column height width value) c = c
  on_combination (dot x y on) c = c
  on_combination (glyph code rows) c = c
  on_combination (cursor line column height blink) c = c
  on_combination (combine k) c = k

  abbrev pub on_cursor : Operation → Laid → Laid
  on_cursor (text line column codes) l = l
  on_cursor (rectangle top column height width value) l = l
  on_cursor (dot x y on) l = l
  on_cursor (glyph code rows) l = l
  on_cursor (cursor line column height blink) l = Over (record { x = column; y = line; height = height }) blink
  on_cursor (combine k) l = l

  abbrev pub by_parts : Operation → Picture → Picture
  by_parts o a =
      record {
        graphic = on_graphic o a.graphic;
        codes = on_codes o a.codes;
        glyphs = on_glyphs o a.glyphs;
        combination = on_combination o a.combination;
        cursor = on_cursor o a.cursor;
      }

  pub applied-parts : (o : Operation) (a : Picture) → applied p o a ≡ by_parts o a
  unfolding applied
  applied-parts (text line column codes) a = refl
  applied-parts (rectangle top column height width value) a = refl
  applied-parts (dot x y on) a = refl
  applied-parts (glyph code rows) a = refl
  applied-parts (cursor line column height blink) a = refl
  applied-parts (combine k) a = refl

  -- what a screen's operations keep to: rows end at the panel's edge, a glyph has a code that is stored and at most eight rows
  abbrev pub Within : Operation → Type 0
  Within (text line column codes) = column + length codes ≤ p.columns
  Within (rectangle top column height width value) = column + width ≤ p.columns
  Within (dot x y on) = x / p.width < p.columns
  Within (glyph code rows) = (0x80 ≤ code) × (length rows ≤ 8)
  Within (cursor line column height blink) = Unit {0}
  Within (combine k) = Unit {0}

  -- the places that an operation uses in each plane
  abbrev pub graphic_used : Operation → ℕ → Bool
  graphic_used o i = graphic_number (operation_number o) && uses (area_of p o) (i / p.columns) (i % p.columns)

  abbrev pub codes_used : Operation → ℕ → Bool
  codes_used o i = eqb (operation_number o) 1 && uses (area_of p o) (i / p.columns) (i % p.columns)

  abbrev pub glyphs_used : Operation → ℕ → Bool
  glyphs_used o i = eqb (operation_number o) 4 && uses (area_of p o) (i / 8 + 0x80) 0

  -- a place of row r between two columns
  in_row : (a : Area) (r c n i : ℕ) → c + n ≤ p.columns → r * p.columns + c ≤ i → i < r * p.columns + c + n
      → a.top ≤ r → r < a.top + a.height → a.left ≤ c → c + n ≤ a.left + a.width → uses a (i / p.columns) (i % p.columns) ≡ true
  in_row a r c n i w l m t b f g =
      let C : ℕ = p.columns in
      let d : ℕ = i - r * C in
      let pos : 0 < C = omega arith in
      let e : r * C + d ≡ i = omega arith in
      let few : d < C = omega arith in
      let row : i / C ≡ r
      = ap (λ (x : ℕ). x / C) (sym e) ∙ mul-add-div_right pos r d ∙ ap (λ (x : ℕ). r + x) (div-eq_of_lt few) ∙ (let z : r + 0 ≡ r = omega arith in z) in
      let column : i % C ≡ d = ap (λ (x : ℕ). x % C) (sym e) ∙ mul-add-mod_self_right r C d ∙ mod-eq_of_lt few in
      both (both (le-leb a.top (i / C) (omega arith)) (lt-ltb (i / C) (a.top + a.height) (omega arith)))
      (both (le-leb a.left (i % C) (omega arith)) (lt-ltb (i % C) (a.left + a.width) (omega arith)))

  pub stores-graphic : (o : Operation) → Within o → Stores (graphic_used o) (on_graphic o)
  stores-graphic (text line column codes) w = stores-none _
  stores-graphic (rectangle top column height width value) w =
      stores-filled (graphic_used (rectangle top column height width value)) p height top column width value
      (λ r i a b l m. in_row (area_of p (rectangle top column height width value)) r column width i w l m a b (omega arith) (omega arith))
  stores-graphic (dot x y on) w =
      stores_one (graphic_used (dot x y on)) (dot_byte p x y) (λ v. with_bit v (dot_bit p x) on)
      (in_row (area_of p (dot x y on)) y (x / p.width) 1 (dot_byte p x y) (omega arith) (omega arith) (omega arith) (omega arith) (omega arith) (omega arith) (omega arith))
  stores-graphic (glyph code rows) w = stores-none _
  stores-graphic (cursor line column height blink) w = stores-none _
  stores-graphic (combine k) w = stores-none _

  pub stores-codes : (o : Operation) → Within o → Stores (codes_used o) (on_codes o)
  stores-codes (text line column codes) w =
      stores-sets (codes_used (text line column codes)) codes (line * p.columns + column)
      (λ i l m. in_row (area_of p (text line column codes)) line column (length codes) i w l m (omega arith) (omega arith) (omega arith) (omega arith))
  stores-codes (rectangle top column height width value) w = stores-none _
  stores-codes (dot x y on) w = stores-none _
  stores-codes (glyph code rows) w = stores-none _
  stores-codes (cursor line column height blink) w = stores-none _
  stores-codes (combine k) w = stores-none _

  pub stores-glyphs : (o : Operation) → Within o → Stores (glyphs_used o) (on_glyphs o)
  stores-glyphs (text line column codes) w = stores-none _
  stores-glyphs (rectangle top column height width value) w = stores-none _
  stores-glyphs (dot x y on) w = stores-none _
  stores-glyphs (glyph code rows) w =
      stores-sets (glyphs_used (glyph code rows)) rows (8 * (code - 0x80))
      (λ i l m. both (both (le-leb code (i / 8 + 0x80) (omega (arith, w.0, w.1))) (lt-ltb (i / 8 + 0x80) (code + 1) (omega (arith, w.0, w.1)))) refl)
  stores-glyphs (cursor line column height blink) w = stores-none _
  stores-glyphs (combine k) w = stores-none _
