-- What a cell's layers depend on: the bytes that they are read from.
use mathlib.Core.Path.{◌≡◌, refl, ap, ◌∙◌}
use mathlib.Core.List.{List}
use mathlib.Core.Bool.{Bool, true, false, cond, not, ◌&&◌}
use Prim.Native.Nat.{ℕ, ◌/◌, ◌%◌, ◌^◌}
use lib.Dec.{ltb}
use Rattle.state.specs.Attribute.{attributed}
use Rattle.state.specs.Combination.{is_attribute, mixed}
use Rattle.display.specs.Types.{Panel, Display}
use Rattle.display.specs.Displayed.{text_code, glyph_row, text_layer, glyph_dots, text_dots, graphic_dots, displayed_byte}
use Rattle.display.specs.Layers.{layers_at, SameBytes}

-- over plain values
unread : (b : Bool) (z : ℕ) {x y : ℕ} → (not b ≡ true → x ≡ y) → cond b z x ≡ cond b z y
unread true z h = refl
unread false z h = h refl

text-alike : (t g a : Bool) {x y u v : ℕ} → (a ≡ true → x ≡ y) → u ≡ v → text_layer t g a x u ≡ text_layer t g a y v
text-alike false g a h k = refl
text-alike true g false h k = k
text-alike true false true h k = k
text-alike true true true h k = h refl

graphic-alike : (g a : Bool) {x y : ℕ} → (a ≡ false → x ≡ y) → cond (g && not a) x 0 ≡ cond (g && not a) y 0
graphic-alike false a h = refl
graphic-alike true true h = refl
graphic-alike true false h = h refl

module _ (p : Panel) (d : Display) (mem memory rom : List ℕ) (r c : ℕ) (s : SameBytes p d mem memory r c) where
  glyph-same : glyph_dots p d mem rom r c ≡ glyph_dots p d memory rom r c
  unfolding glyph_dots glyph_row
  glyph-same =
      ap (λ (n : ℕ). n % 2 ^ p.width) (unread (not d.external && ltb (text_code d mem (r / 8) c) 0x80) _ s.glyph)
      ∙ ap (λ (code : ℕ). glyph_row d memory rom code (r % 8) % 2 ^ p.width) s.code

  text_same : text_dots p d mem rom r c ≡ text_dots p d memory rom r c
  unfolding text_dots
  text_same =
      text-alike d.bits.text d.bits.graphic (is_attribute d.combination)
      (λ e q. attributed p.width d.phase (s.attribute e q) (glyph-same q))
      glyph-same

  graphic-same : graphic_dots p d mem r c ≡ graphic_dots p d memory r c
  unfolding graphic_dots
  graphic-same =
      graphic-alike d.bits.graphic (is_attribute d.combination) (λ e. ap (λ (n : ℕ). n % 2 ^ p.width) (s.graphic e))

  -- equal text code, glyph byte, graphic byte and attribute byte, as far as each is read: equal layers
  pub layers-same : layers_at p d mem rom r c ≡ layers_at p d memory rom r c
  unfolding displayed_byte
  layers-same =
      λ q.
      record {
        text = text_same q;
        graphic = graphic-same q;
        shown = mixed d.bits.text d.bits.graphic d.combination (text_same q) (graphic-same q);
      }
