-- The definitions of a displayed byte, case by case, from what each step of the code gives.
use mathlib.Core.Path.{◌≡◌, ap, sym, ◌∙◌}
use mathlib.Core.List.{List}
use mathlib.Core.Bool.{Bool, true, false, not, cond, ◌&&◌}
use Prim.Native.Nat.{ℕ, ◌-◌, ◌/◌, ◌%◌, ◌^◌}
use lib.ListN.{get_or}
use borrow.Author.Tests.{not-true, not-false}
use Rattle.display.specs.Types.{Panel, Display}
use Rattle.state.specs.Address.{address_of}
use Rattle.display.specs.Displayed.{graphic_byte, attribute_byte, text_layer, glyph_dots, text_dots, graphic_dots, displayed_byte, cursor_lit, cursor_covers, cell_byte}
use Rattle.state.specs.Attribute.{attributed}
use Rattle.state.specs.Combination.{is_attribute, mixed}

-- over plain values: a rewrite by a flag must meet no whole record of registers, in which the flag stands too
module _ (t g a : Bool) (x y : ℕ) where
  layer-off : not t ≡ true → 0 ≡ text_layer t g a x y
  layer-off e = rw (not-true t e)

  layer-plain : not t ≡ false → (a && g) ≡ false → y ≡ text_layer t g a x y
  layer-plain e f = rw (not-false t e, f)

  layer-shown : not t ≡ false → (a && g) ≡ true → x ≡ text_layer t g a x y
  layer-shown e f = rw (not-false t e, f)

module _ (p : Panel) (d : Display) (mem : List ℕ) (r c : ℕ) where
  -- what the code tests for the graphic layer
  shows-graphic : {b : Bool} (v : Bool) → b ≡ is_attribute d.combination → (d.bits.graphic && not b) ≡ v
      → (d.bits.graphic && not (is_attribute d.combination)) ≡ v
  shows-graphic v i e = sym (λ k. d.bits.graphic && not (i k)) ∙ e

  pub graphic-on : {b : Bool} {at n x : ℕ} → b ≡ is_attribute d.combination → (d.bits.graphic && not b) ≡ true
      → at ≡ address_of d.graphic r c → n ≡ get_or mem at 0 → x ≡ n % 2 ^ p.width → x ≡ graphic_dots p d mem r c
  unfolding graphic_dots graphic_byte
  graphic-on i e f h k =
      k ∙ (λ q. (h ∙ ap (λ (m : ℕ). get_or mem m 0) f) q % 2 ^ p.width)
      ∙ sym (ap (λ (v : Bool). cond v (get_or mem (address_of d.graphic r c) 0 % 2 ^ p.width) 0) (shows-graphic true i e))

  pub graphic-off : {b : Bool} → b ≡ is_attribute d.combination → (d.bits.graphic && not b) ≡ false → 0 ≡ graphic_dots p d mem r c
  unfolding graphic_dots
  graphic-off i e = sym (ap (λ (v : Bool). cond v (graphic_byte d mem r c % 2 ^ p.width) 0) (shows-graphic false i e))

module _ (p : Panel) (d : Display) (mem rom : List ℕ) (r c : ℕ) where
  pub text-off : not d.bits.text ≡ true → 0 ≡ text_dots p d mem rom r c
  unfolding text_dots
  text-off e = layer-off d.bits.text d.bits.graphic (is_attribute d.combination) _ _ e

  pub text-plain : {b : Bool} {x : ℕ} → not d.bits.text ≡ false → b ≡ is_attribute d.combination
      → (b && d.bits.graphic) ≡ false → x ≡ glyph_dots p d mem rom r c → x ≡ text_dots p d mem rom r c
  unfolding text_dots
  text-plain e i f h =
      h ∙ layer-plain d.bits.text d.bits.graphic (is_attribute d.combination) _ _ e (sym (λ k. i k && d.bits.graphic) ∙ f)

  pub text-attributed : {b : Bool} {a x y : ℕ} → not d.bits.text ≡ false → b ≡ is_attribute d.combination
      → (b && d.bits.graphic) ≡ true → a ≡ attribute_byte d mem (r / 8) c → x ≡ glyph_dots p d mem rom r c
      → y ≡ attributed p.width d.phase a x → y ≡ text_dots p d mem rom r c
  unfolding text_dots
  text-attributed e i f j k l =
      l ∙ (λ q. attributed p.width d.phase (j q) (k q))
      ∙ layer-shown d.bits.text d.bits.graphic (is_attribute d.combination) _ _ e (sym (λ q. i q && d.bits.graphic) ∙ f)

  pub shown : {t g x : ℕ} → t ≡ text_dots p d mem rom r c → g ≡ graphic_dots p d mem r c
      → x ≡ mixed d.bits.text d.bits.graphic d.combination t g → x ≡ displayed_byte p d mem rom r c
  unfolding displayed_byte
  shown e f h = h ∙ (λ i. mixed d.bits.text d.bits.graphic d.combination (e i) (f i))

  module _ {a b : Bool} (i : a ≡ cursor_lit d.bits.cursor d.bits.blink d.phase) (j : b ≡ cursor_covers p d.cursor (r / 8) (r % 8) c) where
    laid : (v : Bool) → (a && b) ≡ v
        → (cursor_lit d.bits.cursor d.bits.blink d.phase && cursor_covers p d.cursor (r / 8) (r % 8) c) ≡ v
    laid v e = sym (λ k. i k && j k) ∙ e

    pub cell-cursor : {n : ℕ} → (a && b) ≡ true → n ≡ 2 ^ p.width - 1 → n ≡ cell_byte p d mem rom r c
    unfolding cell_byte
    cell-cursor e h = h ∙ sym (ap (λ (v : Bool). cond v (2 ^ p.width - 1) (displayed_byte p d mem rom r c)) (laid true e))

    pub cell-shown : {n : ℕ} → (a && b) ≡ false → n ≡ displayed_byte p d mem rom r c → n ≡ cell_byte p d mem rom r c
    unfolding cell_byte
    cell-shown e h = h ∙ sym (ap (λ (v : Bool). cond v (2 ^ p.width - 1) (displayed_byte p d mem rom r c)) (laid false e))
