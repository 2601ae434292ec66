-- The layers have 0 above their w bits.
use mathlib.Core.List.{List}
use mathlib.Core.Bool.{◌&&◌, not}
use mathlib.Core.Logic.{⊎_elim}
use Prim.Native.Nat.{ℕ, ◌^◌, ◌<◌, ◌≤◌}
use native.Mathlib.Nat.{mod-lt}
use native.Mathlib.Omega.{arith}
use lib.Pow.{pow_pos}
use Rattle.state.proofs.Widths.{cond-lt, combined-lt, attributed-lt}
use Rattle.display.specs.Types.{Panel, Display}
use Rattle.state.specs.Combination.{is_attribute}
use Rattle.display.specs.Displayed.{glyph_dots, text_dots, graphic_dots, displayed_byte}
use Rattle.display.specs.Drawable.{Drawable}
use Rattle.display.specs.Layers.{layers_at}

pub wide : {p : Panel} {d : Display} {mem : List ℕ} → Drawable p d mem → (6 ≤ p.width) × (p.width ≤ 8)
wide k = ⊎_elim (λ e. omega arith) (λ e. omega arith) k.width

module _ (p : Panel) (d : Display) (mem rom : List ℕ) (r c : ℕ) where
  pub glyph-lt : glyph_dots p d mem rom r c < 2 ^ p.width
  unfolding glyph_dots
  glyph-lt = mod-lt _ (pow_pos p.width)

  pub text-lt : text_dots p d mem rom r c < 2 ^ p.width
  unfolding text_dots
  text-lt =
      cond-lt p.width d.bits.text _ 0
      (cond-lt p.width (is_attribute d.combination && d.bits.graphic) _ _ (attributed-lt p.width d.phase _ _ glyph-lt) glyph-lt)
      (pow_pos p.width)

  pub graphic-lt : graphic_dots p d mem r c < 2 ^ p.width
  unfolding graphic_dots
  graphic-lt =
      cond-lt p.width (d.bits.graphic && not (is_attribute d.combination)) _ 0 (mod-lt _ (pow_pos p.width)) (pow_pos p.width)

  pub displayed-lt : displayed_byte p d mem rom r c < 2 ^ p.width
  unfolding displayed_byte
  displayed-lt =
      cond-lt p.width d.bits.text _ _
      (cond-lt p.width d.bits.graphic _ _ (combined-lt p.width d.combination _ _ text-lt graphic-lt) text-lt)
      graphic-lt

  -- all three layers
  pub layers-lt : ((layers_at p d mem rom r c).text < 2 ^ p.width) × ((layers_at p d mem rom r c).graphic < 2 ^ p.width) × ((layers_at p d mem rom r c).shown < 2 ^ p.width)
  layers-lt = (text-lt, graphic-lt, displayed-lt)
