-- The three areas lie apart, one below the other. Nothing else computes with a text home.
use mathlib.Core.Path.{◌≡◌, refl}
use mathlib.Core.Bool.{Bool, true, false, cond}
use mathlib.Core.List.{List}
use Prim.Native.Nat.{ℕ, ◌+◌, ◌*◌, ◌≤◌, ◌<◌}
use native.Mathlib.Nat.{mul_assoc, mul-le-mul, mul-le-mul_right}
use native.Mathlib.Omega.{arith}
use Rattle.state.specs.declared.panel.Panel.{Panel}
use Rattle.state.specs.State.{valid_panel}
use Rattle.book.specs.Range.{TextRange}
use Rattle.writer.specs.Homes.{graphic_home, text_home, glyph_home}
use Rattle.state.proofs.Valid.{panelled}
use Rattle.state.proofs.Sizes.{columns-few, cells-few, graphic-few}

module _ (p : Panel) (v : valid_panel p ≡ true) where
  -- by the panel's kind, the only place where the areas ask for it
  apart_by : (dual : Bool) → p.dual ≡ dual → (graphic_home + 8 * p.lines * p.columns ≤ cond dual 0x8000 0x4000) × (cond dual 0x8000 0x4000 + p.lines * p.columns ≤ glyph_home)
  apart_by true e = (
    omega (arith, graphic-few p v),
    omega (arith, cells-few p v),
  )
  apart_by false e =
      let few : p.lines * p.columns ≤ 1280 = mul-le-mul {n₂ = 16} {m₂ = 80} ((panelled p v).single e) (columns-few p v) in (
        omega (arith, mul_assoc 8 p.lines p.columns),
        omega arith,
      )

  pub graphic-below-text : graphic_home + 8 * p.lines * p.columns ≤ text_home p
  unfolding text_home
  graphic-below-text = (apart_by p.dual refl).0

  pub text-below-glyphs : text_home p + p.lines * p.columns ≤ glyph_home
  unfolding text_home
  text-below-glyphs = (apart_by p.dual refl).1

  -- a text's first code
  pub text-place : {book : List ℕ} {line column from n : ℕ} → TextRange p book line column from n → text_home p + (line * p.columns + column) < glyph_home
  text-place k = omega (arith, text-below-glyphs, k.some, k.across, mul-le-mul_right p.columns k.down)
