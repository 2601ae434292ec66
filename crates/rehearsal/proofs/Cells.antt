-- The machine that shows a picture has the picture's cells, in either phase, and so its frame.
use mathlib.Core.Path.{◌≡◌, refl, ap, sym, ◌∙◌}
use mathlib.Core.Bool.{Bool, true, false, cond, ◌&&◌}
use mathlib.Core.List.{List}
use Prim.Native.Nat.{ℕ, ◌+◌, ◌-◌, ◌*◌, ◌/◌, ◌%◌, ◌^◌, ◌≤◌, ◌<◌}
use native.Mathlib.Nat.{mul-le-mul_right}
use native.Mathlib.Omega.{arith}
use lib.Dec.{ltb, leb, eqb}
use lib.ListN.{get_or}
use borrow.Author.Tests.{ltb-false, lt-ltb}
use Rattle.state.specs.declared.panel.Panel.{Panel}
use Rattle.state.specs.declared.registers.Cursor.{Cursor}
use Rattle.state.specs.declared.registers.Display.{Display}
use Rattle.state.specs.State.{valid_panel}
use Rattle.state.specs.Address.{address_of}
use Rattle.display.specs.Displayed.{cursor_lit, cursor_covers, cell_byte}
use Rattle.state.specs.Combination.{combined}
use Rattle.display.specs.Frame.{frame_of}
use Rattle.display.proofs.Painted.{frame-by-rule}
use Rattle.display.proofs.Plain.{plain_glyph, cell-plain}
use Rattle.effects.specs.Effect.{with_phase}
use Rattle.writer.specs.Homes.{graphic_home, text_home, glyph_home}
use Rattle.state.proofs.Halves.{y-same}
use Rattle.state.proofs.Sizes.{some-width}
use Rattle.writer.proofs.Apart.{graphic-below-text, text-below-glyphs}
use Rattle.picture.specs.Laid.{Laid, Nowhere, Over}
use Rattle.picture.specs.Picture.{Picture, lit_in, covered_by, picture_cell, picture_frame}
use Rattle.picture.specs.Layers.{glyph_in, plane_text, plane_graphic}
use Rattle.rehearsal.proofs.Areas.{laid, graphic-at, text_at, glyph-at}
use Rattle.rehearsal.proofs.Simulated.{cursor_on, cursor_blinks, cursor_in, LaidOn, plane_at, display_for, Shape}

-- the cursor's Y stands for its line and no other
cursor-same : (p : Panel) → valid_panel p ≡ true → (found : Cursor) (k : Laid) (phase : Bool) (l v c : ℕ) → LaidOn p k → l < p.lines
    → (cursor_lit (cursor_on k) (cursor_blinks k) phase && cursor_covers p (cursor_in p found k) l v c) ≡ (lit_in k phase && covered_by p k l v c)
cursor-same p valid found Nowhere phase l v c on h = refl
cursor-same p valid found (Over k blink) phase l v c on h =
    let same : ltb l p.lines ≡ ltb k.y p.lines = lt-ltb l p.lines h ∙ sym (lt-ltb k.y p.lines on) in
    λ i. cursor_lit true blink phase && (ltb k.x p.columns && same i && eqb k.x c && y-same p valid k.y l on h i && leb (8 - k.height) v)

module _ (p : Panel) (v : valid_panel p ≡ true) (g h : List ℕ) (a : Picture) (s : Shape p g h a) where
  abbrev mem : List ℕ
  mem = laid g h a.graphic a.codes a.glyphs

  code_same : (l c : ℕ) → l < p.lines → c < p.columns → get_or mem (address_of (plane_at (text_home p) p) l c) 0 ≡ get_or a.codes (l * p.columns + c) 0
  code_same l c i j =
      let few : l * p.columns + c < p.lines * p.columns = omega (arith, mul-le-mul_right p.columns i) in
      let e : (text_home p + l * p.columns + c) % 65536 ≡ text_home p + (l * p.columns + c) = omega (arith, text-below-glyphs p v) in
      ap (λ (n : ℕ). get_or mem n 0) e ∙ text_at g h a.graphic a.codes a.glyphs s.fits (l * p.columns + c) (omega (arith, s.codes))

  graphic-same : (r c : ℕ) → r < 8 * p.lines → c < p.columns → get_or mem (address_of (plane_at graphic_home p) r c) 0 ≡ get_or a.graphic (r * p.columns + c) 0
  graphic-same r c i j =
      let few : r * p.columns + c < 8 * p.lines * p.columns = omega (arith, mul-le-mul_right p.columns i) in
      let e : (graphic_home + r * p.columns + c) % 65536 ≡ r * p.columns + c = omega (arith, graphic-below-text p v, text-below-glyphs p v) in
      ap (λ (n : ℕ). get_or mem n 0) e ∙ graphic-at g h a.graphic a.codes a.glyphs s.fits (r * p.columns + c) (omega (arith, s.graphic))

  glyph-same : (rom : List ℕ) (k i : ℕ) → plain_glyph 0x1f mem rom k i ≡ glyph_in rom a.glyphs k i
  unfolding glyph_in
  glyph-same rom k i = by (ltb k 0x80) refl
    where
      by : (t : Bool) → ltb k 0x80 ≡ t
          → cond t (get_or rom (8 * k + i) 0) (get_or mem (2048 * 0x1f + 8 * k + i) 0) ≡ cond t (get_or rom (8 * k + i) 0) (get_or a.glyphs (8 * (k - 0x80) + i) 0)
      by true e = refl
      by false e =
          let high : 0x80 ≤ k = ltb-false k 0x80 e in
          let q : 2048 * 0x1f + 8 * k + i ≡ glyph_home + (8 * (k - 0x80) + i) = omega arith in
          ap (λ (n : ℕ). get_or mem n 0) q ∙ glyph-at g h a.graphic a.codes a.glyphs s.fits (8 * (k - 0x80) + i)

  module _ (d : Display) (rom : List ℕ) (phase : Bool) where
    cell_same : (r c : ℕ) → r < 8 * p.lines → c < p.columns
        → cell_byte p (with_phase (display_for p d a) phase) mem rom r c ≡ picture_cell p rom a phase r c
    unfolding display_for picture_cell plane_text plane_graphic
    cell_same r c i j =
        let w : ℕ = 2 ^ p.width in
        cell-plain p (plane_at (text_home p) p) (plane_at graphic_home p) 0x1f a.combination (cursor_on a.cursor) (cursor_blinks a.cursor) (cursor_in p d.cursor a.cursor) phase mem rom r c s.plain
        ∙ (λ t. cond (cursor-same p v d.cursor a.cursor phase (r / 8) (r % 8) c s.laid_on (omega arith) t) (w - 1)
        (combined a.combination
        ((ap (λ (k : ℕ). plain_glyph 0x1f mem rom k (r % 8)) (code_same (r / 8) c (omega arith) j) ∙ glyph-same rom (get_or a.codes (r / 8 * p.columns + c) 0) (r % 8)) t % w)
        (graphic-same r c i j t % w)))

    pub frame_same : frame_of p (with_phase (display_for p d a) phase) mem rom ≡ picture_frame p rom a phase
    unfolding picture_frame
    frame_same = frame-by-rule p (with_phase (display_for p d a) phase) mem rom (picture_cell p rom a phase) (some-width p v) cell_same
