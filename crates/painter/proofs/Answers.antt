-- What drawing a screen answers, past the tests at the door, by what making its planes answered.
use Rattle.std.proofs.Common.{◌≡◌, ℕ, ◌*◌, Bool, true, false, cond, ◌&&◌, eqb, List, length, Result, Ok, Err, refl, ap, sym, ◌∙◌}
use Rattle.std.proofs.Math.Bool.{and-true}
use Rattle.std.proofs.lemmas.Bool.{ne_eqb, false≢true}
use Rattle.ground.proofs.Tests.{settled}
use Rattle.state.specs.declared.panel.Panel.{Panel}
use Rattle.state.specs.declared.refusal.Refused.{Refused}
use Rattle.state.specs.Replies.{placed_reply}
use Rattle.state.specs.State.{valid_panel}
use Rattle.state.proofs.RefusalNumbers.{not_zero, same_placed_reply}
use Rattle.display.specs.Frame.{frame_fits, reply_of}
use Rattle.book.specs.Screen.{Screen, screen, refused, screen_of}
use Rattle.book.proofs.Numbers.{refusal-number}
use Rattle.picture.specs.declared.style.Style.{Style}
use Rattle.picture.specs.Picture.{picture_of, picture_frame}
use Rattle.picture.specs.Ready.{picture_with}
use Rattle.picture.specs.Planned.{Plan, planned_all, styled, refused_plan, areas_fit, plan_screen, planes_of}
use Rattle.painter.specs.Drawn.{Drew, drew_all, planes_fit, draw_screen, draw_of}
use Rattle.state.specs.Replies.{Reply}

-- of five tests the first and the last hold
inner : (a b c d e : Bool) → (a && e) ≡ true → (a && b && c && d && e) ≡ (b && c && d)
inner false b c d e h = absurd (false≢true h)
inner true b c d true h = and-true (b && c && d)
inner true b c d false h = absurd (false≢true h)

module _ (p : Panel) (book : List ℕ) (number : ℕ) (rom : List ℕ) (normal : Bool) (f : List ℕ) where
  -- what planes give: a refusal, or their dots too
  abbrev dots : Plan → Drew
  dots o =
      drew_all (reply_of 0) o.graphic o.codes o.glyphs
      (picture_frame p rom (record { graphic = o.graphic; codes = o.codes; glyphs = o.glyphs; combination = o.planned.combination; cursor = o.planned.cursor }) normal)

  abbrev told : Plan → Drew
  told o = cond (eqb o.planned.number 0) (dots o) (drew_all (record { number = o.planned.number; place = o.planned.place }) o.graphic o.codes o.glyphs f)

  told-refused : {n place : ℕ} (x y z : List ℕ) → (n ≡ 0 → ⊥) → told (planned_all (refused_plan n place) x y z) ≡ drew_all (record { number = n; place = place }) x y z f
  told-refused {n} {place} x y z nz =
      ap (λ (t : Bool). cond t (dots (planned_all (refused_plan n place) x y z)) (drew_all (record { number = n; place = place }) x y z f)) (ne_eqb n 0 nz)

  module _ (g t h : List ℕ) (v : valid_panel p ≡ true) (fits : (eqb (length rom) 1024 && frame_fits p f) ≡ true) where
    told-screen : (s : Screen) → screen_of p book number ≡ s → told (plan_screen p g t h s) ≡ draw_screen p rom normal g t h f s
    unfolding picture_of
    told-screen (screen os) e = refl
    told-screen (refused n place) e = told-refused g t h (refusal-number p book number e)

    by_areas : (b : Bool) → told (cond b (plan_screen p g t h (screen_of p book number)) (planned_all (refused_plan 2 0) g t h))
        ≡ cond b (draw_screen p rom normal g t h f (screen_of p book number)) (drew_all (reply_of 2) g t h f)
    by_areas true = told-screen (screen_of p book number) refl
    by_areas false = refl

    drawn-by : told (planes_of p book number g t h) ≡ draw_of p book number rom normal g t h f
    unfolding planes_of draw_of
    drawn-by =
        let lent : (planes_fit p rom g t h && frame_fits p f) ≡ areas_fit p g t h =
        inner (eqb (length rom) 1024) (eqb (length g) (8 * p.lines * p.columns)) (eqb (length t) (p.lines * p.columns)) (eqb (length h) 1024) (frame_fits p f) fits in
        (λ i. told (cond (v i) (cond (areas_fit p g t h) (plan_screen p g t h (screen_of p book number)) (planned_all (refused_plan 2 0) g t h)) (planned_all (refused_plan 1 0) g t h)))
        ∙ by_areas (areas_fit p g t h)
        ∙ sym
        (λ i. cond (v i) (cond (lent i) (draw_screen p rom normal g t h f (screen_of p book number)) (drew_all (reply_of 2) g t h f)) (drew_all (reply_of 1) g t h f))

    pub draw-refused : (e : Refused) {x y z : List ℕ} → planned_all (styled (Err e)) x y z ≡ planes_of p book number g t h
        → drew_all (placed_reply (Err e)) x y z f ≡ draw_of p book number rom normal g t h f
    draw-refused e {x} {y} {z} k = sym (told-refused x y z (not_zero e.refusal)) ∙ ap told k ∙ drawn-by

    pub draw-0 : (s : Style) {x y z d : List ℕ} → planned_all (styled (Ok s)) x y z ≡ planes_of p book number g t h → d ≡ picture_frame p rom (picture_with x y z s) normal
        → drew_all (placed_reply (Ok tt)) x y z d ≡ draw_of p book number rom normal g t h f
    draw-0 s {x} {y} {z} k l = ap (drew_all (reply_of 0) x y z) l ∙ ap told k ∙ drawn-by

-- two results that meet the promise of `draw`, with what they left in the lent buffers, are equal
pub draw-result-settled : {x y : Result Unit Refused} {g₁ t₁ h₁ f₁ g₂ t₂ h₂ f₂ : List ℕ}
    (p : Panel) (book : List ℕ) (number : ℕ) (rom : List ℕ) (normal : Bool) (g t h f : List ℕ)
    → drew_all (placed_reply x) g₁ t₁ h₁ f₁ ≡ draw_of p book number rom normal g t h f → drew_all (placed_reply y) g₂ t₂ h₂ f₂ ≡ draw_of p book number rom normal g t h f
    → (x ≡ y) × (g₁ ≡ g₂) × (t₁ ≡ t₂) × (h₁ ≡ h₂) × (f₁ ≡ f₂)
draw-result-settled {x} {y} p book number rom normal g t h f a b =
    let e = settled a b in (
      same_placed_reply x y (ap (λ (o : Drew). o.reply) e),
      ap (λ (o : Drew). o.graphic) e,
      ap (λ (o : Drew). o.codes) e,
      ap (λ (o : Drew). o.glyphs) e,
      ap (λ (o : Drew). o.frame) e,
    )

-- the same of replies
pub draw-settled : {x y : Reply} {g₁ t₁ h₁ f₁ g₂ t₂ h₂ f₂ : List ℕ}
    (p : Panel) (book : List ℕ) (number : ℕ) (rom : List ℕ) (normal : Bool) (g t h f : List ℕ)
    → drew_all x g₁ t₁ h₁ f₁ ≡ draw_of p book number rom normal g t h f → drew_all y g₂ t₂ h₂ f₂ ≡ draw_of p book number rom normal g t h f
    → (x ≡ y) × (g₁ ≡ g₂) × (t₁ ≡ t₂) × (h₁ ≡ h₂) × (f₁ ≡ f₂)
draw-settled p book number rom normal g t h f a b =
    let e = settled a b in (
      ap (λ (o : Drew). o.reply) e,
      ap (λ (o : Drew). o.graphic) e,
      ap (λ (o : Drew). o.codes) e,
      ap (λ (o : Drew). o.glyphs) e,
      ap (λ (o : Drew). o.frame) e,
    )
