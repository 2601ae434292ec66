-- A cursor's Y tells the lines of a panel apart, and stays below 32; of a single panel it is the line.
use Rattle.std.proofs.Common.{◌≡◌, ℕ, ◌+◌, ◌-◌, ◌*◌, ◌/◌, ◌<◌, ◌≤◌, Bool, true, false, cond, ◌&&◌, eqb, leb, sym, refl, ap, ◌∙◌, subst, arith, eq-eqb, ne_eqb, leb-false, leb-true}
use native.Mathlib.Decide.{ℕ_discrete}
use Rattle.state.specs.Types.{Panel}
use Rattle.state.specs.State.{valid_panel}
use Rattle.state.specs.Halves.{cursor_y}
use Rattle.state.proofs.Valid.{panelled}

pub single-y : (p : Panel) → p.dual ≡ false → (l : ℕ) → cursor_y p l ≡ l
single-y p e l = ap (λ (t : Bool). cond (t && leb (p.lines / 2) l) (16 + (l - p.lines / 2)) l) e

-- lines below the half keep their number, the others begin with 16
halves-apart : (h l m : ℕ) → h ≤ 16 → (s t : Bool) → leb h l ≡ s → leb h m ≡ t → cond s (16 + (l - h)) l ≡ cond t (16 + (m - h)) m → l ≡ m
halves-apart h l m few true true e f g = omega (arith, leb-true h l e, leb-true h m f)
halves-apart h l m few true false e f g = omega (arith, leb-true h l e, leb-false h m f)
halves-apart h l m few false true e f g = omega (arith, leb-false h l e, leb-true h m f)
halves-apart h l m few false false e f g = g

half-few : (h l : ℕ) → h ≤ 16 → l < 2 * h → (t : Bool) → leb h l ≡ t → cond t (16 + (l - h)) l < 32
half-few h l few k true e = omega (arith, leb-true h l e)
half-few h l few k false e = omega (arith, leb-false h l e)

module _ (p : Panel) (v : valid_panel p ≡ true) where
  dual-y : p.dual ≡ true → (l : ℕ) → cursor_y p l ≡ cond (leb (p.lines / 2) l) (16 + (l - p.lines / 2)) l
  dual-y e l = ap (λ (t : Bool). cond (t && leb (p.lines / 2) l) (16 + (l - p.lines / 2)) l) e

  pub y-apart : (l m : ℕ) → l < p.lines → m < p.lines → cursor_y p l ≡ cursor_y p m → l ≡ m
  y-apart l m h k e = go p.dual refl
    where
      go : (d : Bool) → p.dual ≡ d → l ≡ m
      go true f =
          halves-apart (p.lines / 2) l m (omega (arith, (panelled p v).lines)) (leb (p.lines / 2) l) (leb (p.lines / 2) m) refl refl
          (sym (dual-y f l) ∙ e ∙ dual-y f m)
      go false f = sym (single-y p f l) ∙ e ∙ single-y p f m

  pub y-few : (l : ℕ) → l < p.lines → cursor_y p l < 32
  y-few l h = go p.dual refl
    where
      go : (d : Bool) → p.dual ≡ d → cursor_y p l < 32
      go true f =
          subst (λ (y : ℕ). y < 32) (sym (dual-y f l))
          (half-few (p.lines / 2) l (omega (arith, (panelled p v).lines)) (omega (arith, (panelled p v).halves f)) (leb (p.lines / 2) l) refl)
      go false f = subst (λ (y : ℕ). y < 32) (sym (single-y p f l)) (omega (arith, (panelled p v).single f))

  -- two lines have one Y exactly if they are one
  pub y-same : (l m : ℕ) → l < p.lines → m < p.lines → eqb (cursor_y p l) (cursor_y p m) ≡ eqb l m
  y-same l m h k = go (ℕ_discrete l m)
    where
      go : Dec (l ≡ m) → eqb (cursor_y p l) (cursor_y p m) ≡ eqb l m
      go (yes e) = eq-eqb (cursor_y p l) (cursor_y p m) (ap (cursor_y p) e) ∙ sym (eq-eqb l m e)
      go (no n) = ne_eqb (cursor_y p l) (cursor_y p m) (λ e. n (y-apart l m h k e)) ∙ sym (ne_eqb l m n)
