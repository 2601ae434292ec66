-- A row painted by itself: what each test at the door answers, what is had past them, and the row's dots.
use mathlib.Core.Path.{◌≡◌, ap, sym, ◌∙◌}
use mathlib.Core.List.{List}
use mathlib.Core.Bool.{Bool, true, false, cond, ◌&&◌}
use Prim.Native.Nat.{ℕ, ◌-◌, ◌*◌, ◌/◌, ◌%◌, ◌^◌, ◌<◌}
use native.Mathlib.Omega.{arith}
use lib.Dec.{eqb}
use lib.ListN.{length, get_or}
use borrow.Author.Tests.{eqb-true, eq-eqb}
use Rattle.ground.specs.Packing.{packed, dot_at, row_from}
use Rattle.ground.proofs.Lists.{build-at}
use Rattle.ground.proofs.Packing.{packed-bit, dot-lt}
use Rattle.ground.proofs.Packing as packing
use Rattle.ground.proofs.Tests.{both, both_left, both_right, settled}
use Rattle.state.specs.State.{valid_panel, valid_display}
use Rattle.state.specs.Sizes.{row_size, valid_size}
use Rattle.state.proofs.Sizes.{is-size}
use Rattle.state.specs.declared.refusal.Refusal.{Refusal}
use Rattle.state.specs.Refusals.{number_of}
use Rattle.state.specs.Replies.{reply}
use Rattle.state.proofs.RefusalNumbers.{same_reply}
use Rattle.std.proofs.Common.{Result}
use Rattle.display.specs.Types.{Panel, Display}
use Rattle.display.specs.Displayed.{cell_byte}
use Rattle.display.specs.Frame.{dot_of, row_of, lent_lengths, reply_of, Painted, painted}
use Rattle.display.specs.OneRow.{row_fits, paint_one_of}
use Rattle.display.specs.Drawable.{Drawable}
use Rattle.display.proofs.Doors.{drawable, rom-long, turned-away}
use Rattle.display.specs.Types.{Reply}

module _ (p : Panel) (d : Display) (mem rom : List ℕ) (r : ℕ) where
  pub row-length : length (row_of p d mem rom r) ≡ row_size p
  unfolding row_of
  row-length = packing.row-length p.columns p.width (cell_byte p d mem rom r)

  -- each dot, read off the row
  pub row-dot : (x : ℕ) → x < 8 * row_size p → get_or (row_of p d mem rom r) (x / 8) 0 / 2 ^ (7 - x % 8) % 2 ≡ dot_of p d mem rom r x
  unfolding row_of row_from dot_of
  row-dot x k =
      ap (λ (y : ℕ). y / 2 ^ (7 - x % 8) % 2)
      (build-at (row_size p) (λ j. packed (dot_at p.columns p.width (cell_byte p d mem rom r)) (8 * j) 8) (x / 8) 0 (omega arith))
      ∙ packed-bit (dot_at p.columns p.width (cell_byte p d mem rom r)) (dot-lt p.columns p.width (cell_byte p d mem rom r)) (8 * (x / 8)) 8 (x % 8) (omega arith)
      ∙ ap (dot_at p.columns p.width (cell_byte p d mem rom r)) (omega arith)

  module _ (out : List ℕ) where
    abbrev one_fits : Bool → Painted
    one_fits f = cond f (painted (reply_of 0) (row_of p d mem rom r)) (painted (reply_of 2) out)

    ones : (v f : Bool) → (valid_panel p && valid_display d) ≡ v → (lent_lengths mem rom && row_fits p out) ≡ f
        → cond v (one_fits f) (painted (reply_of 1) out) ≡ paint_one_of p d mem rom r out
    unfolding paint_one_of
    ones v f i j = sym (λ k. cond (i k) (one_fits (j k)) (painted (reply_of 1) out))

    -- a row that is painted, for whoever knows that it fits
    pub one-is : valid_panel p ≡ true → valid_display d ≡ true → lent_lengths mem rom ≡ true → length out ≡ row_size p
        → paint_one_of p d mem rom r out ≡ painted (reply_of 0) (row_of p d mem rom r)
    one-is i j l h = sym (ones true true (both i j) (both l (eq-eqb (length out) (row_size p) h)))

    module _ {a b : Bool} (i : a ≡ valid_panel p) (j : b ≡ valid_display d) where
      tests : {v : Bool} → (a && b) ≡ v → (valid_panel p && valid_display d) ≡ v
      tests e = sym (λ k. i k && j k) ∙ e

      one-1 : (a && b) ≡ false → painted (reply_of 1) out ≡ paint_one_of p d mem rom r out
      one-1 e = ones false (lent_lengths mem rom && row_fits p out) (tests e) (λ k. lent_lengths mem rom && row_fits p out)

      module _ (e : (a && b) ≡ true) {R : ℕ} (m : R ≡ valid_size p (row_size p)) where
        is-valid : valid_panel p ≡ true
        is-valid = sym i ∙ both_left a b e

        pub one_size : R ≡ row_size p
        one_size = is-size p is-valid m

        fits-are : (v : Bool) → (lent_lengths mem rom && eqb (length out) R) ≡ v → (lent_lengths mem rom && row_fits p out) ≡ v
        fits-are v h = sym (λ k. lent_lengths mem rom && eqb (length out) (one_size k)) ∙ h

        one-2 : (lent_lengths mem rom && eqb (length out) R) ≡ false → painted (reply_of 2) out ≡ paint_one_of p d mem rom r out
        one-2 h = ones true false (tests e) (fits-are false h)

        module _ (h : (lent_lengths mem rom && eqb (length out) R) ≡ true) where
          pub one-0 : {l : List ℕ} → l ≡ row_of p d mem rom r → painted (reply_of 0) l ≡ paint_one_of p d mem rom r out
          one-0 k = ap (painted (reply_of 0)) k ∙ ones true true (tests e) (fits-are true h)

          pub one-drawable : Drawable p d mem
          one-drawable = drawable p d mem rom is-valid (sym j ∙ both_right a b e) (both_left (lent_lengths mem rom) (eqb (length out) R) h)

          pub one-rom : length rom ≡ 1024
          one-rom = rom-long mem rom (both_left (lent_lengths mem rom) (eqb (length out) R) h)

          pub one-stretch : length out ≡ 1 * R
          one-stretch = omega (arith, eqb-true (length out) R (both_right (lent_lengths mem rom) (eqb (length out) R) h))

      -- turned away at the door
      pub one-no : {R : ℕ} (t : Refusal) → R ≡ valid_size p (row_size p) → number_of t ≡ cond (a && b) (cond (lent_lengths mem rom && eqb (length out) R) 0 2) 1
          → painted (reply_of (number_of t)) out ≡ paint_one_of p d mem rom r out
      one-no {R} t m e =
          turned-away (a && b) (lent_lengths mem rom && eqb (length out) R) t (λ k. painted (reply_of k) out) e one-1 (λ v f. one-2 v m f)

-- two answers that meet a promise are equal
pub one-result-settled : {x y : Result Unit Refusal} {f g : List ℕ} (p : Panel) (d : Display) (mem rom : List ℕ) (r : ℕ) (out : List ℕ)
    → painted (reply x) f ≡ paint_one_of p d mem rom r out → painted (reply y) g ≡ paint_one_of p d mem rom r out → (x ≡ y) × (f ≡ g)
one-result-settled {x} {y} p d mem rom r out h k =
    (same_reply x y (ap (λ (o : Painted). o.reply) (settled h k)), ap (λ (o : Painted). o.frame) (settled h k))

-- the same of replies
pub one-settled : {x y : Reply} {f g : List ℕ} (p : Panel) (d : Display) (mem rom : List ℕ) (r : ℕ) (out : List ℕ)
    → painted x f ≡ paint_one_of p d mem rom r out → painted y g ≡ paint_one_of p d mem rom r out → (x ≡ y) × (f ≡ g)
one-settled p d mem rom r out h k =
    (ap (λ (o : Painted). o.reply) (settled h k), ap (λ (o : Painted). o.frame) (settled h k))
