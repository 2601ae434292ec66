-- The layers asked for: what each test at the door answers, and what is had past them.
use mathlib.Core.Path.{◌≡◌, ap, sym, ◌∙◌}
use mathlib.Core.List.{List}
use mathlib.Core.Bool.{Bool, true, false, cond, ◌&&◌}
use Prim.Native.Nat.{ℕ, ◌+◌, ◌≤◌}
use native.Mathlib.Omega.{arith}
use lib.Dec.{eqb}
use lib.ListN.{length}
use borrow.Author.Tests.{eqb-true, eq-eqb}
use Rattle.ground.specs.Lists.{build}
use Rattle.ground.proofs.Tests.{both, both_left, both_right, settled}
use Rattle.state.specs.State.{valid_panel, valid_display}
use Rattle.state.specs.declared.refusal.Refusal.{Refusal}
use Rattle.state.specs.Refusals.{number_of}
use Rattle.state.specs.Replies.{reply}
use Rattle.state.proofs.RefusalNumbers.{same_reply}
use Rattle.std.proofs.Common.{Result}
use Rattle.display.specs.Types.{Panel, Display}
use Rattle.display.specs.Frame.{lent_lengths, reply_of}
use Rattle.display.specs.Drawable.{Drawable}
use Rattle.display.specs.Layers.{layers_at, Stretch, stretch, layers_from, alike, row_layers_of}
use Rattle.display.proofs.Doors.{drawable, rom-long, turned-away}
use Rattle.display.specs.Types.{Reply}

module _ (p : Panel) (d : Display) (mem rom : List ℕ) (r c : ℕ) (text graphic shown : List ℕ) {a b : Bool} (i : a ≡ valid_panel p) (j : b ≡ valid_display d) where
  asked : (v : Bool) → (a && b) ≡ v
      → cond v
      (cond (lent_lengths mem rom && alike text graphic shown) (layers_from p d mem rom r c (length shown)) (stretch (reply_of 2) text graphic shown))
      (stretch (reply_of 1) text graphic shown)
      ≡ row_layers_of p d mem rom r c text graphic shown
  unfolding row_layers_of
  asked v e =
      sym
      (ap
      (λ (t : Bool).
      cond t
      (cond (lent_lengths mem rom && alike text graphic shown) (layers_from p d mem rom r c (length shown)) (stretch (reply_of 2) text graphic shown))
      (stretch (reply_of 1) text graphic shown))
      (sym (λ k. i k && j k) ∙ e))

  asked-1 : (a && b) ≡ false → stretch (reply_of 1) text graphic shown ≡ row_layers_of p d mem rom r c text graphic shown
  asked-1 e = asked false e

  module _ (e : (a && b) ≡ true) where
    fitting : (v : Bool) → (lent_lengths mem rom && alike text graphic shown) ≡ v
        → cond v (layers_from p d mem rom r c (length shown)) (stretch (reply_of 2) text graphic shown) ≡ row_layers_of p d mem rom r c text graphic shown
    fitting v l =
        sym (ap (λ (t : Bool). cond t (layers_from p d mem rom r c (length shown)) (stretch (reply_of 2) text graphic shown)) l) ∙ asked true e

    asked-2 : (lent_lengths mem rom && alike text graphic shown) ≡ false
        → stretch (reply_of 2) text graphic shown ≡ row_layers_of p d mem rom r c text graphic shown
    asked-2 l = fitting false l

    module _ (l : (lent_lengths mem rom && alike text graphic shown) ≡ true) where
      text-count : length text ≡ length shown
      text-count =
          eqb-true (length text) (length shown)
          (both_left (eqb (length text) (length shown)) (eqb (length graphic) (length shown)) (both_right (lent_lengths mem rom) (alike text graphic shown) l))

      graphic-count : length graphic ≡ length shown
      graphic-count =
          eqb-true (length graphic) (length shown)
          (both_right (eqb (length text) (length shown)) (eqb (length graphic) (length shown)) (both_right (lent_lengths mem rom) (alike text graphic shown) l))

      pub asked-room : length text ≤ length shown
      asked-room = omega (arith, text-count)

      pub asked-drawable : Drawable p d mem
      asked-drawable =
          drawable p d mem rom (sym i ∙ both_left a b e) (sym j ∙ both_right a b e) (both_left (lent_lengths mem rom) (alike text graphic shown) l)

      pub asked-rom : length rom ≡ 1024
      asked-rom = rom-long mem rom (both_left (lent_lengths mem rom) (alike text graphic shown) l)

      pub asked-0 : {t g s : List ℕ} → t ≡ build (length text) (λ n. (layers_at p d mem rom r (c + n)).text)
          → g ≡ build (length graphic) (λ n. (layers_at p d mem rom r (c + n)).graphic)
          → s ≡ build (length shown) (λ n. (layers_at p d mem rom r (c + n)).shown)
          → stretch (reply_of 0) t g s ≡ row_layers_of p d mem rom r c text graphic shown
      asked-0 h k m =
          (λ q.
          stretch (reply_of 0)
          ((h ∙ ap (λ (z : ℕ). build z (λ n. (layers_at p d mem rom r (c + n)).text)) text-count) q)
          ((k ∙ ap (λ (z : ℕ). build z (λ n. (layers_at p d mem rom r (c + n)).graphic)) graphic-count) q)
          (m q))
          ∙ fitting true l

  -- turned away at the door
  pub asked-no : (t : Refusal) → number_of t ≡ cond (a && b) (cond (lent_lengths mem rom && alike text graphic shown) 0 2) 1
      → stretch (reply_of (number_of t)) text graphic shown ≡ row_layers_of p d mem rom r c text graphic shown
  asked-no t e =
      turned-away (a && b) (lent_lengths mem rom && alike text graphic shown) t (λ k. stretch (reply_of k) text graphic shown) e asked-1 (λ v f. asked-2 v f)

-- of lists of one length, past the tests
pub row-layers-are : (p : Panel) (d : Display) (mem rom : List ℕ) (r c : ℕ) (text graphic shown : List ℕ) → valid_panel p ≡ true → valid_display d ≡ true
    → lent_lengths mem rom ≡ true → length text ≡ length shown → length graphic ≡ length shown
    → row_layers_of p d mem rom r c text graphic shown ≡ layers_from p d mem rom r c (length shown)
unfolding row_layers_of
row-layers-are p d mem rom r c text graphic shown i j l m n =
    λ k.
    cond (i k && j k)
    (cond (both l (both (eq-eqb (length text) (length shown) m) (eq-eqb (length graphic) (length shown) n)) k)
    (layers_from p d mem rom r c (length shown))
    (stretch (reply_of 2) text graphic shown))
    (stretch (reply_of 1) text graphic shown)

-- two answers that meet a promise are equal
pub row-layers-result-settled : {x y : Result Unit Refusal} {t g s u v w : List ℕ} (p : Panel) (d : Display) (mem rom : List ℕ) (r c : ℕ) (text graphic shown : List ℕ)
    → stretch (reply x) t g s ≡ row_layers_of p d mem rom r c text graphic shown → stretch (reply y) u v w ≡ row_layers_of p d mem rom r c text graphic shown
    → (x ≡ y) × (t ≡ u) × (g ≡ v) × (s ≡ w)
row-layers-result-settled {x} {y} p d mem rom r c text graphic shown h k =
    let e = settled h k in
    (same_reply x y (ap (λ (o : Stretch). o.reply) e), ap (λ (o : Stretch). o.text) e, ap (λ (o : Stretch). o.graphic) e, ap (λ (o : Stretch). o.shown) e)

-- the same of replies
pub row-layers-settled : {x y : Reply} {t g s u v w : List ℕ} (p : Panel) (d : Display) (mem rom : List ℕ) (r c : ℕ) (text graphic shown : List ℕ)
    → stretch x t g s ≡ row_layers_of p d mem rom r c text graphic shown → stretch y u v w ≡ row_layers_of p d mem rom r c text graphic shown
    → stretch x t g s ≡ stretch y u v w
row-layers-settled p d mem rom r c text graphic shown h k = settled h k
