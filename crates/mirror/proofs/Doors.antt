-- A conversion's tests at the door: what each of them answers.
use mathlib.Core.Path.{◌≡◌, ap, sym, ◌∙◌}
use mathlib.Core.List.{List, map}
use mathlib.Core.Bool.{Bool, true, false, cond}
use Prim.Native.Nat.{ℕ}
use lib.Dec.{eqb}
use lib.ListN.{length}
use Rattle.ground.proofs.Tests.{settled}
use Rattle.state.specs.State.{valid_panel}
use Rattle.state.specs.Sizes.{frame_size, valid_size}
use Rattle.state.proofs.Sizes.{is-size}
use Rattle.state.specs.declared.refusal.Refusal.{Refusal}
use Rattle.state.specs.Replies.{reply}
use Rattle.state.proofs.RefusalNumbers.{same_reply}
use Rattle.std.proofs.Common.{Result}
use Rattle.display.specs.Types.{Panel}
use Rattle.display.specs.Frame.{frame_fits, reply_of, Painted, painted}
use Rattle.mirror.specs.Order.{mirrored, convert_of}
use Rattle.display.specs.Types.{Reply}

-- past both tests, and in front of them
module _ (p : Panel) (frame : List ℕ) where
  abbrev fitting : Bool → Painted
  fitting f = cond f (painted (reply_of 0) (map mirrored frame)) (painted (reply_of 2) frame)

  abbrev converting : Bool → Bool → Painted
  converting v f = cond v (fitting f) (painted (reply_of 1) frame)

  pub converts : (v f : Bool) → valid_panel p ≡ v → frame_fits p frame ≡ f → converting v f ≡ convert_of p frame
  unfolding convert_of
  converts v f i j = sym (λ k. converting (i k) (j k))

  module _ {a : Bool} (i : a ≡ valid_panel p) where
    pub converts-1 : a ≡ false → painted (reply_of 1) frame ≡ convert_of p frame
    converts-1 e = converts false (frame_fits p frame) (sym i ∙ e) (λ k. frame_fits p frame)

    module _ (e : a ≡ true) {S : ℕ} (m : S ≡ valid_size p (frame_size p)) where
      fits-is : (f : Bool) → eqb (length frame) S ≡ f → frame_fits p frame ≡ f
      fits-is f h = sym (λ k. eqb (length frame) (is-size p (sym i ∙ e) m k)) ∙ h

      pub converts-2 : eqb (length frame) S ≡ false → painted (reply_of 2) frame ≡ convert_of p frame
      converts-2 h = converts true false (sym i ∙ e) (fits-is false h)

      pub converts-0 : {l : List ℕ} → eqb (length frame) S ≡ true → l ≡ map mirrored frame → painted (reply_of 0) l ≡ convert_of p frame
      converts-0 h k = ap (painted (reply_of 0)) k ∙ converts true true (sym i ∙ e) (fits-is true h)

-- two answers that meet a promise are equal
pub convert-result-settled : {x y : Result Unit Refusal} {f g : List ℕ} (p : Panel) (frame : List ℕ)
    → painted (reply x) f ≡ convert_of p frame → painted (reply y) g ≡ convert_of p frame → (x ≡ y) × (f ≡ g)
convert-result-settled {x} {y} p frame h k =
    (same_reply x y (ap (λ (o : Painted). o.reply) (settled h k)), ap (λ (o : Painted). o.frame) (settled h k))

-- the same of replies
pub convert-settled : {x y : Reply} {f g : List ℕ} (p : Panel) (frame : List ℕ)
    → painted x f ≡ convert_of p frame → painted y g ≡ convert_of p frame → (x ≡ y) × (f ≡ g)
convert-settled p frame h k =
    (ap (λ (o : Painted). o.reply) (settled h k), ap (λ (o : Painted). o.frame) (settled h k))
