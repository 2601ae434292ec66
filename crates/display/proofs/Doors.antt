-- What holds past the tests at the door, and what each of them answers.
use mathlib.Core.Path.{◌≡◌, refl, ap, ◌∙◌}
use mathlib.Core.List.{List}
use mathlib.Core.Bool.{Bool, true, false, cond, ◌&&◌}
use Prim.Native.Nat.{ℕ}
use native.Mathlib.Omega.{arith}
use lib.Dec.{eqb}
use lib.ListN.{length}
use borrow.Author.Tests.{eqb-true}
use Rattle.ground.proofs.Tests.{both_left, both_right, settled}
use Rattle.state.specs.declared.refusal.Refusal.{Refusal}
use Rattle.state.specs.Refusals.{number_of}
use Rattle.state.specs.Replies.{reply}
use Rattle.state.proofs.RefusalNumbers.{not_zero, same_reply}
use Rattle.std.proofs.Common.{Result}
use Rattle.display.specs.Types.{Panel, Display, Registers}
use Rattle.state.specs.State.{valid_panel, valid_display, valid_registers}
use Rattle.state.proofs.Valid.{panelled, displaying}
use Rattle.display.specs.Frame.{frame_of, lent_lengths, frame_fits, reply_of, Painted, painted, paint_of}
use Rattle.display.specs.Drawable.{Drawable}
use Rattle.display.specs.Types.{Reply}

pub drawable : (p : Panel) (d : Display) (mem rom : List ℕ) → valid_panel p ≡ true → valid_display d ≡ true → lent_lengths mem rom ≡ true
    → Drawable p d mem
drawable p d mem rom i j l =
    let q = panelled p i in
    let s = displaying d j in
    record {
      columns = q.columns;
      lines = q.lines;
      width = q.width;
      offset = s.offset;
      height = s.height;
      memory = eqb-true (length mem) 65536 (both_left _ (eqb (length rom) 1024) l);
    }

pub rom-long : (mem rom : List ℕ) → lent_lengths mem rom ≡ true → length rom ≡ 1024
rom-long mem rom l = eqb-true (length rom) 1024 (both_right (eqb (length mem) 65536) (eqb (length rom) 1024) l)

-- the number at the door: past it both tests hold
pub let-in : (v f : Bool) → ◌≡◌ {A = ℕ} 0 (cond v (cond f 0 2) 1) → (v ≡ true) × (f ≡ true)
let-in true true e = (refl, refl)
let-in true false e = absurd (omega (arith, e))
let-in false f e = absurd (omega (arith, e))

-- else it is the first that fails
pub turned-away : {A : Type 0} (v f : Bool) (k : Refusal) (g : ℕ → A) {y : A} → number_of k ≡ cond v (cond f 0 2) 1
    → (v ≡ false → g 1 ≡ y) → (v ≡ true → f ≡ false → g 2 ≡ y) → g (number_of k) ≡ y
turned-away true true k g e one two = absurd (not_zero k e)
turned-away true false k g e one two = ap g e ∙ two refl refl
turned-away false f k g e one two = ap g e ∙ one refl

-- a frame that is painted, for whoever knows that it fits
pub painted-is : (p : Panel) (r : Registers) (mem rom frame : List ℕ) → (valid_panel p && valid_registers r) ≡ true → (lent_lengths mem rom && frame_fits p frame) ≡ true
    → paint_of p r mem rom frame ≡ painted (reply_of 0) (frame_of p r.display mem rom)
unfolding paint_of
painted-is p r mem rom frame v l =
    λ k. cond (v k) (cond (l k) (painted (reply_of 0) (frame_of p r.display mem rom)) (painted (reply_of 2) frame)) (painted (reply_of 1) frame)

-- two answers that meet a promise are equal
pub paint-result-settled : {x y : Result Unit Refusal} {f g : List ℕ} (p : Panel) (r : Registers) (mem rom frame : List ℕ)
    → painted (reply x) f ≡ paint_of p r mem rom frame → painted (reply y) g ≡ paint_of p r mem rom frame → (x ≡ y) × (f ≡ g)
paint-result-settled {x} {y} p r mem rom frame h k =
    (same_reply x y (ap (λ (o : Painted). o.reply) (settled h k)), ap (λ (o : Painted). o.frame) (settled h k))

-- the same of replies
pub paint-settled : {x y : Reply} {f g : List ℕ} (p : Panel) (r : Registers) (mem rom frame : List ℕ)
    → painted x f ≡ paint_of p r mem rom frame → painted y g ≡ paint_of p r mem rom frame → (x ≡ y) × (f ≡ g)
paint-settled p r mem rom frame h k =
    (ap (λ (o : Painted). o.reply) (settled h k), ap (λ (o : Painted). o.frame) (settled h k))
