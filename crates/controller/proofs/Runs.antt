-- A run's door, and that its reply is settled.
use mathlib.Core.Path.{◌≡◌, refl, ap, sym, ◌∙◌}
use mathlib.Core.Bool.{Bool, true, false, cond, ◌&&◌}
use mathlib.Core.List.{List, [], ◌∷◌}
use Prim.Native.Nat.{ℕ, ◌/◌, ◌%◌, ◌≤◌, min}
use native.Mathlib.Omega.{arith}
use lib.Dec.{eqb}
use lib.ListN.{length, take}
use lib.Seq.{take_all}
use native.Mathlib.Decide.{dec_le}
use borrow.Author.Tests.{eq-eqb, ne_eqb}
use Rattle.ground.proofs.Tests.{settled}
use Rattle.state.specs.State.{valid_panel, valid_registers}
use Rattle.display.specs.Frame.{lent_lengths}
use Rattle.controller.specs.Types.{Panel, Registers, Ran, RanOn}
use Rattle.controller.specs.Access.{Pair, step_of}
use Rattle.controller.specs.Run.{pairs_of, run_from, RanAll, ran_all, ran_of, ran_none, stopping_of}
use Rattle.controller.specs.Skip.{skip_step, begun_on, RanOnAll, ran_on_all, ran_on_of, ran_on_none, either_run, run_of}
use Rattle.controller.specs.Ready.{standing}
use Rattle.controller.proofs.Skips.{off-is}

pub pairs-length : (log : List ℕ) → length (pairs_of log) ≡ length log / 2
unfolding pairs_of
pairs-length [] = refl
pairs-length (k ∷ []) = refl
pairs-length (k ∷ (b ∷ log)) = let e : length (pairs_of log) ≡ length log / 2 = pairs-length log in omega arith

-- no more pairs than there are
take-least : {A : Type 0} (n m : ℕ) (l : List A) → length l ≡ m → take n l ≡ take (min n m) l
take-least n m l e = go (dec_le n m)
  where
    go : Dec (n ≤ m) → take n l ≡ take (min n m) l
    go (yes h) = let f : min n m ≡ n = omega arith in ap (λ (k : ℕ). take k l) (sym f)
    go (no h) =
        let f : min n m ≡ m = omega arith in
        take_all n l (omega arith) ∙ sym (take_all m l (omega arith)) ∙ ap (λ (k : ℕ). take k l) (sym f)

-- either run's door
module _ (on : Bool) (p : Panel) (r : Registers) (mem rom log : List ℕ) (limit : ℕ) (answers skips : List ℕ) {a b : Bool} (i : a ≡ valid_panel p) (j : b ≡ valid_registers r) where
  abbrev within : List Pair → RanOnAll
  within qs = ran_on_of (run_from (skip_step on (step_of p rom)) 0 qs (begun_on r mem answers skips))

  entered : (v : Bool) → (a && b) ≡ v
      → cond v (cond (lent_lengths mem rom) (cond (eqb (length log % 2) 0) (within (take limit (pairs_of log))) (ran_on_none 8 (length log / 2) r mem answers skips)) (ran_on_none 2 0 r mem answers skips)) (ran_on_none 1 0 r mem answers skips)
      ≡ either_run on p r mem rom log limit answers skips
  unfolding either_run
  entered v e =
      ap
      (λ (t : Bool). cond t
      (cond (lent_lengths mem rom) (cond (eqb (length log % 2) 0) (within (take limit (pairs_of log))) (ran_on_none 8 (length log / 2) r mem answers skips)) (ran_on_none 2 0 r mem answers skips))
      (ran_on_none 1 0 r mem answers skips))
      (sym e ∙ (λ t. i t && j t))

  none : {x : RanOn} {n place : ℕ} → x ≡ record { ran = record { number = n; place = place; taken = 0; answers = 0; registers = r }; skipped = 0 }
      → ran_on_all x mem answers skips ≡ ran_on_none n place r mem answers skips
  none h = ap (λ (x : RanOn). ran_on_all x mem answers skips) h

  pub run-1 : {x : RanOn} → (a && b) ≡ false → x ≡ record { ran = record { number = 1; place = 0; taken = 0; answers = 0; registers = r }; skipped = 0 }
      → ran_on_all x mem answers skips ≡ either_run on p r mem rom log limit answers skips
  run-1 e h = none h ∙ entered false e

  module _ (e : (a && b) ≡ true) where
    lent : (v : Bool) → lent_lengths mem rom ≡ v
        → cond v (cond (eqb (length log % 2) 0) (within (take limit (pairs_of log))) (ran_on_none 8 (length log / 2) r mem answers skips)) (ran_on_none 2 0 r mem answers skips)
        ≡ either_run on p r mem rom log limit answers skips
    lent v l =
        ap
        (λ (t : Bool). cond t (cond (eqb (length log % 2) 0) (within (take limit (pairs_of log))) (ran_on_none 8 (length log / 2) r mem answers skips)) (ran_on_none 2 0 r mem answers skips))
        (sym l)
        ∙ entered true e

    pub run-2 : {x : RanOn} → lent_lengths mem rom ≡ false → x ≡ record { ran = record { number = 2; place = 0; taken = 0; answers = 0; registers = r }; skipped = 0 }
        → ran_on_all x mem answers skips ≡ either_run on p r mem rom log limit answers skips
    run-2 l h = none h ∙ lent false l

    module _ (l : lent_lengths mem rom ≡ true) where
      even : (v : Bool) → eqb (length log % 2) 0 ≡ v
          → cond v (within (take limit (pairs_of log))) (ran_on_none 8 (length log / 2) r mem answers skips) ≡ either_run on p r mem rom log limit answers skips
      even v f =
          ap (λ (t : Bool). cond t (within (take limit (pairs_of log))) (ran_on_none 8 (length log / 2) r mem answers skips)) (sym f)
          ∙ lent true l

      pub run-8 : {x : RanOn} → (length log % 2 ≡ 0 → ⊥) → x ≡ record { ran = record { number = 8; place = length log / 2; taken = 0; answers = 0; registers = r }; skipped = 0 }
          → ran_on_all x mem answers skips ≡ either_run on p r mem rom log limit answers skips
      run-8 f h = none h ∙ even false (ne_eqb (length log % 2) 0 f)

      pub run-0 : {x : RanOn} {m c k : List ℕ} {n : ℕ} → length log % 2 ≡ 0 → n ≡ min limit (length log / 2)
          → ran_on_all x m c k ≡ within (take n (pairs_of log))
          → ran_on_all x m c k ≡ either_run on p r mem rom log limit answers skips
      run-0 f g h =
          h
          ∙ ap within
          (ap (λ (k : ℕ). take k (pairs_of log)) g ∙ sym (take-least limit (length log / 2) (pairs_of log) (pairs-length log)))
          ∙ even true (eq-eqb (length log % 2) 0 f)

-- skipping off, the list is none of the run's business
pub off-stops : (p : Panel) (r : Registers) (mem rom log : List ℕ) (limit : ℕ) (answers skips : List ℕ)
    → (either_run false p r mem rom log limit answers skips).all ≡ stopping_of p r mem rom log limit answers
unfolding either_run stopping_of
off-stops p r mem rom log limit answers skips = go (valid_panel p && valid_registers r) (lent_lengths mem rom) (eqb (length log % 2) 0)
  where
    go : (v l e : Bool)
        → (cond v (cond l (cond e (ran_on_of (run_from (skip_step false (step_of p rom)) 0 (take limit (pairs_of log)) (begun_on r mem answers skips))) (ran_on_none 8 (length log / 2) r mem answers skips)) (ran_on_none 2 0 r mem answers skips)) (ran_on_none 1 0 r mem answers skips)).all
        ≡ cond v (cond l (cond e (ran_of (run_from (step_of p rom) 0 (take limit (pairs_of log)) (standing r mem answers 0))) (ran_none 8 (length log / 2) r mem answers)) (ran_none 2 0 r mem answers)) (ran_none 1 0 r mem answers)
    go true true true = sym (ap ran_of (off-is (step_of p rom) 0 (take limit (pairs_of log)) (begun_on r mem answers skips)))
    go true true false = refl
    go true false e = refl
    go false l e = refl

-- two replies that meet the promise are equal
pub run_settled : {x y : Ran} {m n c d : List ℕ} (p : Panel) (r : Registers) (mem rom log : List ℕ) (limit : ℕ) (answers : List ℕ)
    → ran_all x m c ≡ stopping_of p r mem rom log limit answers → ran_all y n d ≡ stopping_of p r mem rom log limit answers → (x ≡ y) × (m ≡ n) × (c ≡ d)
run_settled p r mem rom log limit answers h k =
    (ap (λ (o : RanAll). o.ran) (settled h k), ap (λ (o : RanAll). o.memory) (settled h k), ap (λ (o : RanAll). o.answers) (settled h k))

pub run-on-settled : {x y : RanOn} {m n c d k l : List ℕ} (p : Panel) (r : Registers) (mem rom log : List ℕ) (limit : ℕ) (answers skips : List ℕ)
    → ran_on_all x m c k ≡ run_of p r mem rom log limit answers skips → ran_on_all y n d l ≡ run_of p r mem rom log limit answers skips → (x ≡ y) × (m ≡ n) × (c ≡ d) × (k ≡ l)
run-on-settled p r mem rom log limit answers skips h k =
    let e = settled h k in (λ i. record { ran = (e i).all.ran; skipped = (e i).skipped }, ap (λ (o : RanOnAll). o.all.memory) e, ap (λ (o : RanOnAll). o.all.answers) e, ap (λ (o : RanOnAll). o.skips) e)
