-- The laws of logs and their pairs, and the run over the log of pairs that are all taken.
use mathlib.Core.Path.{◌≡◌, refl, ap, subst, ◌∙◌}
use mathlib.Core.Bool.{true, cond, ◌&&◌}
use mathlib.Core.List.{List, [], ◌∷◌, ◌++◌}
use Prim.Native.Nat.{ℕ, ◌+◌, ◌*◌, ◌/◌, ◌%◌, ◌≤◌}
use native.Mathlib.Omega.{arith}
use lib.Dec.{eqb}
use lib.ListN.{length, take}
use lib.Seq.{take_all}
use borrow.Author.Tests.{eq-eqb}
use Rattle.state.specs.State.{valid_panel, valid_registers}
use Rattle.display.specs.Frame.{lent_lengths}
use Rattle.controller.specs.Types.{Panel, Registers}
use Rattle.controller.specs.Access.{Pair, step_of}
use Rattle.effects.specs.Machine.{Machine, machine}
use Rattle.controller.specs.Run.{pairs_of, log_of, run_from, ran_all, ran_of, ran_none, stopping_of}
use Rattle.controller.specs.Ready.{standing}
use Rattle.controller.proofs.Laws.{Sounds, sounds, sounds-valid}
use Rattle.controller.proofs.Goings.{Kept}
use Rattle.controller.proofs.Splitting.{running-kept}
use Rattle.controller.proofs.Takes.{Takes}

pub log-append : (ps qs : List Pair) → log_of (ps ++ qs) ≡ log_of ps ++ log_of qs
unfolding log_of
log-append [] qs = refl
log-append (p ∷ ps) qs = ap (λ (l : List ℕ). p.kind ∷ p.byte ∷ l) (log-append ps qs)

pub log-length : (ps : List Pair) → length (log_of ps) ≡ 2 * length ps
unfolding log_of
log-length [] = refl
log-length (p ∷ ps) = omega (arith, log-length ps)

pub log-pairs : (ps : List Pair) → pairs_of (log_of ps) ≡ ps
unfolding pairs_of log_of
log-pairs [] = refl
log-pairs (p ∷ ps) = ap (λ (l : List Pair). p ∷ l) (log-pairs ps)

-- pairs that are all taken make a run that takes them all
pub run-takes : (p : Panel) (r : Registers) (mem rom : List ℕ) (qs : List Pair) (limit : ℕ) (answers : List ℕ) {t : Machine}
    → valid_panel p ≡ true → valid_registers r ≡ true → lent_lengths mem rom ≡ true → length qs ≤ limit → Takes (step_of p rom) qs (machine r mem) t
    → stopping_of p r mem rom (log_of qs) limit answers
    ≡ ran_all (record { number = 0; place = 0; taken = length qs; answers = 0; registers = t.registers }) t.memory answers
unfolding stopping_of
run-takes p r mem rom qs limit answers {t} v w l few x =
    let even : eqb (length (log_of qs) % 2) 0 ≡ true = eq-eqb (length (log_of qs) % 2) 0 (omega (arith, log-length qs)) in
    let all : take limit (pairs_of (log_of qs)) ≡ qs = ap (take limit) (log-pairs qs) ∙ take_all limit qs few in
    (λ i. cond (v i && w i)
    (cond (l i)
    (cond (even i) (ran_of (run_from (step_of p rom) 0 (all i) (standing r mem answers 0))) (ran_none 8 (length (log_of qs) / 2) r mem answers))
    (ran_none 2 0 r mem answers))
    (ran_none 1 0 r mem answers))
    ∙ ap ran_of (x.run 0 answers 0)
    ∙ ap (λ (n : ℕ). ran_all (record { number = 0; place = 0; taken = n; answers = 0; registers = t.registers }) t.memory answers)
    (let e : 0 + length qs ≡ length qs = omega arith in e)

-- they leave a valid state
pub takes-valid : (p : Panel) (r : Registers) (mem rom : List ℕ) {qs : List Pair} {t : Machine} → valid_registers r ≡ true → length mem ≡ 65536
    → Takes (step_of p rom) qs (machine r mem) t → valid_registers t.registers ≡ true
takes-valid p r mem rom {qs} {t} v l x =
    sounds-valid (subst (Kept Sounds) (x.run 0 [] 0) (running-kept p rom qs 0 (standing r mem [] 0) (sounds r mem v l) (omega arith))).sound
