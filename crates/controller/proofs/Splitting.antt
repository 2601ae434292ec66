-- Two runs, the second over the rest of log and answer buffer where the first stopped by number, equal one run with both numbers added.
use mathlib.Core.Path.{◌≡◌, refl, ap, sym, ◌∙◌}
use mathlib.Core.Bool.{Bool, true, false, cond, ◌&&◌}
use mathlib.Core.List.{List, [], ◌∷◌, ◌++◌}
use Prim.Native.Nat.{ℕ, zero, suc, ◌+◌, ◌*◌, ◌/◌, ◌%◌, ◌≤◌}
use native.Mathlib.Omega.{arith}
use lib.Dec.{eqb, eqb-suc-zero}
use lib.ListN.{length, take, drop, length-take, length-drop, take-append-drop}
use lib.Seq.{take-add, drop-nil}
use borrow.Author.Tests.{eqb-true, eq-eqb}
use Rattle.ground.proofs.Tests.{both, both_left, both_right}
use Rattle.state.specs.State.{valid_panel, valid_registers}
use Rattle.display.specs.Frame.{lent_lengths}
use Rattle.controller.specs.Types.{Panel, Registers}
use Rattle.controller.specs.Access.{Pair, step_of}
use Rattle.effects.specs.Machine.{Machine}
use Rattle.controller.specs.Run.{pairs_of, Standing, End, whole, short, Run, run_from, end_number, RanAll, ran_all, ran_of, ran_none, stopping_of}
use Rattle.controller.specs.Ready.{standing}
use Rattle.controller.specs.Split.{continued, second_run, Split}
use Rattle.controller.proofs.Laws.{Sounds, sounds, sounds-valid, step-sound}
use Rattle.controller.proofs.Goings.{Ends, all, cut, Kept, run-kept}
use Rattle.controller.proofs.Pairwise.{step-proper}
use Rattle.controller.proofs.Splits.{ended, run-append, shifted, run-shift, behind, behind_run, run-behind}

-- the controller's run keeps its machine sound
pub running-kept : (p : Panel) (rom : List ℕ) (qs : List Pair) (k : ℕ) (s : Standing Machine) → Sounds s.machine → s.given ≤ length s.answers
    → Kept Sounds (run_from (step_of p rom) k qs s)
running-kept p rom = run-kept (step_of p rom) Sounds (step-sound p rom) (step-proper p rom)

-- the rest of a log
pub pairs-drop : (n : ℕ) (log : List ℕ) → drop n (pairs_of log) ≡ pairs_of (drop (2 * n) log)
unfolding pairs_of
pairs-drop zero log = refl
pairs-drop (suc n) [] = ap pairs_of (sym (drop-nil (2 * suc n)))
pairs-drop (suc n) (k ∷ []) = ap (λ (m : ℕ). pairs_of (drop m (k ∷ []))) (let e : suc (suc (2 * n)) ≡ 2 * suc n = omega arith in e)
pairs-drop (suc n) (k ∷ (b ∷ log)) =
    pairs-drop n log ∙ ap (λ (m : ℕ). pairs_of (drop m (k ∷ (b ∷ log)))) (let e : suc (suc (2 * n)) ≡ 2 * suc n = omega arith in e)

-- past the door
module _ (p : Panel) (r : Registers) (mem rom log : List ℕ) (limit : ℕ) (answers : List ℕ) where
  pub inside : (valid_panel p && valid_registers r) ≡ true → lent_lengths mem rom ≡ true → length log % 2 ≡ 0
      → stopping_of p r mem rom log limit answers ≡ ran_of (run_from (step_of p rom) 0 (take limit (pairs_of log)) (standing r mem answers 0))
  unfolding stopping_of
  inside v l e =
      λ i. cond (v i)
      (cond (l i)
      (cond (eq-eqb (length log % 2) 0 e i) (ran_of (run_from (step_of p rom) 0 (take limit (pairs_of log)) (standing r mem answers 0))) (ran_none 8 (length log / 2) r mem answers))
      (ran_none 2 0 r mem answers))
      (ran_none 1 0 r mem answers)

  pub door : (stopping_of p r mem rom log limit answers).ran.number ≡ 0
      → ((valid_panel p && valid_registers r) ≡ true) × (lent_lengths mem rom ≡ true) × (length log % 2 ≡ 0)
  unfolding stopping_of
  door z = go (valid_panel p && valid_registers r) (lent_lengths mem rom) (eqb (length log % 2) 0) refl refl refl z
    where
      never : {A : Type 0} (n : ℕ) → suc n ≡ 0 → A
      never n e = absurd (let y : ⊥ = omega arith in y)

      go : (a b c : Bool) → (valid_panel p && valid_registers r) ≡ a → lent_lengths mem rom ≡ b → eqb (length log % 2) 0 ≡ c
          → (cond a (cond b (cond c (ran_of (run_from (step_of p rom) 0 (take limit (pairs_of log)) (standing r mem answers 0))) (ran_none 8 (length log / 2) r mem answers)) (ran_none 2 0 r mem answers)) (ran_none 1 0 r mem answers)).ran.number ≡ 0
          → ((valid_panel p && valid_registers r) ≡ true) × (lent_lengths mem rom ≡ true) × (length log % 2 ≡ 0)
      go true true true i j k h = (i, j, eqb-true (length log % 2) 0 k)
      go true true false i j k h = never 7 h
      go true false c i j k h = never 1 h
      go false b c i j k h = never 0 h

-- a whole run, by its number
pub whole-by-number : {M : Type 0} (e : Run M) → Ends e.end → end_number e.end ≡ 0 → e ≡ ended e.standing e.taken
whole-by-number {M} e k z = go e.end k z
  where
    go : (x : End) → Ends x → end_number x ≡ 0 → ◌≡◌ {A = Run M} (record { standing = e.standing; taken = e.taken; end = x }) (ended e.standing e.taken)
    go whole all h = refl
    go (short (suc n)) cut h = absurd (let y : ⊥ = omega arith in y)
    go (short zero) x5 h = elim x5 [ ]

-- the reply of a run that went on from n pairs, behind other answers
pub went_on : (n : ℕ) (front : List ℕ) (e : Run Machine) → Ends e.end
    → ran_of (shifted n (behind_run front e)) ≡ continued n front (length front) (ran_of e)
went_on n front e k = go e.end k
  where
    go : (x : End) → Ends x
        → ran_of (record { standing = record { machine = e.standing.machine; answers = front ++ e.standing.answers; given = length front + e.standing.given }; taken = n + e.taken; end = x })
        ≡ continued n front (length front) (ran_of (record { standing = e.standing; taken = e.taken; end = x }))
    go whole all = refl
    go (short (suc z)) cut =
        ap
        (λ (t : Bool). ran_all (record { number = suc z; place = cond t 0 (n + e.taken); taken = n + e.taken; answers = length front + e.standing.given; registers = e.standing.machine.registers }) e.standing.machine.memory (front ++ e.standing.answers))
        (sym (eqb-suc-zero z))
    go (short zero) x4 = elim x4 [ ]

module _ (p : Panel) (r : Registers) (mem rom log answers : List ℕ) (n m : ℕ) (v : (valid_panel p && valid_registers r) ≡ true) (l : lent_lengths mem rom ≡ true) (e : length log % 2 ≡ 0) where
  abbrev first_run : Run Machine
  first_run = run_from (step_of p rom) 0 (take n (pairs_of log)) (standing r mem answers 0)

  abbrev left : Standing Machine
  left = standing first_run.standing.machine.registers first_run.standing.machine.memory (drop first_run.standing.given first_run.standing.answers) 0

  long : length mem ≡ 65536
  long = eqb-true (length mem) 65536 (both_left _ (eqb (length rom) 1024) l)

  kept : Kept Sounds first_run
  kept = running-kept p rom (take n (pairs_of log)) 0 (standing r mem answers 0) (sounds r mem (both_right (valid_panel p) _ v) long) (omega arith)

  -- the first run's standing is what is left, behind the answers it gave
  stands : first_run.standing ≡ behind (take first_run.standing.given first_run.standing.answers) left
  stands =
      let g : length (take first_run.standing.given first_run.standing.answers) ≡ first_run.standing.given = rw length-take (omega (arith, kept.within)) in
      λ i. record {
        machine = first_run.standing.machine;
        answers = sym (take-append-drop first_run.standing.given first_run.standing.answers) i;
        given = (let f : first_run.standing.given ≡ length (take first_run.standing.given first_run.standing.answers) + 0 = omega arith in f) i;
      }

  second : stopping_of p first_run.standing.machine.registers first_run.standing.machine.memory rom (drop (2 * n) log) m (drop first_run.standing.given first_run.standing.answers)
      ≡ ran_of (run_from (step_of p rom) 0 (take m (pairs_of (drop (2 * n) log))) left)
  second =
      inside p first_run.standing.machine.registers first_run.standing.machine.memory rom (drop (2 * n) log) m (drop first_run.standing.given first_run.standing.answers)
      (both (both_left (valid_panel p) (valid_registers r) v) (sounds-valid kept.sound))
      (both (eq-eqb (length first_run.standing.machine.memory) 65536 kept.sound.memory) (both_right (eqb (length mem) 65536) _ l))
      (rw length-drop (omega arith))

  joined : end_number first_run.end ≡ 0 → first_run.taken ≡ n
      → ran_of (run_from (step_of p rom) 0 (take (n + m) (pairs_of log)) (standing r mem answers 0))
      ≡ continued n (take first_run.standing.given first_run.standing.answers) first_run.standing.given
      (ran_of (run_from (step_of p rom) 0 (take m (pairs_of (drop (2 * n) log))) left))
  joined z t =
      let front = take first_run.standing.given first_run.standing.answers in
      let rest = take m (drop n (pairs_of log)) in
      let g : length front ≡ first_run.standing.given = rw length-take (omega (arith, kept.within)) in
      ap (λ (qs : List Pair). ran_of (run_from (step_of p rom) 0 qs (standing r mem answers 0))) (take-add n m (pairs_of log))
      ∙ ap ran_of (run-append (step_of p rom) (take n (pairs_of log)) rest 0 first_run.taken (standing r mem answers 0) first_run.standing (whole-by-number first_run kept.ends z))
      ∙ (λ i. ran_of (run_from (step_of p rom) ((let f : first_run.taken ≡ n + 0 = omega arith in f) i) rest (stands i)))
      ∙ ap ran_of (run-shift (step_of p rom) n 0 rest (behind front left))
      ∙ ap (λ (x : Run Machine). ran_of (shifted n x)) (run-behind (step_of p rom) front 0 rest left)
      ∙ went_on n front (run_from (step_of p rom) 0 rest left) (running-kept p rom rest 0 left kept.sound (omega arith)).ends
      ∙ (λ i. continued n front (g i) (ran_of (run_from (step_of p rom) 0 (take m (pairs-drop n log i)) left)))

-- the second run behind the first
abbrev gone_on : Panel → List ℕ → List ℕ → ℕ → ℕ → RanAll → RanAll
gone_on p rom log n m x = continued n (take x.ran.answers x.answers) x.ran.answers (second_run p rom log n m x)

split-run : (p : Panel) (r : Registers) (mem rom log answers : List ℕ) (n m : ℕ)
    → (stopping_of p r mem rom log n answers).ran.number ≡ 0
    → (stopping_of p r mem rom log n answers).ran.taken ≡ n
    → stopping_of p r mem rom log (n + m) answers ≡ gone_on p rom log n m (stopping_of p r mem rom log n answers)
split-run p r mem rom log answers n m z t =
    let d = door p r mem rom log n answers z in
    let f = inside p r mem rom log n answers d.0 d.1 d.2 in
    inside p r mem rom log (n + m) answers d.0 d.1 d.2
    ∙ joined p r mem rom log answers n m d.0 d.1 d.2 (sym (ap (λ (x : RanAll). x.ran.number) f) ∙ z) (sym (ap (λ (x : RanAll). x.ran.taken) f) ∙ t)
    ∙ ap
    (continued n (take (first_run p r mem rom log answers n m d.0 d.1 d.2).standing.given (first_run p r mem rom log answers n m d.0 d.1 d.2).standing.answers) (first_run p r mem rom log answers n m d.0 d.1 d.2).standing.given)
    (sym (second p r mem rom log answers n m d.0 d.1 d.2))
    ∙ ap
    (gone_on p rom log n m)
    (sym f)

-- document 01's split rule
pub split : Split
split p r mem rom log answers n m first e z t =
    split-run p r mem rom log answers n m (ap (λ (x : RanAll). x.ran.number) (sym e) ∙ z) (ap (λ (x : RanAll). x.ran.taken) (sym e) ∙ t)
    ∙ ap (gone_on p rom log n m) (sym e)
