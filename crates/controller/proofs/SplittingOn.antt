-- Two ordinary runs equal one, the list lent on like the answers; where nothing is refused the run that stops is the ordinary one.
use mathlib.Core.Path.{◌≡◌, refl, ap, sym, ◌∙◌}
use mathlib.Core.Bool.{Bool, true, false, cond, ◌&&◌}
use mathlib.Core.List.{List, ◌++◌}
use Prim.Native.Nat.{ℕ, suc, ◌+◌, ◌*◌, ◌/◌, ◌%◌}
use native.Mathlib.Omega.{arith}
use lib.Dec.{eqb}
use lib.ListN.{length, take, drop, length-take, length-drop, take-append-drop}
use lib.Seq.{take-add}
use borrow.Author.Tests.{eqb-true, eq-eqb}
use Rattle.ground.proofs.Tests.{both, both_left, both_right}
use Rattle.state.specs.State.{valid_panel, valid_registers}
use Rattle.display.specs.Frame.{lent_lengths}
use Rattle.controller.specs.Types.{Panel, Registers}
use Rattle.controller.specs.Access.{Pair, Step, step_of}
use Rattle.effects.specs.Machine.{Machine}
use Rattle.controller.specs.Run.{pairs_of, Standing, Run, run_from, end_number, RanAll, ran_of}
use Rattle.controller.specs.Skip.{Skipping, skip_step, begun_on, RanOnAll, ran_on_of, ran_on_none, either_run, run_of, later}
use Rattle.controller.specs.Split.{continued}
use Rattle.controller.specs.SplitOn.{continued_on, second_run_on, SplitOn, Agree}
use Rattle.controller.specs.Ready.{standing}
use Rattle.controller.proofs.Laws.{Sounds, sounds, sounds-valid}
use Rattle.controller.proofs.Goings.{Ends, Kept, run-kept}
use Rattle.controller.proofs.Pairwise.{SoundOn, skip-sound, skip-proper}
use Rattle.controller.proofs.Splits.{run-append, shifted, run-shift, behind, behind_run, run-behind, projected, projected_run}
use Rattle.controller.proofs.Skips.{skip-agrees, run-place, later_on, skip-shift, behind_list, skip-behind}
use Rattle.controller.proofs.Splitting.{running-kept, pairs-drop, whole-by-number, went_on, inside, door}

-- past the door
module _ (p : Panel) (r : Registers) (mem rom log : List ℕ) (limit : ℕ) (answers skips : List ℕ) where
  abbrev ran_on : RanOnAll
  ran_on = ran_on_of (run_from (skip_step true (step_of p rom)) 0 (take limit (pairs_of log)) (begun_on r mem answers skips))

  pub inside_on : (valid_panel p && valid_registers r) ≡ true → lent_lengths mem rom ≡ true → length log % 2 ≡ 0 → run_of p r mem rom log limit answers skips ≡ ran_on
  unfolding either_run
  inside_on v l e =
      λ i. cond (v i)
      (cond (l i)
      (cond (eq-eqb (length log % 2) 0 e i) ran_on (ran_on_none 8 (length log / 2) r mem answers skips))
      (ran_on_none 2 0 r mem answers skips))
      (ran_on_none 1 0 r mem answers skips)

  pub door-on : (run_of p r mem rom log limit answers skips).all.ran.number ≡ 0
      → ((valid_panel p && valid_registers r) ≡ true) × (lent_lengths mem rom ≡ true) × (length log % 2 ≡ 0)
  unfolding either_run
  door-on z = go (valid_panel p && valid_registers r) (lent_lengths mem rom) (eqb (length log % 2) 0) refl refl refl z
    where
      never : {A : Type 0} (n : ℕ) → suc n ≡ 0 → A
      never n e = absurd (let y : ⊥ = omega arith in y)

      go : (a b c : Bool) → (valid_panel p && valid_registers r) ≡ a → lent_lengths mem rom ≡ b → eqb (length log % 2) 0 ≡ c
          → (cond a (cond b (cond c ran_on (ran_on_none 8 (length log / 2) r mem answers skips)) (ran_on_none 2 0 r mem answers skips)) (ran_on_none 1 0 r mem answers skips)).all.ran.number ≡ 0
          → ((valid_panel p && valid_registers r) ≡ true) × (lent_lengths mem rom ≡ true) × (length log % 2 ≡ 0)
      go true true true i j k h = (i, j, eqb-true (length log % 2) 0 k)
      go true true false i j k h = never 7 h
      go true false c i j k h = never 1 h
      go false b c i j k h = never 0 h

-- the reply of an ordinary run that went on from n pairs, behind other answers and c entries
went-on-on : (n : ℕ) (front list : List ℕ) (c : ℕ) (e : Run (Skipping Machine)) → Ends e.end → (a : RanOnAll)
    → take a.all.ran.answers a.all.answers ≡ front → a.all.ran.answers ≡ length front → a.skipped ≡ c → take (2 * a.skipped) a.skips ≡ list
    → ran_on_of (shifted n (behind_run front (projected_run (behind_list list c) (projected_run (later_on n) e)))) ≡ continued_on n a (ran_on_of e)
went-on-on n front list c e k a x y z w =
    λ i. record {
      all = (went_on n front (projected_run (λ (x : Skipping Machine). x.machine) e) k ∙ (λ t. continued n (sym x t) (sym y t) (ran_of (projected_run (λ (x : Skipping Machine). x.machine) e)))) i;
      skipped = sym z i + e.standing.machine.listed;
      skips = sym w i ++ later n e.standing.machine.listed e.standing.machine.skips;
    }

module _ (p : Panel) (r : Registers) (mem rom log answers skips : List ℕ) (n m : ℕ) (v : (valid_panel p && valid_registers r) ≡ true) (l : lent_lengths mem rom ≡ true) (e : length log % 2 ≡ 0) where
  abbrev steps : Skipping Machine → Pair → Step (Skipping Machine)
  steps = skip_step true (step_of p rom)

  abbrev first_run : Run (Skipping Machine)
  first_run = run_from steps 0 (take n (pairs_of log)) (begun_on r mem answers skips)

  abbrev first : RanOnAll
  first = ran_on_of first_run

  abbrev left : Standing (Skipping Machine)
  left = begun_on first.all.ran.registers first.all.memory (drop first.all.ran.answers first.all.answers) (drop (2 * first.skipped) first.skips)

  long : length mem ≡ 65536
  long = eqb-true (length mem) 65536 (both_left _ (eqb (length rom) 1024) l)

  on-kept : (qs : List Pair) (s : Standing (Skipping Machine)) → Sounds s.machine.machine → s.machine.listed ≡ 0 → s.given ≡ 0 → Kept (SoundOn (length s.machine.skips)) (run_from steps 0 qs s)
  on-kept qs s k z g =
      run-kept steps (SoundOn (length s.machine.skips)) (skip-sound p rom true (length s.machine.skips)) (skip-proper p rom true) qs 0 s
      (record { sound = k; long = refl; fits = omega (arith, z) }) (omega (arith, g))

  kept : Kept (SoundOn (length skips)) first_run
  kept = on-kept (take n (pairs_of log)) (begun_on r mem answers skips) (sounds r mem (both_right (valid_panel p) _ v) long) refl refl

  abbrev front : List ℕ
  front = take first.all.ran.answers first.all.answers

  abbrev list : List ℕ
  list = take (2 * first.skipped) first.skips

  front_long : length front ≡ first.all.ran.answers
  front_long = rw length-take (omega (arith, kept.within))

  list-long : length list ≡ 2 * first.skipped
  list-long = rw length-take (omega (arith, kept.sound.fits))

  -- the first run's standing is what is left, behind the answers it gave and the pairs it listed
  stands : first_run.taken ≡ n → first_run.standing ≡ behind front (projected (behind_list list first.skipped) (projected (later_on n) left))
  unfolding later
  stands t =
      let h = run-place (step_of p rom) true (take n (pairs_of log)) 0 (begun_on r mem answers skips) in
      λ i. record {
        machine = record {
          machine = first_run.standing.machine.machine;
          skips = sym (take-append-drop (2 * first.skipped) first.skips) i;
          listed = (let f : first.skipped ≡ first.skipped + 0 = omega arith in f) i;
          place = (let f : first_run.standing.machine.place ≡ n + 0 = omega (arith, h, t) in f) i;
        };
        answers = sym (take-append-drop first.all.ran.answers first.all.answers) i;
        given = (let f : first.all.ran.answers ≡ length front + 0 = omega (arith, front_long) in f) i;
      }

  second : second_run_on p rom log n m first ≡ ran_on_of (run_from steps 0 (take m (pairs_of (drop (2 * n) log))) left)
  second =
      inside_on p first.all.ran.registers first.all.memory rom (drop (2 * n) log) m (drop first.all.ran.answers first.all.answers) (drop (2 * first.skipped) first.skips)
      (both (both_left (valid_panel p) (valid_registers r) v) (sounds-valid kept.sound.sound))
      (both (eq-eqb (length first.all.memory) 65536 kept.sound.sound.memory) (both_right (eqb (length mem) 65536) _ l))
      (rw length-drop (omega arith))

  joined : end_number first_run.end ≡ 0 → first_run.taken ≡ n
      → ran_on_of (run_from steps 0 (take (n + m) (pairs_of log)) (begun_on r mem answers skips))
      ≡ continued_on n first (ran_on_of (run_from steps 0 (take m (pairs_of (drop (2 * n) log))) left))
  joined z t =
      let rest = take m (drop n (pairs_of log)) in
      let x = run_from steps 0 rest left in
      ap (λ (qs : List Pair). ran_on_of (run_from steps 0 qs (begun_on r mem answers skips))) (take-add n m (pairs_of log))
      ∙ ap ran_on_of (run-append steps (take n (pairs_of log)) rest 0 first_run.taken (begun_on r mem answers skips) first_run.standing (whole-by-number first_run kept.ends z))
      ∙ (λ i. ran_on_of (run_from steps ((let f : first_run.taken ≡ n + 0 = omega (arith, t) in f) i) rest (stands t i)))
      ∙ ap ran_on_of (run-shift steps n 0 rest (behind front (projected (behind_list list first.skipped) (projected (later_on n) left))))
      ∙ ap (λ (y : Run (Skipping Machine)). ran_on_of (shifted n y)) (run-behind steps front 0 rest (projected (behind_list list first.skipped) (projected (later_on n) left)))
      ∙ ap (λ (y : Run (Skipping Machine)). ran_on_of (shifted n (behind_run front y))) (skip-behind (step_of p rom) list first.skipped list-long 0 rest (projected (later_on n) left))
      ∙ ap (λ (y : Run (Skipping Machine)). ran_on_of (shifted n (behind_run front (projected_run (behind_list list first.skipped) y)))) (skip-shift (step_of p rom) n 0 rest left)
      ∙ went-on-on n front list first.skipped x (on-kept rest left kept.sound.sound refl refl).ends first refl (sym front_long) refl refl
      ∙ ap (λ (qs : List Pair). continued_on n first (ran_on_of (run_from steps 0 (take m qs) left))) (pairs-drop n log)

-- the second run behind the first
abbrev gone_on : Panel → List ℕ → List ℕ → ℕ → ℕ → RanOnAll → RanOnAll
gone_on p rom log n m x = continued_on n x (second_run_on p rom log n m x)

pub split-on : SplitOn
split-on p r mem rom log answers skips n m a h z t =
    let d = door-on p r mem rom log n answers skips (ap (λ (x : RanOnAll). x.all.ran.number) (sym h) ∙ z) in
    let f = h ∙ inside_on p r mem rom log n answers skips d.0 d.1 d.2 in
    inside_on p r mem rom log (n + m) answers skips d.0 d.1 d.2
    ∙ joined p r mem rom log answers skips n m d.0 d.1 d.2 (sym (ap (λ (x : RanOnAll). x.all.ran.number) f) ∙ z) (sym (ap (λ (x : RanOnAll). x.all.ran.taken) f) ∙ t)
    ∙ ap (continued_on n (first p r mem rom log answers skips n m d.0 d.1 d.2)) (sym (second p r mem rom log answers skips n m d.0 d.1 d.2))
    ∙ ap (gone_on p rom log n m) (sym f)

pub agree : Agree
agree p r mem rom log limit answers skips z =
    let d = door p r mem rom log limit answers z in
    let f = inside p r mem rom log limit answers d.0 d.1 d.2 in
    let long : length mem ≡ 65536 = eqb-true (length mem) 65536 (both_left _ (eqb (length rom) 1024) d.1) in
    let qs = take limit (pairs_of log) in
    let e = run_from (step_of p rom) 0 qs (standing r mem answers 0) in
    let k = running-kept p rom qs 0 (standing r mem answers 0) (sounds r mem (both_right (valid_panel p) _ d.0) long) (omega arith) in
    let w = whole-by-number e k.ends (sym (ap (λ (x : RanAll). x.ran.number) f) ∙ z) in
    inside_on p r mem rom log limit answers skips d.0 d.1 d.2
    ∙ ap ran_on_of (skip-agrees (step_of p rom) true qs 0 e.taken (begun_on r mem answers skips) e.standing w)
    ∙ (λ i. record { all = sym (f ∙ ap ran_of w) i; skipped = 0; skips = skips })
