-- The theorem of the asking streams: each status read is answered ready, and the pair behind it does what it did.
use mathlib.Core.Path.{◌≡◌, refl, sym, ap, subst, ◌∙◌}
use mathlib.Core.Bool.{Bool, true, false, cond, not, ◌&&◌, ◌||◌}
use mathlib.Core.List.{List, [], ◌∷◌}
use Prim.Native.Nat.{ℕ, suc, ◌+◌, ◌*◌, ◌/◌, ◌%◌, ◌<◌, ◌≤◌}
use native.Mathlib.Omega.{arith}
use lib.ListN.{length, get_or, set, take, drop, length-set}
use lib.Seq.{sets, sets-eq, take_at, take_all, get_or-set_same, get_or-set_other}
use borrow.Author.Tests.{lt-ltb, le-ltb, eq-eqb}
use Rattle.ground.proofs.Tests.{both}
use Rattle.state.specs.declared.panel.Panel.{Panel}
use Rattle.state.specs.declared.registers.Registers.{Registers}
use Rattle.state.specs.State.{valid_panel, valid_registers}
use Rattle.display.specs.Frame.{lent_lengths}
use Rattle.effects.specs.Machine.{Machine, machine}
use Rattle.effects.specs.Effect.{status_of}
use Rattle.controller.specs.Access.{Pair, Step, done, answered, refused, step_of}
use Rattle.controller.specs.Run.{pairs_of, log_of, Standing, went, halted, turn_of, whole, short, Run, after_turn, run_from, RanAll, ran_of, ran_none, stopping_of}
use Rattle.controller.proofs.Splits.{ended, not-whole}
use Rattle.controller.proofs.Takes.{Takes}
use Rattle.controller.proofs.Logs.{log-length, log-pairs, run-takes}
use Rattle.book.specs.Operation.{Operation}
use Rattle.book.specs.Screen.{screen, screen_of}
use Rattle.writer.specs.Stream.{stream_of, count_of}
use Rattle.writer.specs.Written.{Wrote, wrote}
use Rattle.writer.proofs.Lengths.{stream-length}
use Rattle.asking.specs.Asking.{status_pair, asked_pairs, ask_screen, asking_of}
use Rattle.asking.proofs.Spreads.{asked-pairs-length}
use Rattle.inspection.specs.Named.{Named, Nothing, Looked}
use Rattle.inspection.specs.Look.{ready_for, needs_asking, first_named, look_answered, unseen, Watched, look_at, watch_by, watch_step}
use Rattle.inspection.specs.Inspected.{InspectedAll, inspected_all, unnamed, inspected_of, begun_watch, inspect_of}
use Rattle.inspection.specs.Claims.{own_run, own_answers}
use Rattle.inspection.proofs.Owns.{over, Along, along-log, own-length, own-answer, ready-own}
use Rattle.rehearsal.specs.Asks.{AskingPasses}
use Rattle.rehearsal.proofs.Openings.{Drawn, stream-draws}

-- pairs that are all taken, one by one
data Chain (step : Machine → Pair → Step Machine) : List Pair → Machine → Machine → Type 0 where
  none : {s : Machine} → Chain step [] s s
  one : {q : Pair} {qs : List Pair} {s u t : Machine} → step s q ≡ done u → Chain step qs u t → Chain step (q ∷ qs) s t

abbrev standing_at : Machine → List ℕ → ℕ → Standing Machine
standing_at s answers given = record { machine = s; answers = answers; given = given }

module _ (step : Machine → Pair → Step Machine) where
  chain : (qs : List Pair) (k j : ℕ) (s t : Machine) → run_from step k qs (standing_at s [] 0) ≡ ended (standing_at t [] 0) j → Chain step qs s t
  unfolding run_from
  chain [] k j s t e = subst (λ (u : Machine). Chain step [] s u) (ap (λ (x : Run Machine). x.standing.machine) e) none
  chain (q ∷ qs) k j s t e = go (step s q) refl e (λ u f. chain qs (suc k) j u t f)
    where
      go : (o : Step Machine) → step s q ≡ o
          → after_turn (turn_of (standing_at s [] 0) o) (λ x. run_from step (suc k) qs x) (λ n. record { standing = standing_at s [] 0; taken = k; end = short n }) ≡ ended (standing_at t [] 0) j
          → ((u : Machine) → run_from step (suc k) qs (standing_at u [] 0) ≡ ended (standing_at t [] 0) j → Chain step qs u t)
          → Chain step (q ∷ qs) s t
      go (done u) h f on = one h (on u f)
      go (answered u b) h f on = not-whole step f
      go (refused n) h f on = not-whole step f

-- the asking run over such pairs, and the watched run over it
record AskedRuns (p : Panel) (rom recorded : List ℕ) (qs : List Pair) (u t : Machine) (k : ℕ) (answers : List ℕ) (given : ℕ) : Type 0 where
  pub after : List ℕ
  pub run : run_from (step_of p rom) k (asked_pairs qs) (standing_at u answers given) ≡ ended (standing_at t after (given + length qs)) (k + 2 * length qs)
  pub kept : (i : ℕ) → i < given → get_or after i 0 ≡ get_or answers i 0
  pub unasked : (seen : Looked) (place : ℕ) → seen.unasked ≡ Nothing → ((i : ℕ) → i < given + length qs → get_or recorded i 0 ≡ get_or after i 0)
      → (run_from (watch_step p rom recorded) k (asked_pairs qs) (over (standing_at u answers given) seen place)).standing.machine.looked.unasked ≡ Nothing

or-true : (a b : Bool) → b ≡ true → (a || b) ≡ true
or-true true b h = refl
or-true false b h = h

and-not : (a b : Bool) → b ≡ true → (a && not b) ≡ false
and-not true b h = ap not h
and-not false b h = refl

module _ (p : Panel) (rom recorded : List ℕ) where
  abbrev status : Machine → ℕ
  status u = status_of u.registers

  -- what is seen behind a status read, and behind the pair it is for
  abbrev read_status : Machine → List ℕ → ℕ → Looked → ℕ → Looked
  read_status u answers given seen place =
      look_answered (get_or recorded given 0) (status u) given (look_at recorded (over (standing_at u answers given) seen place).machine status_pair)

  abbrev read_both : Machine → List ℕ → ℕ → Looked → ℕ → Pair → Looked
  read_both u answers given seen place q =
      look_at recorded (over (standing_at u (set answers given (status u)) (given + 1)) (read_status u answers given seen place) (place + 1)).machine q

  module _ (q : Pair) (u v : Machine) (h : step_of p rom u q ≡ done v) (qs : List Pair) (k : ℕ) (answers : List ℕ) (given : ℕ) where
    run-two : given < length answers
        → run_from (step_of p rom) k (asked_pairs (q ∷ qs)) (standing_at u answers given)
        ≡ run_from (step_of p rom) (suc (suc k)) (asked_pairs qs) (standing_at v (set answers given (status u)) (given + 1))
    unfolding run_from asked_pairs
    run-two l =
        ap
        (λ (z : Bool). after_turn (cond z (went (standing_at u (set answers given (status u)) (given + 1))) (halted 13))
        (λ x. run_from (step_of p rom) (suc k) (q ∷ asked_pairs qs) x) (λ n. record { standing = standing_at u answers given; taken = k; end = short n }))
        (lt-ltb given (length answers) l)
        ∙ ap
        (λ (o : Step Machine). after_turn (turn_of (standing_at u (set answers given (status u)) (given + 1)) o)
        (λ x. run_from (step_of p rom) (suc (suc k)) (asked_pairs qs) x)
        (λ n. record { standing = standing_at u (set answers given (status u)) (given + 1); taken = suc k; end = short n }))
        h

    watch-two : (seen : Looked) (place : ℕ)
        → run_from (watch_step p rom recorded) k (asked_pairs (q ∷ qs)) (over (standing_at u answers given) seen place)
        ≡ run_from (watch_step p rom recorded) (suc (suc k)) (asked_pairs qs)
        (over (standing_at v (set answers given (status u)) (given + 1)) (read_both u answers given seen place q) (place + 1 + 1))
    unfolding run_from asked_pairs
    watch-two seen place =
        ap
        (λ (o : Step Machine). after_turn
        (turn_of (over (standing_at u (set answers given (status u)) (given + 1)) (read_status u answers given seen place) (place + 1))
        (watch_by recorded (over (standing_at u (set answers given (status u)) (given + 1)) (read_status u answers given seen place) (place + 1)).machine q o))
        (λ x. run_from (watch_step p rom recorded) (suc (suc k)) (asked_pairs qs) x)
        (λ n. record { standing = over (standing_at u (set answers given (status u)) (given + 1)) (read_status u answers given seen place) (place + 1); taken = suc k; end = short n }))
        h

    two-unasked : (seen : Looked) (place : ℕ) → seen.unasked ≡ Nothing → get_or recorded given 0 ≡ status u → (read_both u answers given seen place q).unasked ≡ Nothing
    two-unasked seen place w e =
        let ready : ready_for u.registers.bus.auto (get_or recorded given 0) ≡ true = ap (ready_for u.registers.bus.auto) e ∙ ready-own u.registers in
        let asked : (seen.asked || ready_for u.registers.bus.auto (get_or recorded given 0)) ≡ true = or-true seen.asked _ ready in
        λ t. first_named (ap (λ (x : Named). first_named x false place) w t)
        (and-not (needs_asking u.registers.bus.auto q.kind) (seen.asked || ready_for u.registers.bus.auto (get_or recorded given 0)) asked t) (place + 1)

  asked-runs : {qs : List Pair} {u t : Machine} → Chain (step_of p rom) qs u t → (k : ℕ) (answers : List ℕ) (given : ℕ) → given + length qs ≤ length answers
      → AskedRuns p rom recorded qs u t k answers given
  unfolding run_from asked_pairs
  asked-runs {u = u} none k answers given l =
      record {
        after = answers;
        run = λ i. ended (standing_at u answers ((let e : given ≡ given + 0 = omega arith in e) i)) ((let e : k ≡ k + 0 = omega arith in e) i);
        kept = λ i m. refl;
        unasked = λ seen place w h. w;
      }
  asked-runs {t = t} (one {q = q} {qs = qs} {s = u} {u = v} h c) k answers given l =
      let x = asked-runs c (suc (suc k)) (set answers given (status u)) (given + 1) (omega (arith, length-set answers given (status u))) in
      record {
        after = x.after;
        run = run-two q u v h qs k answers given (omega arith) ∙ x.run
            ∙ (λ i. ended (standing_at t x.after ((let e : given + 1 + length qs ≡ given + suc (length qs) = omega arith in e) i)) ((let e : suc (suc k) + 2 * length qs ≡ k + 2 * suc (length qs) = omega arith in e) i));
        kept = λ i m. x.kept i (omega arith) ∙ get_or-set_other answers given i (status u) 0 (λ e. omega arith);
        unasked = λ seen place w right.
            ap (λ (f : Run Watched). f.standing.machine.looked.unasked) (watch-two q u v h qs k answers given seen place)
            ∙ x.unasked (read_both u answers given seen place q) (place + 1 + 1)
            (two-unasked q u v h qs k answers given seen place w (right given (omega arith) ∙ x.kept given (omega arith) ∙ get_or-set_same answers given (status u) 0 (omega arith)))
            (λ i m. right i (omega arith));
      }

-- all taken, as many answers as reads, nothing named
passing : (recorded : List ℕ) (f : Run Watched) → f.end ≡ whole → length recorded ≡ f.standing.machine.given
    → f.standing.machine.looked.unasked ≡ Nothing → f.standing.machine.looked.wrong ≡ Nothing
    → ((inspected_of recorded f).inspected.number ≡ 0) × ((inspected_of recorded f).inspected.passes ≡ true)
    × ((inspected_of recorded f).inspected.registers ≡ f.standing.machine.machine.registers)
passing recorded f a g u w = rw (a, eq-eqb (length recorded) f.standing.machine.given g, u, w) (refl, refl, refl)

module _ (p : Panel) (v : valid_panel p ≡ true) (r : Registers) (mem rom : List ℕ) (valid : valid_registers r ≡ true) (size : length mem ≡ 65536)
    (characters : length rom ≡ 1024) (log : List ℕ) (even : length log % 2 ≡ 0) where
  lent : lent_lengths mem rom ≡ true
  lent = both (eq-eqb (length mem) 65536 size) (eq-eqb (length rom) 1024 characters)

  -- past their doors
  own-run : (answers : List ℕ) → own_run p r mem rom log answers ≡ ran_of (run_from (step_of p rom) 0 (take (length log / 2) (pairs_of log)) (standing_at (machine r mem) answers 0))
  unfolding stopping_of
  own-run answers =
      λ i. cond (v i && valid i)
      (cond (lent i)
      (cond (eq-eqb (length log % 2) 0 even i) (ran_of (run_from (step_of p rom) 0 (take (length log / 2) (pairs_of log)) (standing_at (machine r mem) answers 0))) (ran_none 8 (length log / 2) r mem answers))
      (ran_none 2 0 r mem answers))
      (ran_none 1 0 r mem answers)

  own-inspect : (recorded : List ℕ) → inspect_of p r mem rom log recorded ≡ inspected_of recorded (run_from (watch_step p rom recorded) 0 (pairs_of log) (begun_watch r mem))
  unfolding inspect_of
  own-inspect recorded =
      λ i. cond (v i && valid i)
      (cond (lent i)
      (cond (eq-eqb (length log % 2) 0 even i) (inspected_of recorded (run_from (watch_step p rom recorded) 0 (pairs_of log) (begun_watch r mem))) (inspected_all (unnamed 8 (length log / 2) r) mem))
      (inspected_all (unnamed 2 0 r) mem))
      (inspected_all (unnamed 1 0 r) mem)

-- the asking log of pairs that are all taken
module _ (p : Panel) (v : valid_panel p ≡ true) (r : Registers) (mem rom answers : List ℕ) (valid : valid_registers r ≡ true) (size : length mem ≡ 65536)
    (characters : length rom ≡ 1024) (qs : List Pair) (t : Machine) (x : Takes (step_of p rom) qs (machine r mem) t) (few : 2 * length qs ≤ length answers) where
  abbrev asking : List ℕ
  asking = log_of (asked_pairs qs)

  abbrev begins : Standing Machine
  begins = standing_at (machine r mem) answers 0

  abbrev ran : Run Machine
  ran = run_from (step_of p rom) 0 (take (length asking / 2) (pairs_of asking)) begins

  abbrev own : List ℕ
  own = own_answers (ran_of ran)

  abbrev watched : Run Watched
  watched = run_from (watch_step p rom own) 0 (pairs_of asking) (begun_watch r mem)

  asking-length : length asking ≡ 4 * length qs
  asking-length = log-length (asked_pairs qs) ∙ (let e : 2 * length (asked_pairs qs) ≡ 4 * length qs = omega (arith, asked-pairs-length qs) in e)

  all-pairs : take (length asking / 2) (pairs_of asking) ≡ asked_pairs qs
  all-pairs =
      ap (take (length asking / 2)) (log-pairs (asked_pairs qs)) ∙ take_all (length asking / 2) (asked_pairs qs) (omega (arith, asking-length, asked-pairs-length qs))

  runs : AskedRuns p rom own qs (machine r mem) t 0 answers 0
  runs = asked-runs p rom own (chain (step_of p rom) qs 0 (0 + length qs) (machine r mem) t (x.run 0 [] 0)) 0 answers 0 (omega arith)

  ran-is : ran ≡ ended (standing_at t runs.after (0 + length qs)) (0 + 2 * length qs)
  ran-is = ap (λ (ps : List Pair). run_from (step_of p rom) 0 ps begins) all-pairs ∙ runs.run

  room : length asking / 2 ≤ length answers
  room = omega (arith, asking-length)

  beside : Along own begins unseen ran watched
  beside = along-log p r mem rom asking answers room own

  given_is : ran.standing.given ≡ length qs
  given_is = ap (λ (e : Run Machine). e.standing.given) ran-is ∙ (let e : 0 + length qs ≡ length qs = omega arith in e)

  none-unasked : watched.standing.machine.looked.unasked ≡ Nothing
  none-unasked =
      ap (λ (ps : List Pair). (run_from (watch_step p rom own) 0 ps (begun_watch r mem)).standing.machine.looked.unasked) (log-pairs (asked_pairs qs))
      ∙ runs.unasked unseen 0 refl
      (λ i m. own-answer p r mem rom asking answers room i (omega (arith, given_is)) ∙ ap (λ (e : Run Machine). get_or e.standing.answers i 0) ran-is)

  log-passes : ((inspected_of own watched).inspected.number ≡ 0) × ((inspected_of own watched).inspected.passes ≡ true)
      × ((inspected_of own watched).inspected.registers ≡ t.registers)
      × ((inspected_of own watched).memory ≡ t.memory)
  log-passes =
      let y = passing own watched (beside.end ∙ ap (λ (e : Run Machine). e.end) ran-is) (own-length p r mem rom asking answers room ∙ sym beside.given) none-unasked
      (beside.right refl (λ i m. own-answer p r mem rom asking answers room i m)) in
      let m : watched.standing.machine.machine ≡ t = beside.machine ∙ ap (λ (e : Run Machine). e.standing.machine) ran-is in
      (y.0, y.1, y.2 ∙ ap (λ (s : Machine). s.registers) m, ap (λ (s : Machine). s.memory) m)

-- a valid panel, a well-formed screen and enough room: accepted
asking-fits : (p : Panel) (book : List ℕ) (number : ℕ) (room : List ℕ) → valid_panel p ≡ true → {os : List Operation} → screen_of p book number ≡ screen os
    → 4 * count_of p os ≤ length room → asking_of p book number room ≡ wrote 0 0 (2 * count_of p os) (sets room 0 (log_of (asked_pairs (stream_of p os))))
unfolding asking_of
asking-fits p book number room v {os} e l =
    ap (λ (t : Bool). cond t (ask_screen p room (screen_of p book number)) (wrote 1 0 0 room)) v
    ∙ ap (ask_screen p room) e
    ∙ ap (λ (t : Bool). cond t (wrote 12 (2 * count_of p os) 0 room) (wrote 0 0 (2 * count_of p os) (sets room 0 (log_of (asked_pairs (stream_of p os))))))
    (le-ltb (length room) (4 * count_of p os) l)

pub asking-passes : AskingPasses
asking-passes p book number os room r mem rom answers bytes v formed fits valid size characters few =
    let n : length (stream_of p os) ≡ count_of p os = stream-length p book number formed in
    let d : Drawn p v mem size rom r os = stream-draws p v mem size rom r book bytes number formed in
    let w = asking-fits p book number room v formed fits in
    let log : List ℕ = log_of (asked_pairs (stream_of p os)) in
    let long : length log ≡ 4 * count_of p os = omega (arith, log-length (asked_pairs (stream_of p os)), asked-pairs-length (stream_of p os)) in
    let e : take (4 * count_of p os) (asking_of p book number room).room ≡ log =
    ap (λ (o : Wrote). take (4 * count_of p os) o.room) w ∙ ap (take (4 * count_of p os)) (sets-eq log room 0 (omega arith))
    ∙ take_at log (drop (0 + length log) room) (4 * count_of p os) long in
    let even : length log % 2 ≡ 0 = omega (arith, long) in
    let y = log-passes p v r mem rom answers valid size characters (stream_of p os) _ d.run (omega (arith, n)) in
    let i = ap (λ (l : List ℕ). inspect_of p r mem rom l (own_answers (own_run p r mem rom l answers))) e
    ∙ ap (λ (o : RanAll). inspect_of p r mem rom log (own_answers o)) (own-run p v r mem rom valid size characters log even answers)
    ∙ own-inspect p v r mem rom valid size characters log even _ in
    let plain = run-takes p r mem rom (stream_of p os) (count_of p os) [] v valid (lent p v r mem rom valid size characters log even) (omega (arith, n)) d.run in (
      ap (λ (o : Wrote). o.written) w,
      ap (λ (o : InspectedAll). o.inspected.number) i ∙ y.0,
      ap (λ (o : InspectedAll). o.inspected.passes) i ∙ y.1,
      ap (λ (o : InspectedAll). o.inspected.registers) i ∙ y.2 ∙ sym (ap (λ (o : RanAll). o.ran.registers) plain),
      ap (λ (o : InspectedAll). o.memory) i ∙ y.3 ∙ sym (ap (λ (o : RanAll). o.memory) plain),
    )
