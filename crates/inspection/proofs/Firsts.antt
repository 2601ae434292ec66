-- What an inspection names is the first: pair by pair, beside the run over the pairs before.
use mathlib.Core.Path.{◌≡◌, refl, ap, sym, subst, ◌∙◌}
use mathlib.Core.Bool.{Bool, true, false, cond, not, ◌&&◌, ◌||◌}
use mathlib.Core.List.{List, [], ◌∷◌, ◌++◌}
use Prim.Native.Nat.{ℕ, zero, suc, ◌+◌, ◌/◌, ◌%◌, ◌<◌, ◌≤◌}
use native.Mathlib.Decide.{ℕ_discrete}
use native.Mathlib.Omega.{arith}
use lib.Dec.{eqb}
use lib.ListN.{length, get_or, set, take, drop, length-set, take-append-drop}
use lib.Seq.{take_all, take-suc, get_or-drop, get_or-take, get_or-set_same, get_or-set_other}
use borrow.Author.Tests.{lt-ltb, eqb-true, eqb-false}
use Rattle.state.specs.State.{valid_panel, valid_registers}
use Rattle.state.specs.declared.registers.Auto.{Auto}
use Rattle.display.specs.Frame.{lent_lengths}
use Rattle.effects.specs.Machine.{Machine, machine}
use Rattle.controller.specs.Access.{Pair, Step, done, answered, refused, step_of}
use Rattle.controller.specs.Run.{pairs_of, Standing, went, halted, turn_of, End, whole, short, Run, after_turn, run_from, RanAll, ran_of, ran_none, stopping_of}
use Rattle.controller.proofs.Blocks.{pair_at, pair-next}
use Rattle.controller.proofs.Runs.{pairs-length}
use Rattle.controller.proofs.Splits.{ended, run-append}
use Rattle.inspection.specs.Types.{Panel, Registers, Named, At, Nothing, Looked, Inspected}
use Rattle.inspection.specs.Look.{ready_for, needs_asking, first_named, look_answered, unseen, Watched, look_at, watch_by, watch_step}
use Rattle.inspection.specs.Inspected.{inspected_all, unnamed, is_nothing, named, inspected_by, inspected_of, begun_watch, inspect_of}
use Rattle.inspection.specs.Claims.{own_answers}
use Rattle.inspection.specs.First.{FirstOf, access_at, ready_at, Preceded, Unasked, Differs, NamesFirst}
use Rattle.inspection.proofs.Owns.{over, along-log}

both_ways : {b : Bool} → b ≡ true → b ≡ false → ⊥
both_ways e f =
    let z : ◌≡◌ {A = ℕ} 1 0 = ap (λ (c : Bool). cond c 1 0) (sym e ∙ f) in
    let y : ⊥ = omega arith in y

-- one more, by a test
first_on : (bad : ℕ → Type 0) (n m : ℕ) (x : Named) (here : Bool) → m ≡ n + 1 → (here ≡ true → bad n) → (here ≡ false → bad n → ⊥) → FirstOf bad n x
    → FirstOf bad m (first_named x here n)
first_on bad n m (At k) here e y f h = (omega (arith, h.0), h.1, h.2)
first_on bad n m Nothing true e y f h = (omega arith, y refl, h)
first_on bad n m Nothing false e y f h = λ i l b. go i l b (ℕ_discrete i n)
  where
    go : (i : ℕ) → i < m → bad i → Dec (i ≡ n) → ⊥
    go i l b (yes q) = f refl (subst bad q b)
    go i l b (no q) = h i (omega arith) b

-- where the same holds below n
first-as : (bad ill : ℕ → Type 0) (n : ℕ) (x : Named) → ((i : ℕ) → i < n → bad i → ill i) → ((i : ℕ) → i < n → ill i → bad i) → FirstOf bad n x → FirstOf ill n x
first-as bad ill n (At k) f g h = (h.0, f k h.0 h.1, λ i l b. h.2 i l (g i (omega (arith, h.0)) b))
first-as bad ill n Nothing f g h = λ i l b. h i l (g i l b)

module _ {access ready : ℕ → Bool} where
  goes_on : {k : ℕ} → access k ≡ false → Preceded access ready k → Preceded access ready (suc k)
  goes_on {k} e x =
      record {
        at = x.at;
        earlier = omega (arith, x.earlier);
        was = x.was;
        since = λ i l m. go i l m (ℕ_discrete i k);
      }
    where
      go : (i : ℕ) → x.at < i → i < suc k → Dec (i ≡ k) → access i ≡ false
      go i l m (yes q) = ap access q ∙ e
      go i l m (no q) = x.since i l (omega arith)

  begins : {k : ℕ} → ready k ≡ true → Preceded access ready (suc k)
  begins {k} e = record { at = k; earlier = omega arith; was = e; since = λ i l m. absurd (let y : ⊥ = omega arith in y) }

  either : {k : ℕ} → Preceded access ready (suc k) → (ready k ≡ true → ⊥) → (access k ≡ false → Preceded access ready k → ⊥) → ⊥
  either {k} x f g = go (ℕ_discrete x.at k)
    where
      go : Dec (x.at ≡ k) → ⊥
      go (yes q) = f (ap ready (sym q) ∙ x.was)
      go (no q) =
          let l : x.at < k = omega (arith, x.earlier) in
          g (x.since k l (omega arith)) (record { at = x.at; earlier = l; was = x.was; since = λ i m n. x.since i m (omega arith) })

  -- the flag behind a pair
  flag-on : {k : ℕ} (a g asked : Bool) → access k ≡ a → ready k ≡ g → (g ≡ true → a ≡ false)
      → (asked ≡ true → Preceded access ready k) → (asked ≡ false → Preceded access ready k → ⊥)
      → ((not a && (asked || g)) ≡ true → Preceded access ready (suc k)) × ((not a && (asked || g)) ≡ false → Preceded access ready (suc k) → ⊥)
  flag-on true g asked e f h y n = (
    λ q. absurd (both_ways q refl),
    λ q x. either x (λ w. both_ways refl (h (sym f ∙ w))) (λ w z. both_ways e w),
  )
  flag-on false g true e f h y n = (λ q. goes_on e (y refl), λ q x. both_ways refl q)
  flag-on false true false e f h y n = (λ q. begins f, λ q x. both_ways refl q)
  flag-on false false false e f h y n = (λ q. absurd (both_ways q refl), λ q x. either x (λ w. both_ways w f) (λ w z. n refl z))

  -- the access named, or not
  unasked-here : {k : ℕ} (a asked : Bool) → access k ≡ a → (asked ≡ false → Preceded access ready k → ⊥) → (a && not asked) ≡ true → Unasked access ready k
  unasked-here true false e n q = (e, n refl)
  unasked-here true true e n q = absurd (both_ways q refl)
  unasked-here false asked e n q = absurd (both_ways q refl)

  asked_here : {k : ℕ} (a asked : Bool) → access k ≡ a → (asked ≡ true → Preceded access ready k) → (a && not asked) ≡ false → Unasked access ready k → ⊥
  asked_here true false e y q x = both_ways refl q
  asked_here true true e y q x = x.1 (y refl)
  asked_here false asked e y q x = both_ways x.0 e

-- a status read is no such access
ready-needs-none : (a : Auto) (kind : ℕ) (t : Bool) → (eqb kind 3 && t) ≡ true → needs_asking a kind ≡ false
ready-needs-none a kind t q = go (eqb kind 3) refl q
  where
    go : (z : Bool) → eqb kind 3 ≡ z → (z && t) ≡ true → needs_asking a kind ≡ false
    go true e q = subst (λ (n : ℕ). needs_asking a n ≡ false) (sym (eqb-true kind 3 e)) refl
    go false e q = absurd (both_ways q refl)

-- behind k pairs: the run e, the watched run f over it, and what was seen
pub record Upto (recorded : List ℕ) (access ready : ℕ → Bool) (room : ℕ) (e : Run Machine) (f : Run Watched) (k : ℕ) : Type 0 where
  pub standing : Standing Machine
  pub seen : Looked
  pub place : ℕ
  pub own : e ≡ ended standing k
  pub watched : f ≡ ended (over standing seen place) k
  pub here : place ≡ k
  pub fewer : standing.given ≤ k
  pub long : length standing.answers ≡ room
  pub flagged : seen.asked ≡ true → Preceded access ready k
  pub unflagged : seen.asked ≡ false → Preceded access ready k → ⊥
  pub unasked : FirstOf (Unasked access ready) k seen.unasked
  pub wrong : FirstOf (Differs recorded standing.answers) standing.given seen.wrong

abbrev end_whole : End → ℕ
end_whole whole = 0
end_whole (short n) = 1

module _ (p : Panel) (r : Registers) (mem rom log recorded answers : List ℕ) (l : length log / 2 ≤ length answers) where
  abbrev begun_own : Standing Machine
  begun_own = record { machine = machine r mem; answers = answers; given = 0 }

  abbrev own_to : ℕ → Run Machine
  own_to k = run_from (step_of p rom) 0 (take k (pairs_of log)) begun_own

  abbrev watch_to : ℕ → Run Watched
  watch_to k = run_from (watch_step p rom recorded) 0 (take k (pairs_of log)) (begun_watch r mem)

  abbrev access : ℕ → Bool
  access k = access_at log k (ran_of (own_to k))

  abbrev ready : ℕ → Bool
  ready k = ready_at log recorded k (ran_of (own_to k))

  abbrev To : ℕ → Type 0
  To k = Upto recorded access ready (length answers) (own_to k) (watch_to k) k

  none : To 0
  unfolding run_from
  none =
      record {
        standing = begun_own;
        seen = unseen;
        place = 0;
        own = refl;
        watched = refl;
        here = refl;
        fewer = omega arith;
        long = refl;
        flagged = λ q. absurd (both_ways q refl);
        unflagged = λ q x. let y : ⊥ = omega (arith, x.earlier) in y;
        unasked = λ i m b. let y : ⊥ = omega arith in y;
        wrong = λ i m b. let y : ⊥ = omega arith in y;
      }

  here-is : (k : ℕ) → k < length log / 2 → get_or (pairs_of log) k (pair_at log k) ≡ pair_at log k
  here-is k h =
      ap (λ (n : ℕ). get_or (pairs_of log) n (pair_at log k)) (let e : k ≡ k + 0 = omega arith in e)
      ∙ sym (get_or-drop k (pairs_of log) 0 (pair_at log k))
      ∙ ap (λ (qs : List Pair). get_or qs 0 (pair_at log k)) (pair-next log k (omega arith))

  take_on : (k : ℕ) → k < length log / 2 → take (suc k) (pairs_of log) ≡ take k (pairs_of log) ++ (pair_at log k ∷ [])
  take_on k h =
      take-suc (pairs_of log) k (pair_at log k) (omega (arith, pairs-length log))
      ∙ ap (λ (q : Pair). take k (pairs_of log) ++ (q ∷ [])) (here-is k h)

  all-is : take (length log / 2) (pairs_of log) ≡ pairs_of log
  all-is = take_all (length log / 2) (pairs_of log) (omega (arith, pairs-length log))

  module _ (k : ℕ) (h : k < length log / 2) (x : To k) where
    abbrev s : Standing Machine
    s = x.standing

    abbrev q : Pair
    q = pair_at log k

    abbrev w : Standing Watched
    w = over s x.seen x.place

    own_on : (o : Step Machine) → step_of p rom s.machine q ≡ o
        → own_to (suc k) ≡ after_turn (turn_of s o) (λ t. ended t (suc k)) (λ n. record { standing = s; taken = k; end = short n })
    unfolding run_from
    own_on o e =
        ap (λ (qs : List Pair). run_from (step_of p rom) 0 qs begun_own) (take_on k h)
        ∙ run-append (step_of p rom) (take k (pairs_of log)) (q ∷ []) 0 k begun_own s x.own
        ∙ ap (λ (o : Step Machine). after_turn (turn_of s o) (λ t. ended t (suc k)) (λ n. record { standing = s; taken = k; end = short n })) e

    watch-on : (o : Step Machine) → step_of p rom s.machine q ≡ o
        → watch_to (suc k) ≡ after_turn (turn_of w (watch_by recorded w.machine q o)) (λ t. ended t (suc k)) (λ n. record { standing = w; taken = k; end = short n })
    unfolding run_from
    watch-on o e =
        ap (λ (qs : List Pair). run_from (watch_step p rom recorded) 0 qs (begun_watch r mem)) (take_on k h)
        ∙ run-append (watch_step p rom recorded) (take k (pairs_of log)) (q ∷ []) 0 k (begun_watch r mem) w x.watched
        ∙ ap (λ (o : Step Machine). after_turn (turn_of w (watch_by recorded w.machine q o)) (λ t. ended t (suc k)) (λ n. record { standing = w; taken = k; end = short n })) e

    -- a refused pair ends the run there
    not-refused : (n : ℕ) → step_of p rom s.machine q ≡ refused n → (own_to (length log / 2)).end ≡ whole → ⊥
    unfolding run_from
    not-refused n e f =
        let split : pairs_of log ≡ take k (pairs_of log) ++ (q ∷ drop (suc k) (pairs_of log)) =
        sym (take-append-drop k (pairs_of log)) ∙ ap (λ (qs : List Pair). take k (pairs_of log) ++ qs) (pair-next log k (omega arith)) in
        let goes : own_to (length log / 2) ≡ run_from (step_of p rom) k (q ∷ drop (suc k) (pairs_of log)) s =
        ap (λ (qs : List Pair). run_from (step_of p rom) 0 qs begun_own) (all-is ∙ split)
        ∙ run-append (step_of p rom) (take k (pairs_of log)) (q ∷ drop (suc k) (pairs_of log)) 0 k begun_own s x.own in
        let stops : own_to (length log / 2) ≡ record { standing = s; taken = k; end = short n } =
        goes
        ∙ ap (λ (o : Step Machine). after_turn (turn_of s o) (λ t. run_from (step_of p rom) (suc k) (drop (suc k) (pairs_of log)) t) (λ n. record { standing = s; taken = k; end = short n })) e in
        let z : ◌≡◌ {A = ℕ} 1 0 = ap end_whole (sym (ap (λ (e : Run Machine). e.end) stops) ∙ f) in
        let y : ⊥ = omega arith in
        y

    abbrev a : Bool
    a = needs_asking s.machine.registers.bus.auto q.kind

    abbrev g : Bool
    g = eqb q.kind 3 && ready_for s.machine.registers.bus.auto (get_or recorded s.given 0)

    is-access : access k ≡ a
    is-access = ap (λ (e : Run Machine). access_at log k (ran_of e)) x.own

    is-ready : ready k ≡ g
    is-ready = ap (λ (e : Run Machine). ready_at log recorded k (ran_of e)) x.own

    flags : ((not a && (x.seen.asked || g)) ≡ true → Preceded access ready (suc k)) × ((not a && (x.seen.asked || g)) ≡ false → Preceded access ready (suc k) → ⊥)
    flags =
        flag-on a g x.seen.asked is-access is-ready
        (λ e. ready-needs-none s.machine.registers.bus.auto q.kind (ready_for s.machine.registers.bus.auto (get_or recorded s.given 0)) e)
        x.flagged x.unflagged

    named-on : FirstOf (Unasked access ready) (suc k) (first_named x.seen.unasked (a && not x.seen.asked) x.place)
    named-on =
        subst (λ (n : ℕ). FirstOf (Unasked access ready) (suc k) (first_named x.seen.unasked (a && not x.seen.asked) n)) (sym x.here)
        (first_on (Unasked access ready) k (suc k) x.seen.unasked (a && not x.seen.asked) (omega arith)
        (unasked-here a x.seen.asked is-access x.unflagged)
        (asked_here a x.seen.asked is-access x.flagged)
        x.unasked)

    on-done : (m : Machine) → step_of p rom s.machine q ≡ done m → To (suc k)
    on-done m e =
        record {
          standing = record { machine = m; answers = s.answers; given = s.given };
          seen = look_at recorded w.machine q;
          place = x.place + 1;
          own = own_on (done m) e;
          watched = watch-on (done m) e;
          here = omega (arith, x.here);
          fewer = omega (arith, x.fewer);
          long = x.long;
          flagged = flags.0;
          unflagged = flags.1;
          unasked = named-on;
          wrong = x.wrong;
        }

    on-answered : (m : Machine) (b : ℕ) → step_of p rom s.machine q ≡ answered m b → To (suc k)
    on-answered m b e =
        let room : s.given < length s.answers = omega (arith, x.fewer, x.long) in
        record {
          standing = record { machine = m; answers = set s.answers s.given b; given = s.given + 1 };
          seen = look_answered (get_or recorded s.given 0) b s.given (look_at recorded w.machine q);
          place = x.place + 1;
          own =
              own_on (answered m b) e
              ∙ ap (λ (z : Bool). after_turn (cond z (went (record { machine = m; answers = set s.answers s.given b; given = s.given + 1 })) (halted 13)) (λ t. ended t (suc k)) (λ n. record { standing = s; taken = k; end = short n }))
              (lt-ltb s.given (length s.answers) room);
          watched = watch-on (answered m b) e;
          here = omega (arith, x.here);
          fewer = omega (arith, x.fewer);
          long = length-set s.answers s.given b ∙ x.long;
          flagged = flags.0;
          unflagged = flags.1;
          unasked = named-on;
          wrong =
              first_on (Differs recorded (set s.answers s.given b)) s.given (s.given + 1) x.seen.wrong (not (eqb (get_or recorded s.given 0) b)) refl
              (λ z d. differs z (d ∙ get_or-set_same s.answers s.given b 0 room))
              (λ z d. d (agrees z ∙ sym (get_or-set_same s.answers s.given b 0 room)))
              (first-as (Differs recorded s.answers) (Differs recorded (set s.answers s.given b)) s.given x.seen.wrong
              (λ i n d z. d (z ∙ get_or-set_other s.answers s.given i b 0 (λ y. omega arith)))
              (λ i n d z. d (z ∙ sym (get_or-set_other s.answers s.given i b 0 (λ y. omega arith))))
              x.wrong);
        }
      where
        differs : not (eqb (get_or recorded s.given 0) b) ≡ true → get_or recorded s.given 0 ≡ b → ⊥
        differs z d = go (eqb (get_or recorded s.given 0) b) refl z
          where
            go : (t : Bool) → eqb (get_or recorded s.given 0) b ≡ t → not t ≡ true → ⊥
            go true f z = both_ways z refl
            go false f z = eqb-false (get_or recorded s.given 0) b f d

        agrees : not (eqb (get_or recorded s.given 0) b) ≡ false → get_or recorded s.given 0 ≡ b
        agrees z = go (eqb (get_or recorded s.given 0) b) refl z
          where
            go : (t : Bool) → eqb (get_or recorded s.given 0) b ≡ t → not t ≡ false → get_or recorded s.given 0 ≡ b
            go true f z = eqb-true (get_or recorded s.given 0) b f
            go false f z = absurd (both_ways refl z)

    on : (own_to (length log / 2)).end ≡ whole → To (suc k)
    on f = go (step_of p rom s.machine q) refl
      where
        go : (o : Step Machine) → step_of p rom s.machine q ≡ o → To (suc k)
        go (done m) e = on-done m e
        go (answered m b) e = on-answered m b e
        go (refused n) e = absurd (not-refused n e f)

  upto : (own_to (length log / 2)).end ≡ whole → (k : ℕ) → k ≤ length log / 2 → To k
  upto f zero h = none
  upto f (suc k) h = on k (omega arith) (upto f k (omega arith)) f

  -- what is claimed, of any reply and of the runs' own answers
  abbrev Firsts : (ℕ → RanAll) → List ℕ → Inspected → Type 0
  Firsts before own i =
      i.number ≡ 0
      → FirstOf (Unasked (λ k. access_at log k (before k)) (λ k. ready_at log recorded k (before k))) (length log / 2) i.unasked
      × FirstOf (Differs recorded own) (length recorded) i.wrong
      × (i.passes ≡ is_nothing i.unasked && is_nothing i.wrong)

  names-whole : (x : To (length log / 2)) (t : Bool) → eqb (length recorded) x.standing.given ≡ t
      → Firsts (λ k. ran_of (own_to k)) (take x.standing.given x.standing.answers)
      (cond t (named x.standing.machine.registers x.seen) (unnamed 14 0 x.standing.machine.registers))
  names-whole x true e z = (
    x.unasked,
    subst (λ (n : ℕ). FirstOf (Differs recorded (take x.standing.given x.standing.answers)) n x.seen.wrong) (sym (eqb-true (length recorded) x.standing.given e))
        (first-as (Differs recorded x.standing.answers) (Differs recorded (take x.standing.given x.standing.answers)) x.standing.given x.seen.wrong
        (λ i n d z. d (z ∙ get_or-take x.standing.given x.standing.answers i 0 n))
        (λ i n d z. d (z ∙ sym (get_or-take x.standing.given x.standing.answers i 0 n)))
        x.wrong),
    refl,
  )
  names-whole x false e z = absurd (let y : ⊥ = omega arith in y)

  names-log : Firsts (λ k. ran_of (own_to k)) (own_answers (ran_of (own_to (length log / 2)))) (inspected_of recorded (run_from (watch_step p rom recorded) 0 (pairs_of log) (begun_watch r mem))).inspected
  names-log = go (own_to (length log / 2)).end refl
    where
      go : (z : End) → (own_to (length log / 2)).end ≡ z
          → Firsts (λ k. ran_of (own_to k)) (own_answers (ran_of (own_to (length log / 2)))) (inspected_of recorded (run_from (watch_step p rom recorded) 0 (pairs_of log) (begun_watch r mem))).inspected
      go whole f =
          let x : To (length log / 2) = upto f (length log / 2) (omega arith) in
          let all : run_from (watch_step p rom recorded) 0 (pairs_of log) (begun_watch r mem) ≡ ended (over x.standing x.seen x.place) (length log / 2) =
          sym (ap (λ (qs : List Pair). run_from (watch_step p rom recorded) 0 qs (begun_watch r mem)) all-is) ∙ x.watched in
          subst (λ (f : Run Watched). Firsts (λ k. ran_of (own_to k)) (own_answers (ran_of (own_to (length log / 2)))) (inspected_of recorded f).inspected) (sym all)
          (subst (λ (e : Run Machine). Firsts (λ k. ran_of (own_to k)) (own_answers (ran_of e)) (inspected_of recorded (ended (over x.standing x.seen x.place) (length log / 2))).inspected) (sym x.own)
          (names-whole x (eqb (length recorded) x.standing.given) refl))
      go (short n) f =
          let x = along-log p r mem rom log answers l recorded in
          let few : 3 ≤ n = x.refusal n f in
          let ends : (run_from (watch_step p rom recorded) 0 (pairs_of log) (begun_watch r mem)).end ≡ short n = x.end ∙ f in
          λ z. absurd (not-zero n few (ap (λ (t : End). (inspected_by recorded (run_from (watch_step p rom recorded) 0 (pairs_of log) (begun_watch r mem)).standing.machine t (run_from (watch_step p rom recorded) 0 (pairs_of log) (begun_watch r mem)).taken).number) (sym ends) ∙ z))
        where
          not-zero : (n : ℕ) → 3 ≤ n → n ≡ 0 → ⊥
          not-zero n a b = let y : ⊥ = omega arith in y

  names-door : (v w e : Bool)
      → Firsts (λ k. cond v (cond w (cond e (ran_of (own_to k)) (ran_none 8 (length log / 2) r mem answers)) (ran_none 2 0 r mem answers)) (ran_none 1 0 r mem answers))
      (own_answers (cond v (cond w (cond e (ran_of (own_to (length log / 2))) (ran_none 8 (length log / 2) r mem answers)) (ran_none 2 0 r mem answers)) (ran_none 1 0 r mem answers)))
      (cond v
      (cond w
      (cond e (inspected_of recorded (run_from (watch_step p rom recorded) 0 (pairs_of log) (begun_watch r mem))) (inspected_all (unnamed 8 (length log / 2) r) mem))
      (inspected_all (unnamed 2 0 r) mem))
      (inspected_all (unnamed 1 0 r) mem)).inspected
  names-door true true true = names-log
  names-door true true false = λ z. absurd (let y : ⊥ = omega arith in y)
  names-door true false e = λ z. absurd (let y : ⊥ = omega arith in y)
  names-door false u e = λ z. absurd (let y : ⊥ = omega arith in y)

pub names-first : NamesFirst
unfolding inspect_of stopping_of
names-first p r mem rom log recorded answers l = names-door p r mem rom log recorded answers l (valid_panel p && valid_registers r) (lent_lengths mem rom) (eqb (length log % 2) 0)
