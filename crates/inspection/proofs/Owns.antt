-- An inspection beside the run over the same log: the same machine, pair by pair, and its own answers.
use mathlib.Core.Path.{◌≡◌, refl, ap, sym, subst, ◌∙◌}
use mathlib.Core.Bool.{Bool, true, false, cond, not, ◌&&◌}
use mathlib.Core.List.{List, [], ◌∷◌}
use Prim.Native.Nat.{ℕ, suc, ◌+◌, ◌/◌, ◌%◌, ◌<◌, ◌≤◌}
use native.Mathlib.Omega.{arith}
use lib.Dec.{eqb}
use lib.Bits.{bit_or}
use lib.ListN.{length, get_or, set, take, length-set}
use lib.Seq.{take_all, length-take-le, get_or-take, get_or-set_same, get_or-set_other}
use borrow.Author.Tests.{lt-ltb, eq-eqb, ne_eqb}
use Rattle.state.specs.State.{valid_panel, valid_registers}
use Rattle.state.specs.declared.registers.Auto.{Auto}
use Rattle.state.specs.declared.registers.Auto.TheVariants.{Off, Write, Read}
use Rattle.display.specs.Frame.{lent_lengths}
use Rattle.effects.specs.Machine.{Machine, machine}
use Rattle.effects.specs.Effect.{auto_bits, status_of}
use Rattle.controller.specs.Access.{Pair, Step, done, answered, refused, step_of}
use Rattle.controller.specs.Run.{pairs_of, Standing, went, halted, turn_of, End, whole, short, Run, after_turn, run_from, RanAll, ran_of, ran_none, stopping_of}
use Rattle.controller.proofs.Runs.{pairs-length}
use Rattle.controller.proofs.Turns.{step-number}
use Rattle.inspection.specs.Types.{Panel, Registers, Nothing, Looked, Inspected}
use Rattle.inspection.specs.Look.{ready_for, first_named, look_answered, unseen, Watched, look_at, watch_by, watch_step}
use Rattle.inspection.specs.Inspected.{InspectedAll, inspected_all, unnamed, inspected_of, begun_watch, inspect_of}
use Rattle.inspection.specs.Claims.{own_answers, Inspects, OwnRight}

-- the watched machine over a run's
abbrev pub over : Standing Machine → Looked → ℕ → Standing Watched
over s seen place =
    record { machine = record { machine = s.machine; looked = seen; place = place; given = s.given }; answers = []; given = 0 }

-- a run e from s, and the watched run f over it
pub record Along (recorded : List ℕ) (s : Standing Machine) (seen : Looked) (e : Run Machine) (f : Run Watched) : Type 0 where
  pub machine : f.standing.machine.machine ≡ e.standing.machine
  pub taken : f.taken ≡ e.taken
  pub end : f.end ≡ e.end
  pub given : f.standing.machine.given ≡ e.standing.given
  pub grows : s.given ≤ e.standing.given
  pub long : length e.standing.answers ≡ length s.answers
  pub fits : e.standing.given ≤ length e.standing.answers
  pub kept : (i : ℕ) → i < s.given → get_or e.standing.answers i 0 ≡ get_or s.answers i 0
  pub refusal : (n : ℕ) → e.end ≡ short n → 3 ≤ n
  pub right : seen.wrong ≡ Nothing → ((i : ℕ) → i < e.standing.given → get_or recorded i 0 ≡ get_or e.standing.answers i 0)
      → f.standing.machine.looked.wrong ≡ Nothing

abbrev end_of : End → ℕ
end_of whole = 0
end_of (short n) = suc n

module _ (p : Panel) (rom recorded : List ℕ) where
  along-whole : (k : ℕ) (s : Standing Machine) (seen : Looked) (place : ℕ) → s.given ≤ length s.answers
      → Along recorded s seen (record { standing = s; taken = k; end = whole }) (record { standing = over s seen place; taken = k; end = whole })
  along-whole k s seen place l =
      record {
        machine = refl;
        taken = refl;
        end = refl;
        given = refl;
        grows = omega arith;
        long = refl;
        fits = l;
        kept = λ i m. refl;
        refusal = λ n e. let x : ◌≡◌ {A = ℕ} 0 (suc n) = ap end_of e in absurd (let y : ⊥ = omega arith in y);
        right = λ w h. w;
      }

  along-short : (k n : ℕ) → 3 ≤ n → (s : Standing Machine) (seen : Looked) (place : ℕ) → s.given ≤ length s.answers
      → Along recorded s seen (record { standing = s; taken = k; end = short n }) (record { standing = over s seen place; taken = k; end = short n })
  along-short k n m s seen place l =
      record {
        machine = refl;
        taken = refl;
        end = refl;
        given = refl;
        grows = omega arith;
        long = refl;
        fits = l;
        kept = λ i m. refl;
        refusal = λ j e. let x : suc n ≡ suc j = ap end_of e in omega arith;
        right = λ w h. w;
      }

  -- a pair that answers nothing
  along-done : {s : Standing Machine} {seen : Looked} {next : Looked} {m : Machine} {e : Run Machine} {f : Run Watched} → next.wrong ≡ seen.wrong
      → Along recorded (record { machine = m; answers = s.answers; given = s.given }) next e f → Along recorded s seen e f
  along-done h x =
      record {
        machine = x.machine;
        taken = x.taken;
        end = x.end;
        given = x.given;
        grows = x.grows;
        long = x.long;
        fits = x.fits;
        kept = x.kept;
        refusal = x.refusal;
        right = λ w k. x.right (h ∙ w) k;
      }

  -- a read
  along-answered : (s : Standing Machine) (seen : Looked) (next : Looked) (m : Machine) (b : ℕ) {e : Run Machine} {f : Run Watched}
      → s.given < length s.answers → next.wrong ≡ first_named seen.wrong (not (eqb (get_or recorded s.given 0) b)) s.given
      → Along recorded (record { machine = m; answers = set s.answers s.given b; given = s.given + 1 }) next e f → Along recorded s seen e f
  along-answered s seen next m b {e} {f} l h x =
      record {
        machine = x.machine;
        taken = x.taken;
        end = x.end;
        given = x.given;
        grows = omega (arith, x.grows);
        long = x.long ∙ length-set s.answers s.given b;
        fits = x.fits;
        kept = λ i n. x.kept i (omega arith) ∙ get_or-set_other s.answers s.given i b 0 (λ q. omega arith);
        refusal = x.refusal;
        right = λ w k.
            let own : get_or recorded s.given 0 ≡ b = k s.given (omega (arith, x.grows)) ∙ x.kept s.given (omega arith) ∙ get_or-set_same s.answers s.given b 0 l in
            x.right (h ∙ (λ t. first_named (w t) (not (eq-eqb (get_or recorded s.given 0) b own t)) s.given)) k;
      }

  pub along : (qs : List Pair) (k : ℕ) (s : Standing Machine) (seen : Looked) (place : ℕ) → s.given + length qs ≤ length s.answers
      → Along recorded s seen (run_from (step_of p rom) k qs s) (run_from (watch_step p rom recorded) k qs (over s seen place))
  unfolding run_from
  along [] k s seen place l = along-whole k s seen place (omega arith)
  along (q ∷ qs) k s seen place l =
      go (step_of p rom s.machine q) (λ n e. (step-number p rom s.machine q.kind q.byte n e).0) (λ t next at m. along qs (suc k) t next at m)
    where
      go : (o : Step Machine) → ((n : ℕ) → o ≡ refused n → 3 ≤ n)
          → ((t : Standing Machine) (next : Looked) (at : ℕ) → t.given + length qs ≤ length t.answers
          → Along recorded t next (run_from (step_of p rom) (suc k) qs t) (run_from (watch_step p rom recorded) (suc k) qs (over t next at)))
          → Along recorded s seen
          (after_turn (turn_of s o) (λ t. run_from (step_of p rom) (suc k) qs t) (λ n. record { standing = s; taken = k; end = short n }))
          (after_turn (turn_of (over s seen place) (watch_by recorded (over s seen place).machine q o)) (λ t. run_from (watch_step p rom recorded) (suc k) qs t) (λ n. record { standing = over s seen place; taken = k; end = short n }))
      go (done m) few on =
          along-done {s = s} {seen = seen} {next = look_at recorded (over s seen place).machine q} {m = m} refl
          (on (record { machine = m; answers = s.answers; given = s.given }) (look_at recorded (over s seen place).machine q) (place + 1) (omega arith))
      go (answered m b) few on =
          let next : Looked = look_answered (get_or recorded s.given 0) b s.given (look_at recorded (over s seen place).machine q) in
          let t : Standing Machine = record { machine = m; answers = set s.answers s.given b; given = s.given + 1 } in
          let room : s.given < length s.answers = omega arith in
          subst
          (λ (z : Bool). Along recorded s seen
          (after_turn (cond z (went t) (halted 13)) (λ t. run_from (step_of p rom) (suc k) qs t) (λ n. record { standing = s; taken = k; end = short n }))
          (run_from (watch_step p rom recorded) (suc k) qs (over t next (place + 1))))
          (sym (lt-ltb s.given (length s.answers) room))
          (along-answered s seen next m b room refl (on t next (place + 1) (omega (arith, length-set s.answers s.given b))))
      go (refused n) few on = along-short k n (few n refl) s seen place (omega arith)

-- by an end, and the counts
module _ (recorded : List ℕ) (s : Standing Machine) (e : Run Machine) (f : Run Watched) (x : Along recorded s unseen e f) where
  abbrev i : Inspected
  i = (inspected_of recorded f).inspected

  along-inspects : (z : End) → f.end ≡ z → e.end ≡ z
      → (i.registers ≡ e.standing.machine.registers)
      × (i.place ≡ (ran_of e).ran.place)
      × (i.number ≡ cond (eqb (ran_of e).ran.number 0 && not (eqb (length recorded) e.standing.given)) 14 (ran_of e).ran.number)
  along-inspects whole a b = go (eqb (length recorded) f.standing.machine.given) refl
    where
      go : (t : Bool) → eqb (length recorded) f.standing.machine.given ≡ t
          → (i.registers ≡ e.standing.machine.registers)
          × (i.place ≡ (ran_of e).ran.place)
          × (i.number ≡ cond (eqb (ran_of e).ran.number 0 && not (eqb (length recorded) e.standing.given)) 14 (ran_of e).ran.number)
      go true h = rw (a, b, ← x.given, h) (ap (λ (m : Machine). m.registers) x.machine, refl, refl)
      go false h = rw (a, b, ← x.given, h) (ap (λ (m : Machine). m.registers) x.machine, refl, refl)
  along-inspects (short n) a b =
      let few : 3 ≤ n = x.refusal n b in
      rw (a, b, ne_eqb n 0 (λ q. omega arith)) (ap (λ (m : Machine). m.registers) x.machine, x.taken, refl)

  along-wrong : f.standing.machine.looked.wrong ≡ Nothing → (z : End) → f.end ≡ z → i.wrong ≡ Nothing
  along-wrong w whole a = go (eqb (length recorded) f.standing.machine.given) refl
    where
      go : (t : Bool) → eqb (length recorded) f.standing.machine.given ≡ t → i.wrong ≡ Nothing
      go true h = rw (a, h) w
      go false h = rw (a, h)
  along-wrong w (short n) a = rw a

-- what is claimed, of any two replies
abbrev Agree : List ℕ → InspectedAll → RanAll → Type 0
Agree recorded i e =
    (i.memory ≡ e.memory)
    × (i.inspected.registers ≡ e.ran.registers)
    × (i.inspected.place ≡ e.ran.place)
    × (i.inspected.number ≡ cond (eqb e.ran.number 0 && not (eqb (length recorded) e.ran.answers)) 14 e.ran.number)

module _ (p : Panel) (r : Registers) (mem rom log answers : List ℕ) (l : length log / 2 ≤ length answers) where
  abbrev begun : Standing Machine
  begun = record { machine = machine r mem; answers = answers; given = 0 }

  abbrev ran : Run Machine
  ran = run_from (step_of p rom) 0 (take (length log / 2) (pairs_of log)) begun

  pub along-log : (recorded : List ℕ) → Along recorded begun unseen ran (run_from (watch_step p rom recorded) 0 (pairs_of log) (begun_watch r mem))
  along-log recorded =
      subst (λ (qs : List Pair). Along recorded begun unseen (run_from (step_of p rom) 0 qs begun) (run_from (watch_step p rom recorded) 0 (pairs_of log) (begun_watch r mem)))
      (sym (take_all (length log / 2) (pairs_of log) (omega (arith, pairs-length log))))
      (along p rom recorded (pairs_of log) 0 begun unseen 0 (omega (arith, pairs-length log)))

  log-agrees : (recorded : List ℕ) → Agree recorded (inspected_of recorded (run_from (watch_step p rom recorded) 0 (pairs_of log) (begun_watch r mem))) (ran_of ran)
  log-agrees recorded =
      let x = along-log recorded in
      let y = along-inspects recorded begun ran _ x ran.end x.end refl in
      (ap (λ (m : Machine). m.memory) x.machine, y.0, y.1, y.2)

  abbrev door : (v w e : Bool) → List ℕ → InspectedAll
  door v w e recorded =
      cond v
      (cond w
      (cond e (inspected_of recorded (run_from (watch_step p rom recorded) 0 (pairs_of log) (begun_watch r mem))) (inspected_all (unnamed 8 (length log / 2) r) mem))
      (inspected_all (unnamed 2 0 r) mem))
      (inspected_all (unnamed 1 0 r) mem)

  abbrev ran_door : (v w e : Bool) → RanAll
  ran_door v w e = cond v (cond w (cond e (ran_of ran) (ran_none 8 (length log / 2) r mem answers)) (ran_none 2 0 r mem answers)) (ran_none 1 0 r mem answers)

  door-agrees : (recorded : List ℕ) (v w e : Bool) → Agree recorded (door v w e recorded) (ran_door v w e)
  door-agrees recorded true true true = log-agrees recorded
  door-agrees recorded true true false = (refl, refl, refl, refl)
  door-agrees recorded true false e = (refl, refl, refl, refl)
  door-agrees recorded false w e = (refl, refl, refl, refl)

  pub own-length : length (own_answers (ran_of ran)) ≡ ran.standing.given
  own-length = length-take-le ran.standing.given ran.standing.answers (along-log []).fits

  pub own-answer : (i : ℕ) → i < ran.standing.given → get_or (own_answers (ran_of ran)) i 0 ≡ get_or ran.standing.answers i 0
  own-answer i m = get_or-take ran.standing.given ran.standing.answers i 0 m

  and-not : (a b : Bool) → b ≡ true → (a && not b) ≡ false
  and-not true b h = ap not h
  and-not false b h = refl

  door-right : (v w e : Bool) → ((door v w e (own_answers (ran_door v w e))).inspected.number ≡ (ran_door v w e).ran.number) × ((door v w e (own_answers (ran_door v w e))).inspected.wrong ≡ Nothing)
  door-right true true true =
      let own : List ℕ = own_answers (ran_of ran) in
      let x = along-log own in
      let y = along-inspects own begun ran _ x ran.end x.end refl in (
        y.2 ∙ ap (λ (t : Bool). cond t 14 (ran_of ran).ran.number) (and-not (eqb (ran_of ran).ran.number 0) (eqb (length own) ran.standing.given) (eq-eqb (length own) ran.standing.given own-length)),
        along-wrong own begun ran _ x (x.right refl own-answer) ran.end x.end,
      )
  door-right true true false = (refl, refl)
  door-right true false e = (refl, refl)
  door-right false w e = (refl, refl)

pub inspects : Inspects
unfolding inspect_of stopping_of
inspects p r mem rom log recorded answers l = door-agrees p r mem rom log answers l recorded (valid_panel p && valid_registers r) (lent_lengths mem rom) (eqb (length log % 2) 0)

pub own-right : OwnRight
unfolding inspect_of stopping_of
own-right p r mem rom log answers l = door-right p r mem rom log answers l (valid_panel p && valid_registers r) (lent_lengths mem rom) (eqb (length log % 2) 0)

-- with auto off, in auto write and in auto read the controller's own status is ready
pub ready-own : (r : Registers) → ready_for r.bus.auto (status_of r) ≡ true
ready-own r = go r.bus.auto r.bus.error r.display.phase
  where
    go : (a : Auto) (e f : Bool) → ready_for a (bit_or (bit_or (bit_or (auto_bits a) 0x20) (cond e 0x40 0)) (cond f 0x80 0)) ≡ true
    go Off false false = refl
    go Off false true = refl
    go Off true false = refl
    go Off true true = refl
    go Write false false = refl
    go Write false true = refl
    go Write true false = refl
    go Write true true = refl
    go Read false false = refl
    go Read false true = refl
    go Read true false = refl
    go Read true true = refl
