-- The controller's run pair by pair: what each kind of pair comes to.
use mathlib.Core.Path.{◌≡◌, refl, ap, sym, subst, ◌∙◌}
use mathlib.Core.Bool.{Bool, true, false, cond, not, ◌&&◌, ◌||◌, false≢true}
use mathlib.Core.List.{List, [], ◌∷◌}
use Rattle.std.proofs.Common.{Option, Some, None}
use Rattle.single.specs.Outcome.{entered_of}
use Rattle.controller.proofs.Readied.{entered-runs}
use Prim.Native.Nat.{ℕ, zero, suc, ◌+◌, ◌-◌, ◌*◌, ◌/◌, ◌%◌, ◌<◌, ◌≤◌}
use native.Mathlib.Decide.{dec_lt}
use native.Mathlib.Omega.{arith}
use lib.Dec.{ltb, eqb, eqb-suc-zero}
use lib.ListN.{length, get_or, take, set}
use lib.Seq.{sets, length-sets}
use borrow.Author.Tests.{eq-eqb, ne_eqb, eqb-true, ltb-true, lt-ltb, le-ltb}
use Rattle.ground.specs.Lists.{stored}
use Rattle.ground.proofs.Tests.{cond_has, both, both_left, both_right}
use Rattle.ground.proofs.Stores.{stored-length}
use Rattle.state.specs.State.{valid_panel, none}
use Rattle.codes.specs.Command.{is_off}
use Rattle.controller.specs.Types.{Panel, Display, Auto, Off, Write, Read, Bus, Registers, RanOn, Noted, Told}
use Rattle.usual.specs.Done.{drawn, asked}
use Rattle.usual.specs.declared.ask.Asked.{Asked as Given}
use Rattle.effects.specs.Effect.{with_bus, with_pointer, with_auto, with_pending, with_phase, pushed, is_write}
use Rattle.controller.specs.Access.{Pair, Step, done, answered, refused, data_write_of, step_of}
use Rattle.effects.specs.Machine.{Machine, machine}
use Rattle.controller.specs.Run.{pairs_of, Standing, Turn, went, halted, turn_of, run_from}
use Rattle.controller.specs.Skip.{Skipping, passed_by, skip_by, skip_step, ran_on_all, ran_on_of}
use Rattle.usual.specs.Ready.{Tells, Draws, Asks}
use Rattle.usual.proofs.Tells.{leaves}
use Rattle.controller.specs.Ready.{Runs, Blocked, pairs_from, data_of, standing, standing_on, Turned, TurnedAll, turned_all, turned_of, NotedAll, noted_all, noted_of}
use Rattle.controller.proofs.Blocks.{pair_at, pairs-behind, write-only, block_run}
use Rattle.controller.proofs.Laws.{Sounds, sounds-valid, step-sound}
use Rattle.controller.proofs.Splits.{projected}
use Rattle.controller.proofs.Goings.{Leaves, Proper, goes, stops, Going, going, going-ends, going-halts, going-went, going_done, going-answers}
use Rattle.controller.proofs.Turns.{Answering, answers, declines, Acting, acts, refuses, step-answering, step-acting, step-number}

answering-proper : (s : Standing Machine) {o : Step Machine} → Answering s.machine o → Proper (turn_of s o)
answering-proper s answers = cond_has Proper (ltb s.given (length s.answers)) goes stops
answering-proper s (declines many few) = stops

acting-proper : (s : Standing Machine) {o : Step Machine} → Acting o → Proper (turn_of s o)
acting-proper s acts = goes
acting-proper s (refuses many few) = stops

pub step-proper : (p : Panel) (rom : List ℕ) (s : Standing Machine) (q : Pair) → Proper (turn_of s (step_of p rom s.machine q))
step-proper p rom s q = go (eqb q.kind 2 || eqb q.kind 3) refl
  where
    go : (t : Bool) → (eqb q.kind 2 || eqb q.kind 3) ≡ t → Proper (turn_of s (step_of p rom s.machine q))
    go true e = answering-proper s (step-answering p rom s.machine q.kind q.byte e)
    go false e = acting-proper s (step-acting p rom s.machine q.kind q.byte e)

-- what either run keeps: the machine sound, the list's length, the entries inside it
pub record SoundOn (n : ℕ) (s : Skipping Machine) : Type 0 where
  pub sound : Sounds s.machine
  pub long : length s.skips ≡ n
  pub fits : 2 * s.listed ≤ length s.skips

module _ (p : Panel) (rom : List ℕ) (on : Bool) (n : ℕ) where
  pub skip-sound : (s : Skipping Machine) → SoundOn n s → (q : Pair) → Leaves (SoundOn n) (skip_step on (step_of p rom) s q)
  skip-sound s k q = go (step_of p rom s.machine q) (step-sound p rom s.machine k.sound q)
    where
      listing : (m : ℕ) (t u : Bool) → ltb (2 * s.listed + 1) (length s.skips) ≡ t
          → Leaves (SoundOn n) (cond u (cond t (done (record { machine = s.machine; skips = sets s.skips (2 * s.listed) (m ∷ s.place ∷ []); listed = s.listed + 1; place = s.place + 1 })) (refused 16)) (refused m))
      listing m true true e =
          let h : 2 * s.listed + 1 < length s.skips = ltb-true (2 * s.listed + 1) (length s.skips) e in
          let f : length (sets s.skips (2 * s.listed) (m ∷ s.place ∷ [])) ≡ length s.skips = length-sets s.skips (2 * s.listed) (m ∷ s.place ∷ []) in
          record { sound = k.sound; long = f ∙ k.long; fits = omega (arith, h, f) }
      listing m false true e = tt
      listing m t false e = tt

      go : (o : Step Machine) → Leaves Sounds o → Leaves (SoundOn n) (skip_by on s o)
      go (done m) l = record { sound = l; long = k.long; fits = k.fits }
      go (answered m b) l = record { sound = l; long = k.long; fits = k.fits }
      go (refused m) l = listing m (ltb (2 * s.listed + 1) (length s.skips)) on refl

-- before pair i of either run: the machine and the answers, the list and the entries in it
pub record Running (p : Panel) (on : Bool) (rom log : List ℕ) (total : ℕ) (s₀ : Standing (Skipping Machine)) (s : Standing Machine) (skips : List ℕ) (listed i : ℕ) : Type 0 where
  pub goes_on : Going (skip_step on (step_of p rom)) (SoundOn (length s₀.machine.skips)) log total s₀ (standing_on s skips listed i) i

pub running : (p : Panel) (on : Bool) (rom log : List ℕ) (total : ℕ) (s : Standing Machine) (skips : List ℕ) → Sounds s.machine
    → Running p on rom log total (standing_on s skips 0 0) s skips 0 0
running p on rom log total s skips k =
    record { goes_on = going (skip_step on (step_of p rom)) (SoundOn (length skips)) (skip-sound p rom on (length skips)) log total (standing_on s skips 0 0) (record { sound = k; long = refl; fits = omega arith }) }

-- a pair that is taken is not listed
pub unlisted : (on : Bool) (place listed : ℕ) (skips : List ℕ) → noted_all (record { listed = listed; number = 0 }) skips ≡ noted_of on 0 place skips listed
unlisted true place listed skips = refl
unlisted false place listed skips = refl

-- what the code's turn and note come to: the larger machine's turn
pub data Outcome (s : Standing (Skipping Machine)) : Turn (Skipping Machine) → TurnedAll → NotedAll → Type 0 where
  takes : {t : TurnedAll} {l : ℕ} {skips : List ℕ}
      → Outcome s (went (standing_on (standing t.turned.registers t.memory t.answers t.turned.given) skips l (s.machine.place + 1))) t (noted_all (record { listed = l; number = 0 }) skips)
  ends : {n m : ℕ}
      → Outcome s (halted (suc n))
      (turned_all (record { number = m; registers = s.machine.machine.registers; given = s.given }) s.machine.machine.memory s.answers)
      (noted_all (record { listed = s.machine.listed; number = suc n }) s.machine.skips)

outcome : (on : Bool) (s : Standing (Skipping Machine)) (o : Step Machine) → ((n : ℕ) → o ≡ refused n → (3 ≤ n) × (n ≤ 7))
    → Outcome s (turn_of s (skip_by on s.machine o)) (turned_of (projected (λ x. x.machine) s) (turn_of (projected (λ x. x.machine) s) o))
    (noted_of on (turned_of (projected (λ x. x.machine) s) (turn_of (projected (λ x. x.machine) s) o)).turned.number s.machine.place s.machine.skips s.machine.listed)
outcome on s (done m) f = still on
  where
    still : (on : Bool) → Outcome s (turn_of s (skip_by on s.machine (done m))) (turned_of (projected (λ x. x.machine) s) (went (record { machine = m; answers = s.answers; given = s.given }))) (noted_of on 0 s.machine.place s.machine.skips s.machine.listed)
    still true = takes
    still false = takes
outcome on s (answered m b) f = room on (ltb s.given (length s.answers))
  where
    room : (on t : Bool)
        → Outcome s (cond t (went (record { machine = passed_by s.machine m; answers = set s.answers s.given b; given = s.given + 1 })) (halted 13))
        (turned_of (projected (λ x. x.machine) s) (cond t (went (record { machine = m; answers = set s.answers s.given b; given = s.given + 1 })) (halted 13)))
        (noted_of on (turned_of (projected (λ x. x.machine) s) (cond t (went (record { machine = m; answers = set s.answers s.given b; given = s.given + 1 })) (halted 13))).turned.number s.machine.place s.machine.skips s.machine.listed)
    room true true = takes
    room false true = takes
    room true false = ends
    room false false = ends
outcome on s (refused zero) f = let h = f 0 refl in absurd (let y : ⊥ = omega (arith, h.0) in y)
outcome true s (refused (suc n)) f =
    let h = f (suc n) refl in
    let zero-not : eqb (suc n) 0 ≡ false = eqb-suc-zero n in
    let not-13 : eqb (suc n) 13 ≡ false = ne_eqb (suc n) 13 (λ e. omega (arith, h.1)) in
    subst
    (λ (x : NotedAll). Outcome s (turn_of s (skip_by true s.machine (refused (suc n)))) (turned_of (projected (λ x. x.machine) s) (halted (suc n))) x)
    (sym (λ i. cond (not (zero-not i) && not (not-13 i))
    (cond (half s.machine.listed s.machine.skips i)
    (noted_all (record { listed = s.machine.listed + 1; number = 0 }) (sets s.machine.skips (2 * s.machine.listed) (suc n ∷ s.machine.place ∷ [])))
    (noted_all (record { listed = s.machine.listed; number = 16 }) s.machine.skips))
    (noted_all (record { listed = s.machine.listed; number = suc n }) s.machine.skips)))
    (listing (ltb (2 * s.machine.listed + 1) (length s.machine.skips)))
  where
    half : (l : ℕ) (skips : List ℕ) → ltb l (length skips / 2) ≡ ltb (2 * l + 1) (length skips)
    half l skips = go (dec_lt (2 * l + 1) (length skips))
      where
        go : Dec (2 * l + 1 < length skips) → ltb l (length skips / 2) ≡ ltb (2 * l + 1) (length skips)
        go (yes h) = lt-ltb l (length skips / 2) (omega arith) ∙ sym (lt-ltb (2 * l + 1) (length skips) h)
        go (no h) = le-ltb l (length skips / 2) (omega arith) ∙ sym (le-ltb (2 * l + 1) (length skips) (omega arith))

    listing : (t : Bool)
        → Outcome s
        (turn_of s (cond t (done (record { machine = s.machine.machine; skips = sets s.machine.skips (2 * s.machine.listed) (suc n ∷ s.machine.place ∷ []); listed = s.machine.listed + 1; place = s.machine.place + 1 })) (refused 16)))
        (turned_of (projected (λ x. x.machine) s) (halted (suc n)))
        (cond t
        (noted_all (record { listed = s.machine.listed + 1; number = 0 }) (sets s.machine.skips (2 * s.machine.listed) (suc n ∷ s.machine.place ∷ [])))
        (noted_all (record { listed = s.machine.listed; number = 16 }) s.machine.skips))
    listing true = takes
    listing false = ends
outcome false s (refused (suc n)) f = ends

pub skip-proper : (p : Panel) (rom : List ℕ) (on : Bool) (s : Standing (Skipping Machine)) (q : Pair) → Proper (turn_of s (skip_step on (step_of p rom) s.machine q))
skip-proper p rom on s q = go (outcome on s (step_of p rom s.machine.machine q) (step-number p rom s.machine.machine q.kind q.byte))
  where
    go : {o : Turn (Skipping Machine)} {t : TurnedAll} {u : NotedAll} → Outcome s o t u → Proper o
    go takes = goes
    go ends = stops

module _ {p : Panel} {on : Bool} {rom log : List ℕ} {total : ℕ} {s₀ : Standing (Skipping Machine)} {s : Standing Machine} {skips : List ℕ} {listed i : ℕ}
    (g : Running p on rom log total s₀ s skips listed i) where
  abbrev steps : Skipping Machine → Pair → Step (Skipping Machine)
  steps = skip_step on (step_of p rom)

  abbrev Kind : Skipping Machine → Type 0
  Kind = SoundOn (length s₀.machine.skips)

  pub running-ends : total ≤ i
      → {y : RanOn} → y ≡ record { ran = record { number = 0; place = 0; taken = i; answers = s.given; registers = s.machine.registers }; skipped = listed }
      → ran_on_all y s.machine.memory s.answers skips ≡ ran_on_of (run_from steps 0 (take total (pairs_of log)) s₀)
  running-ends h f =
      ap (λ (o : RanOn). ran_on_all o s.machine.memory s.answers skips) f
      ∙ ap ran_on_of (going-ends steps Kind (skip-sound p rom on _) g.goes_on h)

  -- every turn starts from a machine that may be acted on
  pub going-runs : (r : Registers) (mem : List ℕ) → s.machine ≡ machine r mem → valid_panel p ≡ true → length rom ≡ 1024 → Runs p r mem rom
  going-runs r mem e v l =
      let k : Sounds (machine r mem) = subst Sounds e g.goes_on.sound.sound in
      record { panel = v; state = sounds-valid k; lent = both (eq-eqb (length mem) 65536 k.memory) (eq-eqb (length rom) 1024 l) }

  module _ (h : i < total) (l : 2 * total ≤ length log) where
    running-done : (n : ℕ) → get_or log (2 * i) 0 ≡ n → {m : Machine} → step_of p rom s.machine (record { kind = n; byte = get_or log (2 * i + 1) 0 }) ≡ done m
        → Running p on rom log total s₀ (record { machine = m; answers = s.answers; given = s.given }) skips listed (i + 1)
    running-done n e x = record { goes_on = going_done steps Kind (skip-sound p rom on _) g.goes_on h l n e (ap (skip_by on (standing_on s skips listed i).machine) x) }

    running-answers : (n : ℕ) → get_or log (2 * i) 0 ≡ n → {m : Machine} {b : ℕ}
        → step_of p rom s.machine (record { kind = n; byte = get_or log (2 * i + 1) 0 }) ≡ answered m b → ltb s.given (length s.answers) ≡ true
        → Running p on rom log total s₀ (record { machine = m; answers = set s.answers s.given b; given = s.given + 1 }) skips listed (i + 1)
    running-answers n e x r = record { goes_on = going-answers steps Kind (skip-sound p rom on _) g.goes_on h l n e (ap (skip_by on (standing_on s skips listed i).machine) x) r }

    module _ {t : Turned} {m a : List ℕ} {x : Noted} {b : List ℕ} {number : ℕ}
        (e : turned_all t m a ≡ turned_of s (turn_of s (step_of p rom s.machine (pair_at log i))))
        (its : number ≡ t.number)
        (f : noted_all x b ≡ noted_of on number i skips listed) where
      comes : Outcome (standing_on s skips listed i) (turn_of (standing_on s skips listed i) (steps (standing_on s skips listed i).machine (pair_at log i))) (turned_all t m a) (noted_all x b)
      comes =
          let o = outcome on (standing_on s skips listed i) (step_of p rom s.machine (pair_at log i)) (step-number p rom s.machine (get_or log (2 * i) 0) (get_or log (2 * i + 1) 0)) in
          subst (λ (y : NotedAll). Outcome (standing_on s skips listed i) (turn_of (standing_on s skips listed i) (steps (standing_on s skips listed i).machine (pair_at log i))) (turned_all t m a) y) (sym (f ∙ ap (λ (n : ℕ). noted_of on n i skips listed) its))
          (subst (λ (y : TurnedAll). Outcome (standing_on s skips listed i) (turn_of (standing_on s skips listed i) (steps (standing_on s skips listed i).machine (pair_at log i))) y (noted_of on y.turned.number i skips listed)) (sym e) o)

      -- a pair taken, or listed
      pub going_on : x.number ≡ 0 → Running p on rom log total s₀ (standing t.registers m a t.given) b x.listed (i + 1)
      going_on z = go _ _ _ comes z refl
        where
          go : (o : Turn (Skipping Machine)) (y : TurnedAll) (u : NotedAll) → Outcome (standing_on s skips listed i) o y u → u.noted.number ≡ 0
              → turn_of (standing_on s skips listed i) (steps (standing_on s skips listed i).machine (pair_at log i)) ≡ o
              → Running p on rom log total s₀ (standing y.turned.registers y.memory y.answers y.turned.given) u.skips u.noted.listed (i + 1)
          go (went _) y u takes z w = record { goes_on = going-went steps Kind (skip-sound p rom on _) g.goes_on h l w }
          go (halted (suc n)) y u ends z w = absurd (let q : ⊥ = omega arith in q)
          go (halted zero) y u x6 z w = elim x6 [ ]

      -- a pair that stops the run
      pub going-stops : (x.number ≡ 0 → ⊥)
          → {y : RanOn} → y ≡ record { ran = record { number = x.number; place = i; taken = i; answers = t.given; registers = t.registers }; skipped = x.listed }
          → ran_on_all y m a b ≡ ran_on_of (run_from steps 0 (take total (pairs_of log)) s₀)
      going-stops z f = ap (λ (o : RanOn). ran_on_all o m a b) f ∙ go _ _ _ comes z refl
        where
          go : (o : Turn (Skipping Machine)) (y : TurnedAll) (u : NotedAll) → Outcome (standing_on s skips listed i) o y u → (u.noted.number ≡ 0 → ⊥)
              → turn_of (standing_on s skips listed i) (steps (standing_on s skips listed i).machine (pair_at log i)) ≡ o
              → ran_on_all (record { ran = record { number = u.noted.number; place = i; taken = i; answers = y.turned.given; registers = y.turned.registers }; skipped = u.noted.listed }) y.memory y.answers u.skips
              ≡ ran_on_of (run_from steps 0 (take total (pairs_of log)) s₀)
          go (went _) y u takes z w = absurd (z refl)
          go (halted (suc n)) y u ends z w = ap ran_on_of (going-halts steps Kind (skip-sound p rom on _) g.goes_on h l w)
          go (halted zero) y u x6 z w = elim x6 [ ]

    module _ (k : Runs p s.machine.registers s.machine.memory rom) where
      abbrev taken_here : Turn Machine
      taken_here = turn_of (standing s.machine.registers s.machine.memory s.answers s.given) (entered_of p s.machine.registers s.machine.memory rom (pair_at log i))

      here : taken_here ≡ turn_of s (step_of p rom s.machine (pair_at log i))
      here = ap (turn_of s) (entered-runs k (pair_at log i))

      pub turned-here : turned_of (standing s.machine.registers s.machine.memory s.answers s.given) taken_here ≡ turned_of s (turn_of s (step_of p rom s.machine (pair_at log i)))
      turned-here = ap (turned_of s) here

  -- a block of data in auto write
  pub going-block : {b : Bool} → b ≡ is_write s.machine.registers.bus.auto → (eqb (get_or log (2 * i) 0) 0 && b) ≡ true
      → {m : List ℕ} {end : ℕ} {next : Bus}
      → Blocked s.machine.memory s.machine.registers.bus.pointer log i total m end
      → next ≡ with_pointer s.machine.registers.bus ((s.machine.registers.bus.pointer + (end - i)) % 65536)
      → Running p on rom log total s₀ (standing (with_bus s.machine.registers next) m s.answers s.given) skips listed end
  going-block {b} e w {m} {end} k f =
      let j : (s.machine.registers.bus.pointer + (end - i)) % 65536 ≡ (s.machine.registers.bus.pointer + length (data_of (pairs_from log i total))) % 65536 = omega (arith, k.reaches) in
      subst (λ (x : Bus). Running p on rom log total s₀ (standing (with_bus s.machine.registers x) m s.answers s.given) skips listed end) (sym f)
      (record {
        goes_on = record {
          inside = k.inside;
          sound = record {
            sound = record { display = g.goes_on.sound.sound.display; bus = g.goes_on.sound.sound.bus; memory = ap length k.holds ∙ stored-length s.machine.memory _ _ ∙ g.goes_on.sound.sound.memory };
            long = g.goes_on.sound.long;
            fits = g.goes_on.sound.fits;
          };
          room = g.goes_on.room;
          left = (λ t. run_from steps (k.reaches t) (pairs_from log (k.reaches t) total) (standing_on (standing (with_bus s.machine.registers (with_pointer s.machine.registers.bus (j t))) (k.holds t) s.answers s.given) skips listed (k.reaches t)))
              ∙ sym
              (ap
              (λ (qs : List Pair). run_from steps (i + length (data_of (pairs_from log i total))) qs
              (standing_on (standing (with_bus s.machine.registers (with_pointer s.machine.registers.bus ((s.machine.registers.bus.pointer + length (data_of (pairs_from log i total))) % 65536))) (stored s.machine.memory s.machine.registers.bus.pointer (data_of (pairs_from log i total))) s.answers s.given) skips listed (i + length (data_of (pairs_from log i total)))))
              (pairs-behind log total i (length (data_of (pairs_from log i total)))))
              ∙ sym (block_run p rom on skips listed (pairs_from log i total) i s.machine.registers s.machine.memory s.answers s.given i (write-only s.machine.registers.bus.auto (sym e ∙ both_right (eqb (get_or log (2 * i) 0) 0) b w)) k.low)
              ∙ g.goes_on.left;
        };
      })

off-only : (a : Auto) → is_off a ≡ true → a ≡ Off
off-only Off e = refl
off-only Write e = absurd (false≢true e)
off-only Read e = absurd (false≢true e)

-- the pairs that are taken apart from the others
module _ {p : Panel} {on : Bool} {rom log : List ℕ} {total : ℕ} {s₀ : Standing (Skipping Machine)} {d : Display} {b : Bus} {m a : List ℕ} {n : ℕ} {skips : List ℕ} {listed i : ℕ}
    (g : Running p on rom log total s₀ (standing (record { display = d; bus = b }) m a n) skips listed i) where
  -- left by `tell`, and by `ask`
  pub going-kept : {after : List ℕ} → after ≡ m → Running p on rom log total s₀ (standing (record { display = d; bus = b }) after a n) skips listed i
  going-kept e = subst (λ (x : List ℕ). Running p on rom log total s₀ (standing (record { display = d; bus = b }) x a n) skips listed i) (sym e) g

  pub going-held : {phase : Bool} {kind : ℕ} {o : Option Given} {after : List ℕ} → Asks phase b m a n kind (asked b n o) after → o ≡ None
      → Running p on rom log total s₀ (standing (record { display = d; bus = b }) m after n) skips listed i
  going-held {o = o} x t = let e = x.keeps (ap (λ (o : Option Given). (asked b n o).done) t) in subst (λ (x : List ℕ). Running p on rom log total s₀ (standing (record { display = d; bus = b }) m x n) skips listed i) (sym e) g

  module _ (h : i < total) (l : 2 * total ≤ length log) where
    pub going-ticks : get_or log (2 * i) 0 ≡ 4 → {x : Display} → x ≡ with_phase d (not d.phase)
        → Running p on rom log total s₀ (standing (record { display = x; bus = b }) m a n) skips listed (i + 1)
    going-ticks e f = running-done g h l 4 e (λ t. done (machine (record { display = sym f t; bus = b }) m))

    pub going-leaves : get_or log (2 * i) 0 ≡ 1 → get_or log (2 * i + 1) 0 ≡ 0xb2 → {next : Bus} → next ≡ with_pending (with_auto b Off) none
        → Running p on rom log total s₀ (standing (record { display = d; bus = next }) m a n) skips listed (i + 1)
    going-leaves c e f =
        running-done g h l 1 c (leaves p rom m d b (get_or log (2 * i + 1) 0) e {next = with_auto b Off} refl ∙ (λ t. done (machine (record { display = d; bus = sym f t }) m)))

    pub going-asks : {o : Option Given} {u : Given} {after : List ℕ} → Asks d.phase b m a n (get_or log (2 * i) 0) (asked b n o) after → o ≡ Some u
        → Running p on rom log total s₀ (standing (record { display = d; bus = u.bus }) m after u.given) skips listed (i + 1)
    going-asks {o} {u} {after} k e =
        let x = (subst (λ (o : Option Given). Asks d.phase b m a n (get_or log (2 * i) 0) (asked b n o) after) e k).acts refl p rom d (get_or log (2 * i + 1) 0) refl in
        subst (λ (w : List ℕ). Running p on rom log total s₀ (standing (record { display = d; bus = u.bus }) m w u.given) skips listed (i + 1)) (sym x.holds)
        (subst (λ (w : ℕ). Running p on rom log total s₀ (standing (record { display = d; bus = u.bus }) m (set a n x.byte) w) skips listed (i + 1)) (sym x.counts)
        (running-answers g h l _ refl x.steps x.room))

    module _ {off : Bool} (e : off ≡ is_off b.auto) where
      pub going-pushes : (eqb (get_or log (2 * i) 0) 0 && off) ≡ true → {next : Bus} → next ≡ with_pending b (pushed b.pending (get_or log (2 * i + 1) 0))
          → Running p on rom log total s₀ (standing (record { display = d; bus = next }) m a n) skips listed (i + 1)
      going-pushes t f =
          running-done g h l 0 (eqb-true (get_or log (2 * i) 0) 0 (both_left (eqb (get_or log (2 * i) 0) 0) off t))
          (ap (λ (x : Auto). data_write_of x (machine (record { display = d; bus = b }) m) (get_or log (2 * i + 1) 0)) (off-only b.auto (sym e ∙ both_right (eqb (get_or log (2 * i) 0) 0) off t))
          ∙ (λ t. done (machine (record { display = d; bus = sym f t }) m)))

      pub going-tells : get_or log (2 * i) 0 ≡ 1 → {told : Told} {after : List ℕ} → Tells b m off (get_or log (2 * i + 1) 0) told after → told.done ≡ true
          → Running p on rom log total s₀ (standing (record { display = d; bus = told.bus }) after a n) skips listed (i + 1)
      going-tells c k t = running-done g h l 1 c (k.acts t (sym e ∙ k.quiet t) p rom d)

      pub going-draws : get_or log (2 * i) 0 ≡ 1 → {o : Option Display} {x : Display} → Draws d off (get_or log (2 * i + 1) 0) (drawn d o) → o ≡ Some x → {next : Bus} → next ≡ with_pending b none
          → Running p on rom log total s₀ (standing (record { display = x; bus = next }) m a n) skips listed (i + 1)
      going-draws c {x = x} y t f =
          let k = subst (λ (o : Option Display). Draws d off (get_or log (2 * i + 1) 0) (drawn d o)) t y in
          running-done g h l 1 c (k.acts refl b (sym e ∙ k.quiet refl) p rom m ∙ (λ t. done (machine (record { display = x; bus = sym f t }) m)))
