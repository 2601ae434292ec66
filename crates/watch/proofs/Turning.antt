-- One pair of a run with flags, and the list of skipped pairs behind it.
use Rattle.std.proofs.Common.{◌≡◌, ℕ, zero, suc, ◌+◌, ◌-◌, ◌*◌, ◌/◌, ◌<◌, ◌≤◌, Bool, true, false, cond, not, ◌&&◌, eqb, ltb, List, [], ◌∷◌, length, get_or, take, set, sym, refl, ap, ◌∙◌, subst, arith, ltb-true, le-ltb, lt-ltb, eq-eqb, ne_eqb, eqb-true}
use native.Mathlib.Decide.{dec_lt}
use lib.Dec.{eqb-suc-zero}
use lib.Seq.{sets, length-sets}
use Rattle.ground.specs.Lists.{stored}
use Rattle.ground.proofs.Lists.{build-length}
use Rattle.ground.proofs.Stores.{stored-length}
use Rattle.ground.proofs.Tests.{both, both_right}
use Rattle.effects.specs.Machine.{Machine, machine}
use Rattle.effects.specs.Effect.{is_write}
use Rattle.controller.specs.Access.{Pair, Step, done, answered, refused, data_read_of, step_of}
use Rattle.controller.specs.Types.{Auto}
use Rattle.controller.specs.Run.{Standing, Turn, went, halted, turn_of, run_from, pairs_of}
use Rattle.controller.specs.Skip.{Skipping, passed_by, skip_by, skip_step}
use Rattle.controller.specs.Ready.{NotedAll, noted_all, noted_of, pairs_from, data_of}
use Rattle.controller.proofs.Blocks.{pair_at, pairs-behind, write-only}
use Rattle.controller.proofs.Splits.{projected}
use Rattle.controller.proofs.Laws.{Sounds, sounds-valid, step-sound}
use Rattle.controller.proofs.Goings.{Leaves, Going, going, going-ends, going-halts, going-went}
use Rattle.controller.proofs.Turns.{step-number}
use Rattle.watch.specs.Types.{Panel, Display, Registers, RanOn, Taken, Noted}
use Rattle.flags.specs.Flags.{same_display, flags_after, Flagged, with_flags, flag_by, flag_step}
use Rattle.flags.specs.Outcome.{flag_entered_of}
use Rattle.watch.specs.Watched.{ran_flags, ran_flags_of}
use Rattle.touch.specs.Marked.{marked_of}
use Rattle.flags.specs.Ready.{Following}
use Rattle.flags.proofs.Follows.{marked-is, flags-after-is}
use Rattle.flags.proofs.Rights.{same-own}
use Rattle.touch.proofs.Marks.{marks-none}
use Rattle.watch.proofs.Stretches.{passed_of, on_skips, flag-block, marked-long}
use Rattle.watch.specs.Runs.{Quickly, Stretched, standing_flags}

-- what is known to be valid is followed
opened : (p : Panel) (r : Registers) (mem rom flags : List ℕ) (q : Pair) → Following p r mem rom flags
    → flag_entered_of p r mem rom q flags ≡ flag_step p rom (with_flags (machine r mem) flags) q
unfolding flag_entered_of
opened p r mem rom flags q k =
    λ i.
    cond (k.panel i && k.state i)
    (cond (k.lent i && eq-eqb (length flags) (8 * p.lines) k.rows i) (flag_step p rom (with_flags (machine r mem) flags) q) (refused 2))
    (refused 1)

-- data read in auto write are refused, whatever the room
pub read-against : {p : Panel} {r : Registers} {mem rom flags : List ℕ} {k : ℕ} (b : ℕ) → Following p r mem rom flags → k ≡ 2 → is_write r.bus.auto ≡ true
    → flag_entered_of p r mem rom (record { kind = k; byte = b }) flags ≡ refused 7
read-against {p} {r} {mem} {rom} {flags} {k} b may e w =
    opened p r mem rom flags (record { kind = k; byte = b }) may
    ∙ ap (λ (n : ℕ). flag_step p rom (with_flags (machine r mem) flags) (record { kind = n; byte = b })) e
    ∙ ap (λ (a : Auto). flag_by p (with_flags (machine r mem) flags) (record { kind = 2; byte = b }) (data_read_of a (machine r mem))) (write-only r.bus.auto w)

-- a number, 0 where the pair is taken, and where the run then stands
pub record TurnedFlags : Type 0 where
  pub number : ℕ
  pub standing : Standing Flagged

abbrev pub turned_flags_of : Standing Flagged → Turn Flagged → TurnedFlags
turned_flags_of s (went t) = record { number = 0; standing = t }
turned_flags_of s (halted n) = record { number = n; standing = s }

-- the larger machine's turn: what turn and note come to
pub data Came (s : Standing (Skipping Flagged)) : Turn (Skipping Flagged) → TurnedFlags → NotedAll → Type 0 where
  takes : {t : TurnedFlags} {l : ℕ} {skips : List ℕ} → Came s (went (on_skips t.standing skips l (s.machine.place + 1))) t (noted_all (record { listed = l; number = 0 }) skips)
  ends : {n m : ℕ}
      → Came s (halted (suc n)) (record { number = m; standing = projected (λ x. x.machine) s }) (noted_all (record { listed = s.machine.listed; number = suc n }) s.machine.skips)

came : (s : Standing (Skipping Flagged)) (o : Step Flagged) → ((n : ℕ) → o ≡ refused n → (3 ≤ n) × (n ≤ 7))
    → Came s (turn_of s (skip_by true s.machine o)) (turned_flags_of (projected (λ x. x.machine) s) (turn_of (projected (λ x. x.machine) s) o))
    (noted_of true (turned_flags_of (projected (λ x. x.machine) s) (turn_of (projected (λ x. x.machine) s) o)).number s.machine.place s.machine.skips s.machine.listed)
came s (done m) f = takes
came s (answered m b) f = room (ltb s.given (length s.answers))
  where
    room : (t : Bool)
        → Came s (cond t (went (record { machine = passed_by s.machine m; answers = set s.answers s.given b; given = s.given + 1 })) (halted 13))
        (turned_flags_of (projected (λ x. x.machine) s) (cond t (went (record { machine = m; answers = set s.answers s.given b; given = s.given + 1 })) (halted 13)))
        (noted_of true (turned_flags_of (projected (λ x. x.machine) s) (cond t (went (record { machine = m; answers = set s.answers s.given b; given = s.given + 1 })) (halted 13))).number s.machine.place s.machine.skips s.machine.listed)
    room true = takes
    room false = ends
came s (refused zero) f = let h = f 0 refl in absurd (let y : ⊥ = omega (arith, h.0) in y)
came s (refused (suc n)) f =
    let h = f (suc n) refl in
    let zero-not : eqb (suc n) 0 ≡ false = eqb-suc-zero n in
    let not-13 : eqb (suc n) 13 ≡ false = ne_eqb (suc n) 13 (λ e. omega (arith, h.1)) in
    subst
    (λ (x : NotedAll). Came s (turn_of s (skip_by true s.machine (refused (suc n)))) (turned_flags_of (projected (λ x. x.machine) s) (halted (suc n))) x)
    (sym (λ i. cond (not (zero-not i) && not (not-13 i))
    (cond (half s.machine.listed s.machine.skips i)
    (noted_all (record { listed = s.machine.listed + 1; number = 0 }) (sets s.machine.skips (2 * s.machine.listed) (suc n ∷ s.machine.place ∷ [])))
    (noted_all (record { listed = s.machine.listed; number = 16 }) s.machine.skips))
    (noted_all (record { listed = s.machine.listed; number = suc n }) s.machine.skips)))
    (listing (ltb (2 * s.machine.listed + 1) (length s.machine.skips)))
  where
    half : (l : ℕ) (skips : List ℕ) → ltb l (length skips / 2) ≡ ltb (2 * l + 1) (length skips)
    half l skips = go (dec_lt (2 * l + 1) (length skips))
      where
        go : Dec (2 * l + 1 < length skips) → ltb l (length skips / 2) ≡ ltb (2 * l + 1) (length skips)
        go (yes h) = lt-ltb l (length skips / 2) (omega arith) ∙ sym (lt-ltb (2 * l + 1) (length skips) h)
        go (no h) = le-ltb l (length skips / 2) (omega arith) ∙ sym (le-ltb (2 * l + 1) (length skips) (omega arith))

    listing : (t : Bool)
        → Came s
        (turn_of s (cond t (done (record { machine = s.machine.machine; skips = sets s.machine.skips (2 * s.machine.listed) (suc n ∷ s.machine.place ∷ []); listed = s.machine.listed + 1; place = s.machine.place + 1 })) (refused 16)))
        (turned_flags_of (projected (λ x. x.machine) s) (halted (suc n)))
        (cond t
        (noted_all (record { listed = s.machine.listed + 1; number = 0 }) (sets s.machine.skips (2 * s.machine.listed) (suc n ∷ s.machine.place ∷ [])))
        (noted_all (record { listed = s.machine.listed; number = 16 }) s.machine.skips))
    listing true = takes
    listing false = ends

flag-number : (p : Panel) (rom : List ℕ) (f : Flagged) (k b n : ℕ) → flag_step p rom f (record { kind = k; byte = b }) ≡ refused n → (3 ≤ n) × (n ≤ 7)
flag-number p rom f k b n e = go (step_of p rom f.machine (record { kind = k; byte = b })) (λ m h. step-number p rom f.machine k b m h) e
  where
    number_of : Step Flagged → ℕ
    number_of (done x) = 0
    number_of (answered x y) = 0
    number_of (refused m) = m

    is_refused : Step Flagged → ℕ
    is_refused (done x) = 0
    is_refused (answered x y) = 0
    is_refused (refused m) = 1

    go : (o : Step Machine) → ((m : ℕ) → o ≡ refused m → (3 ≤ m) × (m ≤ 7)) → flag_by p f (record { kind = k; byte = b }) o ≡ refused n → (3 ≤ n) × (n ≤ 7)
    go (done x) s e = absurd (let z : 0 ≡ 1 = ap is_refused e in omega (arith, z))
    go (answered x y) s e = absurd (let z : 0 ≡ 1 = ap is_refused e in omega (arith, z))
    go (refused m) s e = let z : m ≡ n = ap number_of e in subst (λ (j : ℕ). (3 ≤ j) × (j ≤ 7)) z (s m refl)

-- what the run keeps
pub record SoundFlags (rows n : ℕ) (s : Skipping Flagged) : Type 0 where
  pub sound : Sounds s.machine.machine
  pub long : length s.machine.flags ≡ rows
  pub lists : length s.skips ≡ n
  pub fits : 2 * s.listed ≤ length s.skips

module _ (p : Panel) (rom : List ℕ) (n : ℕ) where
  flags_long : (s : Machine) (q : Pair) (t : Machine) (flags : List ℕ) → length (flags_after p s q t flags) ≡ 8 * p.lines
  unfolding flags_after
  flags_long s q t flags = build-length (8 * p.lines) _

  pub flag-sound : (s : Skipping Flagged) → SoundFlags (8 * p.lines) n s → (q : Pair) → Leaves (SoundFlags (8 * p.lines) n) (skip_step true (flag_step p rom) s q)
  flag-sound s k q = go (step_of p rom s.machine.machine q) (step-sound p rom s.machine.machine k.sound q)
    where
      listing : (m : ℕ) (t : Bool) → ltb (2 * s.listed + 1) (length s.skips) ≡ t
          → Leaves (SoundFlags (8 * p.lines) n) (cond t (done (record { machine = s.machine; skips = sets s.skips (2 * s.listed) (m ∷ s.place ∷ []); listed = s.listed + 1; place = s.place + 1 })) (refused 16))
      listing m true e =
          let h : 2 * s.listed + 1 < length s.skips = ltb-true (2 * s.listed + 1) (length s.skips) e in
          let f : length (sets s.skips (2 * s.listed) (m ∷ s.place ∷ [])) ≡ length s.skips = length-sets s.skips (2 * s.listed) (m ∷ s.place ∷ []) in
          record { sound = k.sound; long = k.long; lists = f ∙ k.lists; fits = omega (arith, h, f) }
      listing m false e = tt

      go : (o : Step Machine) → Leaves Sounds o → Leaves (SoundFlags (8 * p.lines) n) (skip_by true s (flag_by p s.machine q o))
      go (done t) l = record { sound = l; long = flags_long s.machine.machine q t s.machine.flags; lists = k.lists; fits = k.fits }
      go (answered t b) l = record { sound = l; long = flags_long s.machine.machine q t s.machine.flags; lists = k.lists; fits = k.fits }
      go (refused m) l = listing m (ltb (2 * s.listed + 1) (length s.skips)) refl

-- before pair i of the run
pub record Flagging (p : Panel) (rom log : List ℕ) (total : ℕ) (s₀ : Standing (Skipping Flagged)) (r : Registers) (mem flags answers : List ℕ) (given : ℕ) (skips : List ℕ) (listed i : ℕ) : Type 0 where
  pub goes_on : Going (skip_step true (flag_step p rom)) (SoundFlags (8 * p.lines) (length s₀.machine.skips)) log total s₀ (on_skips (standing_flags r mem flags answers given) skips listed i) i

pub flagging : (p : Panel) (rom log : List ℕ) (total : ℕ) (r : Registers) (mem flags answers skips : List ℕ) → Sounds (machine r mem) → length flags ≡ 8 * p.lines
    → Flagging p rom log total (on_skips (standing_flags r mem flags answers 0) skips 0 0) r mem flags answers 0 skips 0 0
flagging p rom log total r mem flags buffer skips k l =
    record {
      goes_on = going (skip_step true (flag_step p rom)) (SoundFlags (8 * p.lines) (length skips)) (flag-sound p rom (length skips)) log total
          (on_skips (standing_flags r mem flags buffer 0) skips 0 0) (record { sound = k; long = l; lists = refl; fits = omega arith });
    }

module _ {p : Panel} {rom log : List ℕ} {total : ℕ} {s₀ : Standing (Skipping Flagged)} {r : Registers} {mem flags answers : List ℕ} {given : ℕ} {skips : List ℕ} {listed i : ℕ}
    (g : Flagging p rom log total s₀ r mem flags answers given skips listed i) where
  abbrev steps_on : Skipping Flagged → Pair → Step (Skipping Flagged)
  steps_on = skip_step true (flag_step p rom)

  abbrev Sort : Skipping Flagged → Type 0
  Sort = SoundFlags (8 * p.lines) (length s₀.machine.skips)

  abbrev now_at : Standing (Skipping Flagged)
  now_at = on_skips (standing_flags r mem flags answers given) skips listed i

  pub flagging-ends : total ≤ i
      → {y : RanOn} → y ≡ record { ran = record { number = 0; place = 0; taken = i; answers = given; registers = r }; skipped = listed }
      → ran_flags y mem answers skips flags ≡ ran_flags_of (run_from steps_on 0 (take total (pairs_of log)) s₀)
  flagging-ends h e =
      ap (λ (o : RanOn). ran_flags o mem answers skips flags) e
      ∙ ap ran_flags_of (going-ends steps_on Sort (flag-sound p rom _) g.goes_on h)

  pub may-follow : {s : Registers} {m f : List ℕ} → Following p s m rom f → Following p r mem rom flags
  may-follow {s} {m} {f} b =
      let v = b.panel in
      let l : length rom ≡ 1024 = eqb-true (length rom) 1024 (both_right (eqb (length m) 65536) (eqb (length rom) 1024) b.lent) in
      let k = g.goes_on.sound in
      record { panel = v; state = sounds-valid k.sound; lent = both (eq-eqb (length mem) 65536 k.sound.memory) (eq-eqb (length rom) 1024 l); rows = k.long }

  abbrev here : Standing Flagged
  here = standing_flags r mem flags answers given

  module _ (may : Following p r mem rom flags) (h : i < total) (l : 2 * total ≤ length log) {x : Noted} {b : List ℕ} where
    comes : {t : Turn Flagged} → t ≡ turn_of here (flag_entered_of p r mem rom (pair_at log i) flags) → noted_all x b ≡ noted_of true (turned_flags_of here t).number i skips listed
        → Came now_at (turn_of now_at (steps_on now_at.machine (pair_at log i))) (turned_flags_of here t) (noted_all x b)
    comes {t} e d =
        let o = came now_at (flag_step p rom now_at.machine.machine (pair_at log i)) (flag-number p rom now_at.machine.machine (get_or log (2 * i) 0) (get_or log (2 * i + 1) 0)) in
        let w = e ∙ ap (turn_of here) (opened p r mem rom flags (pair_at log i) may) in
        subst (λ (y : NotedAll). Came now_at (turn_of now_at (steps_on now_at.machine (pair_at log i))) (turned_flags_of here t) y) (sym d)
        (subst (λ (y : Turn Flagged). Came now_at (turn_of now_at (steps_on now_at.machine (pair_at log i))) (turned_flags_of here y) (noted_of true (turned_flags_of here y).number i skips listed)) (sym w) o)

    on : (t : Turn Flagged) → Came now_at (turn_of now_at (steps_on now_at.machine (pair_at log i))) (turned_flags_of here t) (noted_all x b) → x.number ≡ 0
        → Flagging p rom log total s₀ (turned_flags_of here t).standing.machine.machine.registers (turned_flags_of here t).standing.machine.machine.memory (turned_flags_of here t).standing.machine.flags (turned_flags_of here t).standing.answers (turned_flags_of here t).standing.given b x.listed (i + 1)
    on t c z = go _ _ _ c z refl
      where
        go : (o : Turn (Skipping Flagged)) (y : TurnedFlags) (u : NotedAll) → Came now_at o y u → u.noted.number ≡ 0
            → turn_of now_at (steps_on now_at.machine (pair_at log i)) ≡ o
            → Flagging p rom log total s₀ y.standing.machine.machine.registers y.standing.machine.machine.memory y.standing.machine.flags y.standing.answers y.standing.given u.skips u.noted.listed (i + 1)
        go (went _) y u takes z w = record { goes_on = going-went steps_on Sort (flag-sound p rom _) g.goes_on h l w }
        go (halted (suc n)) y u ends z w = absurd (let q : ⊥ = omega (arith, z) in q)
        go (halted zero) y u x6 z w = elim x6 [ ]

    -- a refused pair left all as it was
    module _ {n : ℕ} {m f a : List ℕ} (e : halted n ≡ turn_of here (flag_entered_of p r mem rom (pair_at log i) flags)) (same : (m ≡ mem) × ((f ≡ flags) × (a ≡ answers)))
        {k : ℕ} (number : k ≡ n) (noted : noted_all x b ≡ noted_of true k i skips listed) where
      d : noted_all x b ≡ noted_of true n i skips listed
      d = noted ∙ ap (λ (y : ℕ). noted_of true y i skips listed) number

      pub flagging-listed : x.number ≡ 0 → Flagging p rom log total s₀ r m f a given b x.listed (i + 1)
      flagging-listed z =
          subst (λ (y : List ℕ). Flagging p rom log total s₀ r y f a given b x.listed (i + 1)) (sym same.0)
          (subst (λ (y : List ℕ). Flagging p rom log total s₀ r mem y a given b x.listed (i + 1)) (sym same.1.0)
          (subst (λ (y : List ℕ). Flagging p rom log total s₀ r mem flags y given b x.listed (i + 1)) (sym same.1.1) (on (halted n) (comes e d) z)))

      pub flagging-stops : (x.number ≡ 0 → ⊥)
          → {y : RanOn} → y ≡ record { ran = record { number = x.number; place = i; taken = i; answers = given; registers = r }; skipped = x.listed }
          → ran_flags y m a b f ≡ ran_flags_of (run_from steps_on 0 (take total (pairs_of log)) s₀)
      flagging-stops z {y} q = (λ j. ran_flags (q j) (same.0 j) (same.1.1 j) b (same.1.0 j)) ∙ go _ _ _ (comes e d) z refl
        where
          go : (o : Turn (Skipping Flagged)) (y : TurnedFlags) (u : NotedAll) → Came now_at o y u → (u.noted.number ≡ 0 → ⊥)
              → turn_of now_at (steps_on now_at.machine (pair_at log i)) ≡ o
              → ran_flags (record { ran = record { number = u.noted.number; place = i; taken = i; answers = y.standing.given; registers = y.standing.machine.machine.registers }; skipped = u.noted.listed }) y.standing.machine.machine.memory y.standing.answers u.skips y.standing.machine.flags
              ≡ ran_flags_of (run_from steps_on 0 (take total (pairs_of log)) s₀)
          go (went _) y u takes z w = absurd (z refl)
          go (halted (suc n)) y u ends z w = ap ran_flags_of (going-halts steps_on Sort (flag-sound p rom _) g.goes_on h l w)
          go (halted zero) y u x6 z w = elim x6 [ ]

  -- a pair taken
  pub flagging-taken : Following p r mem rom flags → i < total → 2 * total ≤ length log → {t : Taken} {m f a : List ℕ}
      → went (standing_flags t.registers m f a t.given) ≡ turn_of here (flag_entered_of p r mem rom (pair_at log i) flags)
      → Flagging p rom log total s₀ t.registers m f a t.given skips listed (i + 1)
  flagging-taken may h l {t} {m} {f} {a} e = on may h l (went (standing_flags t.registers m f a t.given)) (comes may h l {x = record { listed = listed; number = 0 }} {b = skips} e refl) refl

  -- a pair done apart from the others: no flag is touched
  pub flagging-quick : i < total → 2 * total ≤ length log → {x : Registers} → Quickly r (pair_at log i) x
      → Flagging p rom log total s₀ x mem flags answers given skips listed (i + 1)
  flagging-quick h l {x} k =
      record {
        goes_on = going-went steps_on Sort (flag-sound p rom _) g.goes_on h l
            (ap (λ (o : Step Machine). turn_of now_at (skip_by true now_at.machine (flag_by p (with_flags (machine r mem) flags) (pair_at log i) o))) (k.acts p rom mem)
            ∙ ap (λ (f : List ℕ). went (on_skips (standing_flags x mem f answers given) skips listed (i + 1))) unflagged);
      }
    where
      unaltered : not (same_display r.display x.display) ≡ false
      unaltered = ap (λ (d : Display). not (same_display r.display d)) k.shown ∙ ap not (same-own r.display)

      unflagged : flags_after p (machine r mem) (pair_at log i) (machine x mem) flags ≡ flags
      unflagged =
          flags-after-is p (machine r mem) (pair_at log i) (machine x mem) flags (record { kept = λ y e. refl })
          ∙ (λ j. marked_of p r.display mem r.bus.pointer (k.stores p j) (unaltered j) flags)
          ∙ sym (marks-none p r.display mem r.bus.pointer 0 false flags g.goes_on.sound.long refl)

  -- a block of data in auto write
  pub flagging-block : {b : Bool} → b ≡ is_write r.bus.auto → (eqb (get_or log (2 * i) 0) 0 && b) ≡ true → Following p r mem rom flags
      → {m next : List ℕ} {end : ℕ} {t : Registers} → Stretched p r mem log i total flags m next end → t ≡ passed_of r (end - i)
      → Flagging p rom log total s₀ t m next answers given skips listed end
  flagging-block {b} e w may {m} {next} {end} {t} st f =
      subst (λ (x : Registers). Flagging p rom log total s₀ x m next answers given skips listed end) (sym (f ∙ ap (passed_of r) (omega (arith, reaches))))
      (subst (λ (x : List ℕ). Flagging p rom log total s₀ (passed_of r n) m x answers given skips listed end) (sym flagged)
      (record {
        goes_on = record {
          inside = st.blocked.inside;
          sound = record {
            sound = record { display = g.goes_on.sound.sound.display; bus = g.goes_on.sound.sound.bus; memory = as_long ∙ g.goes_on.sound.sound.memory };
            long = marked-long p r.display m r.bus.pointer n false flags;
            lists = g.goes_on.sound.lists;
            fits = g.goes_on.sound.fits;
          };
          room = g.goes_on.room;
          left = (λ j. run_from steps_on (reaches j) (pairs_from log (reaches j) total) (on_skips (standing_flags (passed_of r n) (st.blocked.holds j) (marked_of p r.display (st.blocked.holds j) r.bus.pointer n false flags) answers given) skips listed (reaches j)))
              ∙ sym
              (ap
              (λ (qs : List Pair). run_from steps_on (i + n) qs
              (on_skips (standing_flags (passed_of r n) whole (marked_of p r.display whole r.bus.pointer n false flags) answers given) skips listed (i + n)))
              (pairs-behind log total i n))
              ∙ sym (flag-block p rom skips listed (pairs_from log i total) i r mem flags answers given i (write-only r.bus.auto (sym e ∙ both_right (eqb (get_or log (2 * i) 0) 0) b w)) st.blocked.low g.goes_on.sound.sound.memory g.goes_on.sound.long)
              ∙ g.goes_on.left;
        };
      }))
    where
      n : ℕ
      n = length (data_of (pairs_from log i total))

      whole : List ℕ
      whole = stored mem r.bus.pointer (data_of (pairs_from log i total))

      reaches : end ≡ i + n
      reaches = st.blocked.reaches

      as_long : length m ≡ length mem
      as_long = ap length st.blocked.holds ∙ stored-length mem r.bus.pointer (data_of (pairs_from log i total))

      flagged : next ≡ marked_of p r.display m r.bus.pointer n false flags
      flagged =
          st.marks ∙ marked-is p r mem rom flags (pair_at log i) may m (end - i) false as_long
          ∙ ap (λ (k : ℕ). marked_of p r.display m r.bus.pointer k false flags) (let q : end - i ≡ n = omega (arith, reaches) in q)
