-- What a refusal leaves: on 1 and 2 every buffer, on a refused access and a refused frame too.
use mathlib.Core.Path.{◌≡◌, refl, ap, sym, ◌∙◌}
use mathlib.Core.Bool.{true, false, ◌&&◌, ◌||◌, false≢true}
use mathlib.Core.List.{List, [], ◌∷◌}
use mathlib.Core.Logic.{◌⊎◌, inl, inr}
use Prim.Native.Nat.{ℕ, suc, ◌+◌, ◌*◌, ◌%◌, ◌<◌}
use native.Mathlib.Omega.{arith}
use lib.Dec.{ltb, leb, eqb}
use lib.ListN.{length, get_or, take}
use Rattle.ground.proofs.Tests.{cond_has}
use Rattle.ground.specs.Bytes.{word_of}
use Rattle.codes.specs.Command.{needed_of, is_off, ends_auto, decode_of}
use Rattle.state.specs.State.{valid_panel, valid_registers}
use Rattle.display.specs.Frame.{lent_lengths, frame_fits, Painted, paint_of}
use Rattle.controller.specs.Types.{Auto, Off, Write, Read, Decoded, Defined, Undefined}
use Rattle.controller.specs.Access.{Pair, Step, done, answered, refused, command_of, data_write_of, data_read_of, step_of, Accessed, acted_of, access_of}
use Rattle.effects.specs.Machine.{Machine, machine}
use Rattle.controller.specs.Run.{pairs_of, Standing, Turn, went, halted, turn_of, short, after_turn, run_from, end_number, RanAll, stopping_of}
use Rattle.controller.specs.Skip.{Skipping, skip_by, skip_step, begun_on, RanOnAll, either_run, run_of}
use Rattle.boundary.specs.Types.{Panel, Registers, Entry, State, Refused}
use Rattle.image.specs.Image.{bytes_of}
use Rattle.image.specs.Door.{door_of, closes, kept_of}
use Rattle.boundary.specs.Exports.{access_by, access_bytes, RunEnd, stopping_done, stopping_by, stopping_bytes, RunOnEnd, run_on_done, run_on_by, run_on_bytes, paint_by, paint_bytes}
use Rattle.image.proofs.Doors.{entered-length, entered-readable, entered-state, written-closed}
use Rattle.image.proofs.Images.{bytes_back}

-- an access that is refused gives the registers and the memory that it got
module _ (p : Panel) (r : Registers) (mem rom : List ℕ) (q : Pair) where
  Stands : Accessed → Type 0
  Stands o = (o.acted.number ≡ 0) ⊎ ((o.acted.registers ≡ r) × (o.memory ≡ mem))

  acted-stands : (s : Step Machine) → Stands (acted_of r mem s)
  unfolding Stands
  acted-stands (done s) = inl refl
  acted-stands (answered s b) = inl refl
  acted-stands (refused n) = inr (refl, refl)

  access-stands : Stands (access_of p r mem rom q)
  unfolding access_of Stands
  access-stands =
      cond_has Stands (valid_panel p && valid_registers r)
      (cond_has Stands (lent_lengths mem rom) (acted-stands (step_of p rom (machine r mem) q)) (inr (refl, refl)))
      (inr (refl, refl))

module _ (p : Panel) (b mem rom : List ℕ) (q : Pair) (h : (i : ℕ) → get_or b i 0 < 256) where
  -- the registers buffer after a refused access, written back or not
  kept : {x : Entry} {r s : Registers} (n : ℕ) → x ≡ door_of p true b → x ≡ State r → s ≡ r → kept_of n s b ≡ b
  kept {s = s} n e k f =
      cond_has (λ (l : List ℕ). l ≡ b) (closes n) refl
      (cond_has (λ (l : List ℕ). l ≡ b) (eqb (length b) (length (bytes_of s)))
      (ap bytes_of (f ∙ sym (entered-state p true b e k)) ∙ bytes_back b (entered-length p true b e k) (entered-readable p true b e k) h)
      refl)

  -- a number but 0 leaves registers and memory
  pub access-untouched : ((access_bytes p b mem rom q).result % 256 ≡ 0 → ⊥)
      → ((access_bytes p b mem rom q).registers ≡ b) × ((access_bytes p b mem rom q).memory ≡ mem)
  unfolding access_bytes Stands
  access-untouched = go (door_of p true b) refl
    where
      of : (r : Registers) (o : Accessed) → door_of p true b ≡ State r → Stands p r mem rom q o → (word_of o.acted.number o.acted.answer % 256 ≡ 0 → ⊥)
          → (kept_of o.acted.number o.acted.registers b ≡ b) × (o.memory ≡ mem)
      of r o e (inl z) k = absurd (k (omega arith))
      of r o e (inr s) k = (kept o.acted.number refl e s.0, s.1)

      go : (x : Entry) → door_of p true b ≡ x → ((access_by x p b mem rom q).result % 256 ≡ 0 → ⊥)
          → ((access_by x p b mem rom q).registers ≡ b) × ((access_by x p b mem rom q).memory ≡ mem)
      go (Refused n) e k = (refl, refl)
      go (State r) e k = of r (access_of p r mem rom q) e (access-stands p r mem rom q) k

-- a frame that is refused stays
pub paint-untouched : (p : Panel) (b mem rom frame : List ℕ) → ((paint_bytes p b mem rom frame).number ≡ 0 → ⊥) → (paint_bytes p b mem rom frame).frame ≡ frame
unfolding paint_bytes paint_of
paint-untouched p b mem rom frame = go (door_of p true b)
  where
    go : (x : Entry) → ((paint_by x p mem rom frame).number ≡ 0 → ⊥) → (paint_by x p mem rom frame).frame ≡ frame
    go (Refused n) = λ k. refl
    go (State r) =
        cond_has (λ (o : Painted). (o.reply.number ≡ 0 → ⊥) → o.frame ≡ frame) (valid_panel p && valid_registers r)
        (cond_has (λ (o : Painted). (o.reply.number ≡ 0 → ⊥) → o.frame ≡ frame) (lent_lengths mem rom && frame_fits p frame) (λ k. absurd (k refl)) (λ k. refl))
        (λ k. refl)

-- no pair is refused by 1 or 2
Late : {M : Type 0} → Step M → Type 0
Late (done s) = Unit {0}
Late (answered s b) = Unit {0}
Late (refused n) = closes n ≡ false

LateTurn : {M : Type 0} → Turn M → Type 0
LateTurn (went s) = Unit {0}
LateTurn (halted n) = closes n ≡ false

module _ (p : Panel) (rom : List ℕ) where
  step-late : (s : Machine) (q : Pair) → Late (step_of p rom s q)
  unfolding Late
  step-late s q =
      cond_has Late (eqb q.kind 0) (write-late s.registers.bus.auto)
      (cond_has Late (eqb q.kind 1) (command-late (decode_of q.byte))
      (cond_has Late (eqb q.kind 2) (read-late s.registers.bus.auto)
      (cond_has Late (eqb q.kind 3) tt (cond_has Late (eqb q.kind 4) tt refl))))
    where
      write-late : (a : Auto) → Late (data_write_of a s q.byte)
      write-late Off = tt
      write-late Write = tt
      write-late Read = refl

      read-late : (a : Auto) → Late (data_read_of a s)
      read-late Off = tt
      read-late Write = refl
      read-late Read = tt

      command-late : (d : Decoded) → Late (command_of p rom s d)
      command-late Undefined = refl
      command-late (Defined k) =
          cond_has Late (ends_auto k || is_off s.registers.bus.auto)
          (cond_has Late (leb (needed_of k) s.registers.bus.pending.count) tt refl) refl

-- nor a run over any such step
module _ {M : Type 0} where
  turn-late : (s : Standing M) (o : Step M) → Late o → LateTurn (turn_of s o)
  unfolding Late LateTurn
  turn-late s (done m) k = tt
  turn-late s (answered m b) k = cond_has LateTurn (ltb s.given (length s.answers)) tt refl
  turn-late s (refused n) k = k

  run-late : (step : M → Pair → Step M) → ((s : M) (q : Pair) → Late (step s q)) → (qs : List Pair) (k : ℕ) (s : Standing M) → closes (end_number (run_from step k qs s).end) ≡ false
  unfolding run_from LateTurn
  run-late step late [] k s = refl
  run-late step late (q ∷ qs) k s = go (turn_of s (step s.machine q)) (turn-late s (step s.machine q) (late s.machine q)) (run-late step late qs (suc k))
    where
      go : (o : Turn M) → LateTurn o → ((t : Standing M) → closes (end_number (run_from step (suc k) qs t).end) ≡ false)
          → closes (end_number (after_turn o (λ t. run_from step (suc k) qs t) (λ n. record { standing = s; taken = k; end = short n })).end) ≡ false
      go (went t) h rest = rest t
      go (halted n) h rest = h

  skip-late : (s : Skipping M) (o : Step M) → Late o → Late (skip_by true s o)
  unfolding Late
  skip-late s (done m) k = tt
  skip-late s (answered m b) k = tt
  skip-late s (refused n) k = cond_has Late (ltb (2 * s.listed + 1) (length s.skips)) tt refl

-- 1 and 2 leave every buffer of a run
module _ (p : Panel) (b mem rom log : List ℕ) (limit : ℕ) (answers k : List ℕ) where
  Stays : RanAll → Type 0
  Stays o = closes o.ran.number ≡ true → (o.memory ≡ mem) × (o.answers ≡ answers)

  stopping-stays : (r : Registers) → Stays (stopping_of p r mem rom log limit answers)
  unfolding stopping_of Stays
  stopping-stays r =
      cond_has Stays (valid_panel p && valid_registers r)
      (cond_has Stays (lent_lengths mem rom)
      (cond_has Stays (eqb (length log % 2) 0)
      (λ e. absurd (false≢true (sym (run-late (step_of p rom) (step-late p rom) (take limit (pairs_of log)) 0 (record { machine = machine r mem; answers = answers; given = 0 })) ∙ e)))
      (λ e. (refl, refl)))
      (λ e. (refl, refl)))
      (λ e. (refl, refl))

  pub record RunStays (o : RunEnd) : Type 0 where
    pub registers : o.registers ≡ b
    pub memory : o.memory ≡ mem
    pub answered : o.answers ≡ answers
    pub counts : o.counts ≡ k

  pub stopping-untouched : closes (stopping_bytes p b mem rom log limit answers k).number ≡ true → RunStays (stopping_bytes p b mem rom log limit answers k)
  unfolding stopping_bytes Stays
  stopping-untouched = go (door_of p (eqb (length k) 3) b)
    where
      of : (o : RanAll) → Stays o → closes o.ran.number ≡ true → RunStays (stopping_done b k o)
      of o s e =
          record {
            registers = sym (written-closed o.ran.number (bytes_of o.ran.registers) b e);
            memory = (s e).0;
            answered = (s e).1;
            counts = sym (written-closed o.ran.number (o.ran.place ∷ o.ran.taken ∷ o.ran.answers ∷ []) k e);
          }

      go : (x : Entry) → closes (stopping_by x p b mem rom log limit answers k).number ≡ true → RunStays (stopping_by x p b mem rom log limit answers k)
      go (Refused n) e = record { registers = refl; memory = refl; answered = refl; counts = refl }
      go (State r) e = of (stopping_of p r mem rom log limit answers) (stopping-stays r) e

-- and of an ordinary run
module _ (p : Panel) (b mem rom log : List ℕ) (limit : ℕ) (answers skips k : List ℕ) where
  StaysOn : RanOnAll → Type 0
  StaysOn o = closes o.all.ran.number ≡ true → (o.all.memory ≡ mem) × (o.all.answers ≡ answers) × (o.skips ≡ skips)

  run-stays : (r : Registers) → StaysOn (run_of p r mem rom log limit answers skips)
  unfolding either_run StaysOn
  run-stays r =
      cond_has StaysOn (valid_panel p && valid_registers r)
      (cond_has StaysOn (lent_lengths mem rom)
      (cond_has StaysOn (eqb (length log % 2) 0)
      (λ e. absurd (false≢true (sym (run-late (skip_step true (step_of p rom)) (λ s q. skip-late s (step_of p rom s.machine q) (step-late p rom s.machine q)) (take limit (pairs_of log)) 0 (begun_on r mem answers skips)) ∙ e)))
      (λ e. (refl, refl, refl)))
      (λ e. (refl, refl, refl)))
      (λ e. (refl, refl, refl))

  pub record RunOnStays (o : RunOnEnd) : Type 0 where
    pub registers : o.registers ≡ b
    pub memory : o.memory ≡ mem
    pub answered : o.answers ≡ answers
    pub listed : o.skips ≡ skips
    pub counts : o.counts ≡ k

  pub run-untouched : closes (run_on_bytes p b mem rom log limit answers skips k).number ≡ true → RunOnStays (run_on_bytes p b mem rom log limit answers skips k)
  unfolding run_on_bytes StaysOn
  run-untouched = go (door_of p (eqb (length k) 4) b)
    where
      of : (o : RanOnAll) → StaysOn o → closes o.all.ran.number ≡ true → RunOnStays (run_on_done b k o)
      of o s e =
          record {
            registers = sym (written-closed o.all.ran.number (bytes_of o.all.ran.registers) b e);
            memory = (s e).0;
            answered = (s e).1;
            listed = (s e).2;
            counts = sym (written-closed o.all.ran.number (o.all.ran.place ∷ o.all.ran.taken ∷ o.all.ran.answers ∷ o.skipped ∷ []) k e);
          }

      go : (x : Entry) → closes (run_on_by x p b mem rom log limit answers skips k).number ≡ true → RunOnStays (run_on_by x p b mem rom log limit answers skips k)
      go (Refused n) e = record { registers = refl; memory = refl; answered = refl; listed = refl; counts = refl }
      go (State r) e = of (run_of p r mem rom log limit answers skips) (run-stays r) e
