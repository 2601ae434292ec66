-- The claim: a run leaves the frame right, skipped pairs included.
use Rattle.std.proofs.Common.{◌≡◌, ℕ, suc, ◌+◌, ◌*◌, ◌/◌, ◌%◌, Bool, true, false, cond, ◌&&◌, eqb, ltb, List, [], ◌∷◌, length, take, set, refl, eqb-true}
use lib.Seq.{sets}
use Rattle.ground.proofs.Tests.{both_left, both_right}
use Rattle.state.specs.State.{valid_panel, valid_registers}
use Rattle.display.specs.Frame.{lent_lengths}
use Rattle.effects.specs.Machine.{Machine}
use Rattle.controller.specs.Access.{Pair, Step, done, answered, refused, step_of}
use Rattle.controller.specs.Run.{Standing, Turn, went, halted, turn_of, short, Run, after_turn, run_from, pairs_of}
use Rattle.controller.specs.Skip.{Skipping, skip_step, skip_by}
use Rattle.controller.proofs.Goings.{Leaves}
use Rattle.controller.proofs.Laws.{Sounds, sounds, step-sound}
use Rattle.display.specs.Flagged.{flags_fit}
use Rattle.flags.specs.Flags.{Flagged, flag_by, flag_step}
use Rattle.flags.specs.Claims.{Right}
use Rattle.flags.proofs.Rights.{RightOf, step_right}
use Rattle.watch.specs.Types.{Panel}
use Rattle.watch.specs.Watched.{RanFlags, begun_flags, ran_flags_of, ran_flags_none, flag_run_of}
use Rattle.watch.specs.Claims.{RunRight}

-- what every step keeps, a run keeps
run_holds : {M : Type 0} (step : M → Pair → Step M) (P : M → Type 0) → ((m : M) → P m → (q : Pair) → Leaves P (step m q))
    → (qs : List Pair) (j : ℕ) (s : Standing M) → P s.machine → P (run_from step j qs s).standing.machine
unfolding run_from
run_holds step P keeps [] j s h = h
run_holds {M} step P keeps (q ∷ qs) j s h = go (step s.machine q) (keeps s.machine h q) (λ t k. run_holds step P keeps qs (suc j) t k)
  where
    after : Turn M → Run M
    after o = after_turn o (λ t. run_from step (suc j) qs t) (λ n. record { standing = s; taken = j; end = short n })

    room : (b : Bool) (m : M) (x : ℕ) → P m → ((t : Standing M) → P t.machine → P (run_from step (suc j) qs t).standing.machine)
        → P (after (cond b (went (record { machine = m; answers = set s.answers s.given x; given = s.given + 1 })) (halted 13))).standing.machine
    room true m x k f = f _ k
    room false m x k f = h

    go : (o : Step M) → Leaves P o → ((t : Standing M) → P t.machine → P (run_from step (suc j) qs t).standing.machine) → P (after (turn_of s o)).standing.machine
    go (done m) k f = f _ k
    go (answered m x) k f = room (ltb s.given (length s.answers)) m x k f
    go (refused n) k f = h

-- right, on a machine that may be acted on
pub record Rightly (p : Panel) (rom frame : List ℕ) (f : Flagged) : Type 0 where
  pub sound : Sounds f.machine
  pub right : RightOf p rom frame f

module _ (p : Panel) (rom frame : List ℕ) (v : valid_panel p ≡ true) where
  flag-keeps : (f : Flagged) → Rightly p rom frame f → (q : Pair) → Leaves (Rightly p rom frame) (flag_step p rom f q)
  flag-keeps f k q = go (step_of p rom f.machine q) (step-sound p rom f.machine k.sound q) (step_right p rom frame v f q k.sound.memory k.right)
    where
      go : (o : Step Machine) → Leaves Sounds o → Leaves (RightOf p rom frame) (flag_by p f q o) → Leaves (Rightly p rom frame) (flag_by p f q o)
      go (done t) a b = record { sound = a; right = b }
      go (answered t x) a b = record { sound = a; right = b }
      go (refused n) a b = tt

  skip-keeps : (s : Skipping Flagged) → Rightly p rom frame s.machine → (q : Pair) → Leaves (λ (x : Skipping Flagged). Rightly p rom frame x.machine) (skip_step true (flag_step p rom) s q)
  skip-keeps s k q = go (flag_step p rom s.machine q) (flag-keeps s.machine k q)
    where
      listing : (b : Bool) (n : ℕ) → Leaves (λ (x : Skipping Flagged). Rightly p rom frame x.machine)
          (cond b (done (record { machine = s.machine; skips = sets s.skips (2 * s.listed) (n ∷ s.place ∷ []); listed = s.listed + 1; place = s.place + 1 })) (refused 16))
      listing true n = k
      listing false n = tt

      go : (o : Step Flagged) → Leaves (Rightly p rom frame) o → Leaves (λ (x : Skipping Flagged). Rightly p rom frame x.machine) (skip_by true s o)
      go (done f) h = h
      go (answered f b) h = h
      go (refused n) h = listing (ltb (2 * s.listed + 1) (length s.skips)) n

pub run-right : RunRight
unfolding flag_run_of
run-right p r mem rom log limit answers skips flags frame k = go (valid_panel p && valid_registers r) refl (lent_lengths mem rom && flags_fit p flags) refl (eqb (length log % 2) 0)
  where
    RightIn : RanFlags → Type 0
    RightIn x = Right p x.on.all.ran.registers.display x.on.all.memory rom x.flags frame

    go : (a : Bool) → (valid_panel p && valid_registers r) ≡ a → (b : Bool) → (lent_lengths mem rom && flags_fit p flags) ≡ b → (c : Bool)
        → RightIn (cond a (cond b (cond c (ran_flags_of (run_from (skip_step true (flag_step p rom)) 0 (take limit (pairs_of log)) (begun_flags r mem answers skips flags))) (ran_flags_none 8 (length log / 2) r mem answers skips flags)) (ran_flags_none 2 0 r mem answers skips flags)) (ran_flags_none 1 0 r mem answers skips flags))
    go true e true h true =
        (run_holds (skip_step true (flag_step p rom)) (λ (x : Skipping Flagged). Rightly p rom frame x.machine) (skip-keeps p rom frame (both_left (valid_panel p) (valid_registers r) e))
        (take limit (pairs_of log)) 0 (begun_flags r mem answers skips flags)
        (record {
          sound = sounds r mem (both_right (valid_panel p) (valid_registers r) e) (eqb-true (length mem) 65536 (both_left (eqb (length mem) 65536) (eqb (length rom) 1024) (both_left (lent_lengths mem rom) (flags_fit p flags) h)));
          right = k;
        })
        ).right
    go true e true h false = k
    go true e false h c = k
    go false e b h c = k
