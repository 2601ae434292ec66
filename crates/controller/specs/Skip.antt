-- 02, Req 09: a run that goes on after a refusal.
use Rattle.std.specs.Prelude.{ℕ, zero, suc, ◌+◌, ◌*◌, ◌/◌, ◌%◌, Bool, true, cond, ◌&&◌, List, [], ◌∷◌, ltb, eqb, length, take}
use Rattle.std.proofs.lemmas.List.Edits.{sets}
use Rattle.state.specs.State.{valid_panel, valid_registers}
use Rattle.display.specs.Frame.{lent_lengths}
use Rattle.effects.specs.Machine.{Machine, machine}
use Rattle.controller.specs.Types.{Panel, Registers, RanOn}
use Rattle.controller.specs.Access.{Pair, Step, done, answered, refused, step_of}
use Rattle.controller.specs.Run.{pairs_of, Standing, Run, run_from, RanAll, ran_all, ran_of, ran_none}

-- a machine whose refused pairs are listed: number and place, entry after entry; how many; the pair to come
pub record Skipping (M : Type 0) : Type 0 where
  pub machine : M
  pub skips : List ℕ
  pub listed : ℕ
  pub place : ℕ

-- a pair taken: the list as it was
abbrev pub passed_by : {M : Type 0} → Skipping M → M → Skipping M
passed_by s m = record { machine = m; skips = s.skips; listed = s.listed; place = s.place + 1 }

-- a refused pair leaves everything as it was before it, and is listed; 16 where the list is full, before the pair it couldn't list
abbrev pub skipped : {M : Type 0} → Skipping M → ℕ → Step (Skipping M)
skipped s n =
    cond (ltb (2 * s.listed + 1) (length s.skips))
    (done (record { machine = s.machine; skips = sets s.skips (2 * s.listed) (n ∷ s.place ∷ []); listed = s.listed + 1; place = s.place + 1 }))
    (refused 16)

-- what a step comes to; where skipping is off a refusal refuses
abbrev pub skip_by : {M : Type 0} → Bool → Skipping M → Step M → Step (Skipping M)
skip_by on s (done m) = done (passed_by s m)
skip_by on s (answered m b) = answered (passed_by s m) b
skip_by on s (refused n) = cond on (skipped s n) (refused n)

abbrev pub skip_step : {M : Type 0} → Bool → (M → Pair → Step M) → Skipping M → Pair → Step (Skipping M)
skip_step on step s q = skip_by on s (step s.machine q)

-- none listed yet
abbrev pub begun_on : Registers → List ℕ → List ℕ → List ℕ → Standing (Skipping Machine)
begun_on r mem answers skips =
    record { machine = record { machine = machine r mem; skips = skips; listed = 0; place = 0 }; answers = answers; given = 0 }

-- a run's reply and buffers, the entries listed and the list
pub record RanOnAll : Type 0 where
  pub all : RanAll
  pub skipped : ℕ
  pub skips : List ℕ

abbrev pub ran_on_all : RanOn → List ℕ → List ℕ → List ℕ → RanOnAll
ran_on_all x memory answers skips = record { all = ran_all x.ran memory answers; skipped = x.skipped; skips = skips }

abbrev pub ran_on_of : Run (Skipping Machine) → RanOnAll
ran_on_of e =
    record {
      all = ran_of (record {
        standing = record { machine = e.standing.machine.machine; answers = e.standing.answers; given = e.standing.given };
        taken = e.taken;
        end = e.end;
      });
      skipped = e.standing.machine.listed;
      skips = e.standing.machine.skips;
    }

abbrev pub ran_on_none : ℕ → ℕ → Registers → List ℕ → List ℕ → List ℕ → RanOnAll
ran_on_none n place r mem answers skips = record { all = ran_none n place r mem answers; skipped = 0; skips = skips }

-- 1, 2 and 8 as document 01's run; then at most limit pairs
unfoldable pub either_run : Bool → Panel → Registers → List ℕ → List ℕ → List ℕ → ℕ → List ℕ → List ℕ → RanOnAll
either_run on p r mem rom log limit answers skips =
    cond (valid_panel p && valid_registers r)
    (cond (lent_lengths mem rom)
    (cond (eqb (length log % 2) 0)
    (ran_on_of (run_from (skip_step on (step_of p rom)) 0 (take limit (pairs_of log)) (begun_on r mem answers skips)))
    (ran_on_none 8 (length log / 2) r mem answers skips))
    (ran_on_none 2 0 r mem answers skips))
    (ran_on_none 1 0 r mem answers skips)

-- the ordinary run skips what is refused
abbrev pub run_of : Panel → Registers → List ℕ → List ℕ → List ℕ → ℕ → List ℕ → List ℕ → RanOnAll
run_of = either_run true

-- the first entries of a list, their places n later
unfoldable pub later : ℕ → ℕ → List ℕ → List ℕ
later n zero l = l
later n (suc j) [] = []
later n (suc j) (number ∷ []) = number ∷ []
later n (suc j) (number ∷ (place ∷ l)) = number ∷ (n + place) ∷ later n j l
