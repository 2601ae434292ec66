-- An inspection pair by pair, and its door.
use Rattle.std.proofs.Common.{Some, None, Ok, Err, zero, suc, drop, get_or-take, get_or-drop}
use Rattle.std.specs.Simd.{first_chunks}
use mathlib.Core.Path.{◌≡◌, refl, ap, sym, subst, ◌∙◌}
use mathlib.Core.Bool.{true, cond, ◌&&◌}
use mathlib.Core.List.{List, []}
use Prim.Native.Nat.{ℕ, ◌+◌, ◌*◌, ◌/◌, ◌<◌, ◌≤◌}
use native.Mathlib.Omega.{arith}
use lib.ListN.{length, get_or}
use lib.Seq.{take_all}
use borrow.Author.Tests.{eq-eqb, ne_eqb}
use Rattle.ground.proofs.Tests.{both, settled}
use Rattle.state.specs.State.{valid_panel, valid_registers}
use Rattle.display.specs.Frame.{lent_lengths}
use Rattle.effects.specs.Machine.{Machine, machine}
use Rattle.controller.specs.Access.{Pair, Step, done, answered, refused, step_of}
use Rattle.controller.specs.Run.{pairs_of, Standing, turn_of, whole, run_from}
use Rattle.controller.specs.Ready.{Runs}
use Rattle.controller.proofs.Blocks.{pair_at}
use Rattle.controller.proofs.Laws.{Sounds, sounds, sounds-valid, step-sound}
use Rattle.controller.proofs.Goings.{Leaves, Going, going, going-ends, going-halts, going_done}
use Rattle.controller.proofs.Readied.{runs-lengths}
use Rattle.controller.proofs.Runs.{pairs-length}
use Rattle.single.specs.Outcome.{outcome, entered_of}
use Rattle.state.specs.Refusals.{number_of}
use Rattle.state.specs.declared.refusal.Refusal.{Refusal}
use Rattle.state.proofs.RefusalNumbers.{not_zero, same_number}
use Rattle.std.proofs.Common.{Option, Result}
use mathlib.Core.Bool.{true≢false}
use Rattle.state.specs.declared.refusal.Refused.{Refused}
use Rattle.inspection.specs.declared.look.Findings.{Findings}
use Rattle.inspection.specs.Named.{Named, At, Nothing, is_nothing, named_by, inspected}
use Rattle.inspection.specs.Types.{Panel, Registers, Looked, Inspected}
use Rattle.inspection.specs.Look.{look_asked, look_answered, unseen, Watched, watch_by, watch_step}
use Rattle.inspection.specs.Inspected.{InspectedAll, inspected_all, unnamed, named, inspected_of, begun_watch, inspect_of}

-- what is kept: a sound controller
pub record Watchable (s : Watched) : Type 0 where
  pub sound : Sounds s.machine

watch-sound : (p : Panel) (rom recorded : List ℕ) (s : Watched) → Watchable s → (q : Pair) → Leaves Watchable (watch_step p rom recorded s q)
watch-sound p rom recorded s k q = go (step_of p rom s.machine q) (step-sound p rom s.machine k.sound q)
  where
    go : (o : Step Machine) → Leaves Sounds o → Leaves Watchable (watch_by recorded s q o)
    go (done m) l = record { sound = l }
    go (answered m b) l = record { sound = l }
    go (refused n) l = tt

abbrev pub standing_by : Registers → List ℕ → Looked → ℕ → ℕ → Standing Watched
standing_by r m seen given i =
    record { machine = record { machine = machine r m; looked = seen; place = i; given = given }; answers = []; given = 0 }

-- before pair i
pub record Watching (p : Panel) (rom recorded log : List ℕ) (total : ℕ) (s₀ : Standing Watched) (r : Registers) (m : List ℕ) (seen : Looked) (given i : ℕ) : Type 0 where
  pub goes_on : Going (watch_step p rom recorded) Watchable log total s₀ (standing_by r m seen given i) i
  pub fewer : given ≤ i

pub watching : (p : Panel) (rom recorded log : List ℕ) (total : ℕ) (r : Registers) (m : List ℕ) {seen : Looked} → seen ≡ unseen → Runs p r m rom
    → Watching p rom recorded log total (begun_watch r m) r m seen 0 0
watching p rom recorded log total r m {seen} e k =
    subst (λ (x : Looked). Watching p rom recorded log total (begun_watch r m) r m x 0 0) (sym e)
    (record {
      goes_on = going (watch_step p rom recorded) Watchable (watch-sound p rom recorded) log total (begun_watch r m) (record { sound = sounds r m k.state (runs-lengths k).0 });
      fewer = omega arith;
    })

module _ {p : Panel} {rom recorded log : List ℕ} {total : ℕ} {s₀ : Standing Watched} {r : Registers} {m : List ℕ} {seen : Looked} {given i : ℕ}
    (g : Watching p rom recorded log total s₀ r m seen given i) where
  pub watching-valid : valid_registers r ≡ true
  watching-valid = sounds-valid g.goes_on.sound.sound

  -- all pairs taken
  pub watching-ends : total ≤ i → length log / 2 ≤ total
      → inspected_of recorded (record { standing = standing_by r m seen given i; taken = i; end = whole }) ≡ inspected_of recorded (run_from (watch_step p rom recorded) 0 (pairs_of log) s₀)
  watching-ends h l =
      ap (inspected_of recorded)
      (going-ends (watch_step p rom recorded) Watchable (watch-sound p rom recorded) g.goes_on h
      ∙ ap (λ (qs : List Pair). run_from (watch_step p rom recorded) 0 qs s₀) (take_all total (pairs_of log) (omega (arith, pairs-length log))))

  -- as many answers as recorded, or not
  pub watching-names : total ≤ i → length log / 2 ≤ total → length recorded ≡ given
      → inspected_all (named r seen) m ≡ inspected_of recorded (run_from (watch_step p rom recorded) 0 (pairs_of log) s₀)
  watching-names h l e =
      (λ t. inspected_all (cond (sym (eq-eqb (length recorded) given e) t) (named r seen) (unnamed 14 0 r)) m)
      ∙ watching-ends h l

  pub watching-uneven : total ≤ i → length log / 2 ≤ total → (length recorded ≡ given → ⊥)
      → inspected_all (unnamed 14 0 r) m ≡ inspected_of recorded (run_from (watch_step p rom recorded) 0 (pairs_of log) s₀)
  watching-uneven h l e =
      (λ t. inspected_all (cond (sym (ne_eqb (length recorded) given e) t) (named r seen) (unnamed 14 0 r)) m)
      ∙ watching-ends h l

  module _ (v : valid_panel p ≡ true) (characters : length rom ≡ 1024) where
    -- past its door an access is its step
    stepped : {o : Step Machine} → o ≡ entered_of p r m rom (pair_at log i) → o ≡ step_of p rom (machine r m) (pair_at log i)
    unfolding entered_of
    stepped e =
        let lent : lent_lengths m rom ≡ true = both (eq-eqb (length m) 65536 g.goes_on.sound.sound.memory) (eq-eqb (length rom) 1024 characters) in
        e ∙ (λ t. cond (v t && watching-valid t) (cond (lent t) (step_of p rom (machine r m) (pair_at log i)) (refused 2)) (refused 1))

    module _ (h : i < total) (l : 2 * total ≤ length log) where
      -- a refused pair
      pub watching-stops : (e : Refusal) {s : Registers} {m' : List ℕ} → outcome (Err e) s m' ≡ entered_of p r m rom (pair_at log i) → (s ≡ r) × (m' ≡ m) → length log / 2 ≤ total
          → inspected_all (unnamed (number_of e) i s) m' ≡ inspected_of recorded (run_from (watch_step p rom recorded) 0 (pairs_of log) s₀)
      watching-stops e w same few =
          (λ t. inspected_all (unnamed (number_of e) i (same.0 t)) (same.1 t))
          ∙ ap (inspected_of recorded)
          (going-halts (watch_step p rom recorded) Watchable (watch-sound p rom recorded) g.goes_on h l
          (ap (λ (o : Step Machine). turn_of (standing_by r m seen given i) (watch_by recorded (standing_by r m seen given i).machine (pair_at log i) o)) (sym (stepped w)))
          ∙ ap (λ (qs : List Pair). run_from (watch_step p rom recorded) 0 qs s₀) (take_all total (pairs_of log) (omega (arith, pairs-length log))))

      -- a pair that answers nothing
      pub watching-acts : {s : Registers} {m' : List ℕ} → outcome (Ok None) s m' ≡ entered_of p r m rom (pair_at log i) → {k : ℕ} → k ≡ get_or recorded given 0 → {next : Looked}
          → next ≡ look_asked r.bus.auto (get_or log (2 * i) 0) k i seen
          → Watching p rom recorded log total s₀ s m' next given (i + 1)
      watching-acts {s} {m'} w b f =
          subst (λ (x : Looked). Watching p rom recorded log total s₀ s m' x given (i + 1)) (sym (f ∙ ap (λ (k : ℕ). look_asked r.bus.auto (get_or log (2 * i) 0) k i seen) b))
          (record {
            goes_on = going_done (watch_step p rom recorded) Watchable (watch-sound p rom recorded) g.goes_on h l (get_or log (2 * i) 0) refl
                (ap (watch_by recorded (standing_by r m seen given i).machine (pair_at log i)) (sym (stepped w)));
            fewer = omega (arith, g.fewer);
          })

      -- a read
      pub watching-reads : (b : ℕ) {s : Registers} {m' : List ℕ} → outcome (Ok (Some b)) s m' ≡ entered_of p r m rom (pair_at log i) → {k : ℕ} → k ≡ get_or recorded given 0 → {next after : Looked}
          → next ≡ look_asked r.bus.auto (get_or log (2 * i) 0) k i seen
          → after ≡ look_answered k b given next
          → Watching p rom recorded log total s₀ s m' after (given + 1) (i + 1)
      watching-reads b {s} {m'} w at f k =
          subst (λ (x : Looked). Watching p rom recorded log total s₀ s m' x (given + 1) (i + 1))
          (sym (k ∙ (λ t. look_answered (at t) b given ((f ∙ ap (λ (k : ℕ). look_asked r.bus.auto (get_or log (2 * i) 0) k i seen) at) t))))
          (record {
            goes_on = going_done (watch_step p rom recorded) Watchable (watch-sound p rom recorded) g.goes_on h l (get_or log (2 * i) 0) refl
                (ap (watch_by recorded (standing_by r m seen given i).machine (pair_at log i)) (sym (stepped w)));
            fewer = omega (arith, g.fewer);
          })

-- element j of pair i of a log cut into pairs
in-pair : (k : ℕ) (log : List ℕ) (i j : ℕ) → i < k → j < 2 → get_or (get_or (first_chunks 2 k log) i []) j 0 ≡ get_or log (2 * i + j) 0
in-pair zero log i j h l = elim h [ ]
in-pair (suc k) log zero j h l = get_or-take 2 log j 0 l ∙ ap (λ (m : ℕ). get_or log m 0) (omega arith)
in-pair (suc k) log (suc i) j h l =
    in-pair k (drop 2 log) i j (omega arith) l ∙ get_or-drop 2 log (2 * i + j) 0 ∙ ap (λ (m : ℕ). get_or log m 0) (omega arith)

-- and pair i
pub pair-is : (log : List ℕ) (i : ℕ) → i < length log / 2 → {pairs : List (List ℕ)} → pairs ≡ first_chunks 2 (length log / 2) log
    → record { kind = get_or (get_or pairs i []) 0 0; byte = get_or (get_or pairs i []) 1 0 } ≡ pair_at log i
pair-is log i h {pairs} e =
    let kind : get_or (get_or (first_chunks 2 (length log / 2) log) i []) 0 0 ≡ get_or log (2 * i) 0 =
    in-pair (length log / 2) log i 0 h (omega arith) ∙ ap (λ (m : ℕ). get_or log m 0) (omega arith) in
    λ t. record {
      kind = ((λ u. get_or (get_or (e u) i []) 0 0) ∙ kind) t;
      byte = ((λ u. get_or (get_or (e u) i []) 1 0) ∙ in-pair (length log / 2) log i 1 h (omega arith)) t;
    }

-- two replies that meet the promise are equal
pub inspect-settled : {x y : Inspected} {m n : List ℕ} (p : Panel) (r : Registers) (mem rom log recorded : List ℕ)
    → inspected_all x m ≡ inspect_of p r mem rom log recorded → inspected_all y n ≡ inspect_of p r mem rom log recorded → (x ≡ y) × (m ≡ n)
inspect-settled p r mem rom log recorded h k =
    let e = settled h k in (ap (λ (o : InspectedAll). o.inspected) e, ap (λ (o : InspectedAll). o.memory) e)

abbrev place_in : Named → ℕ
place_in (At n) = n
place_in Nothing = 0

same_named : (a b : Option ℕ) → named_by a ≡ named_by b → a ≡ b
same_named None None h = refl
same_named (Some m) (Some n) h = ap Some (ap place_in h)
same_named None (Some n) h = absurd (true≢false (ap is_nothing h))
same_named (Some m) None h = absurd (true≢false (ap is_nothing (sym h)))

same_inspected : (x y : Result Findings Refused) (r s : Registers) → inspected x r ≡ inspected y s → (x ≡ y) × (r ≡ s)
same_inspected (Ok f) (Ok g) r s h =
    let a = same_named f.unasked g.unasked (ap (λ (o : Inspected). o.unasked) h) in
    let b = same_named f.wrong g.wrong (ap (λ (o : Inspected). o.wrong) h) in
    ((λ i. Ok (record { unasked = a i; wrong = b i })), ap (λ (o : Inspected). o.registers) h)
same_inspected (Ok f) (Err e) r s h = absurd (not_zero e.refusal (ap (λ (o : Inspected). o.number) (sym h)))
same_inspected (Err d) (Ok g) r s h = absurd (not_zero d.refusal (ap (λ (o : Inspected). o.number) h))
same_inspected (Err d) (Err e) r s h =
    let n = same_number d.refusal e.refusal (ap (λ (o : Inspected). o.number) h) in
    let p = ap (λ (o : Inspected). o.place) h in
    ((λ i. Err (record { refusal = n i; place = p i })), ap (λ (o : Inspected). o.registers) h)

-- and so are the results that stand for them, and the registers
pub inspect-result-settled : {x y : Result Findings Refused} {r₁ r₂ : Registers} {m n : List ℕ} (p : Panel) (r : Registers) (mem rom log recorded : List ℕ)
    → inspected_all (inspected x r₁) m ≡ inspect_of p r mem rom log recorded → inspected_all (inspected y r₂) n ≡ inspect_of p r mem rom log recorded
    → ((x ≡ y) × (r₁ ≡ r₂)) × (m ≡ n)
inspect-result-settled {x} {y} {r₁} {r₂} p r mem rom log recorded h k =
    let s = inspect-settled p r mem rom log recorded h k in (same_inspected x y r₁ r₂ s.0, s.1)
