-- Played part by part, any log is its run.
use Rattle.std.proofs.Common.{zero, ◌≡◌, ℕ, suc, ◌+◌, ◌/◌, ◌%◌, ◌^◌, ◌<◌, ◌≤◌, Bool, true, false, cond, not, ◌&&◌, eqb, List, [], ◌∷◌, ◌++◌, length, take, sym, refl, ap, ◌∙◌, subst, append-nil, mod-eq_of_lt, arith, length-append, take_all, eq-eqb, ne_eqb, eqb-true}
use lib.Dec.{eqb-suc-zero}
use Rattle.ground.proofs.Tests.{both, both_left, both_right}
use Rattle.state.specs.declared.panel.Panel.{Panel}
use Rattle.state.specs.declared.registers.Registers.{Registers}
use Rattle.state.specs.State.{valid_panel, valid_registers}
use Rattle.display.specs.Frame.{lent_lengths}
use Rattle.effects.specs.Machine.{Machine, machine}
use Rattle.controller.specs.declared.run.Ran.{Ran}
use Rattle.controller.specs.Access.{Pair, step_of}
use Rattle.controller.specs.Run.{pairs_of, End, whole, short, Run, run_from, end_number, end_place, RanAll, ran_of, ran_none, stopping_of}
use Rattle.controller.specs.Ready.{standing}
use Rattle.controller.proofs.Laws.{Sounds, sounds, sounds-valid}
use Rattle.controller.proofs.Runs.{pairs-length}
use Rattle.controller.proofs.Goings.{Ends, all, cut, Kept}
use Rattle.controller.proofs.Splitting.{running-kept, inside}
use Rattle.playback.specs.Play.{PlayedAll, part_of, play_of, closed_of}
use Rattle.playback.specs.Parts.{Part, log_of_parts, Cut, none, one, PartsGathered, gather, play_parts, begun, whole_run, PartByPart, ClosedWhole}
use Rattle.playback.proofs.Plays.{play-refused, play-on}
use Rattle.playback.proofs.Frees.{Free, free, free_from, on_free, shift_free, Counted, Agrees, free-append, free-shift, free-counted, roomy}

-- the pairs of two logs, the first of whole pairs
pairs-append : (a b : List ℕ) → length a % 2 ≡ 0 → pairs_of (a ++ b) ≡ pairs_of a ++ pairs_of b
unfolding pairs_of
pairs-append [] b e = refl
pairs-append (k ∷ []) b e = absurd (omega arith)
pairs-append (k ∷ (x ∷ a)) b e = ap (λ (l : List Pair). record { kind = k; byte = x } ∷ l) (pairs-append a b (omega arith))

parts-even : {ps : List Part} → Cut ps → length (log_of_parts ps) % 2 ≡ 0
unfolding log_of_parts
parts-even none = refl
parts-even (one {q} {qs} e r c) = omega (arith, parts-even c, length-append q.log (log_of_parts qs))

-- what was gathered, as the free run has it
abbrev gathered : Free Machine → PartsGathered
gathered f =
    record {
      ran = record {
        number = end_number f.end;
        place = end_place f.end f.taken;
        taken = f.taken;
        answers = length f.given;
        registers = f.machine.registers;
      };
      memory = f.machine.memory;
      answers = f.given;
    }

-- the whole run, gathered
abbrev ran_gathered : RanAll → PartsGathered
ran_gathered x = record { ran = x.ran; memory = x.memory; answers = take x.ran.answers x.answers }

agrees-gathered : {f : Free Machine} {e : Run Machine} → Agrees f e → gathered f ≡ ran_gathered (ran_of e)
agrees-gathered {f} {e} a =
    λ i. record {
      ran = record {
        number = end_number (sym a.end i);
        place = end_place (sym a.end i) (sym a.taken i);
        taken = sym a.taken i;
        answers = sym a.given i;
        registers = (sym a.machine i).registers;
      };
      memory = (sym a.machine i).memory;
      answers = (sym a.answers ∙ ap (λ (n : ℕ). take n e.standing.answers) (sym a.given)) i;
    }

-- a run that was refused goes no further
stuck : (p : Panel) (rom : List ℕ) (ps : List Part) (g : PartsGathered) → (g.ran.number ≡ 0 → ⊥) → play_parts p rom ps g ≡ g
unfolding play_parts
stuck p rom [] g nz = refl
stuck p rom (q ∷ qs) g nz =
    ap (λ (x : PlayedAll). play_parts p rom qs (gather g.answers x)) (sym (play-refused p g.ran g.memory rom q.log q.room nz))
    ∙ ap (λ (l : List ℕ). play_parts p rom qs (record { ran = g.ran; memory = g.memory; answers = l })) (append-nil g.answers)
    ∙ stuck p rom qs g nz

-- a place and a count behind others
place-on : (k : ℕ) (e : End) (t : ℕ) → Ends e → k + t < 2 ^ 64 → cond (eqb (end_number e) 0) 0 ((k + end_place e t) % 2 ^ 64) ≡ end_place e (k + t)
place-on k whole t all h = refl
place-on k (short (suc n)) t cut h =
    ap (λ (b : Bool). cond b 0 ((k + t) % 2 ^ 64)) (eqb-suc-zero n) ∙ mod-eq_of_lt h
place-on k (short zero) t x4 h = elim x4 [ ]

module _ (k : ℕ) (given : List ℕ) (r : Registers) {f : Free Machine} {e : Run Machine} (a : Agrees f e) (ends : Ends f.end) (h : k + f.taken < 2 ^ 64)
    (g : length given + length f.given < 2 ^ 64) where
  abbrev past : Ran
  past = record { number = 0; place = 0; taken = k; answers = length given; registers = r }

  counted-on : gather given (part_of past (ran_of e)) ≡ gathered (shift_free k given f)
  counted-on =
      λ i. record {
        ran = record {
          number = end_number (a.end i);
          place = (ap (λ (x : End). cond (eqb (end_number x) 0) 0 ((k + end_place x e.taken) % 2 ^ 64)) a.end
              ∙ ap (λ (t : ℕ). cond (eqb (end_number f.end) 0) 0 ((k + end_place f.end t) % 2 ^ 64)) a.taken
              ∙ place-on k f.end f.taken ends h) i;
          taken = (ap (λ (t : ℕ). (k + t) % 2 ^ 64) a.taken ∙ mod-eq_of_lt h) i;
          answers = (ap (λ (n : ℕ). (length given + n) % 2 ^ 64) a.given ∙ mod-eq_of_lt g ∙ sym (length-append given f.given)) i;
          registers = (a.machine i).registers;
        };
        memory = (a.machine i).memory;
        answers = (ap (λ (n : ℕ). given ++ take n e.standing.answers) a.given ∙ ap (λ (l : List ℕ). given ++ l) a.answers) i;
      }

module _ (p : Panel) (rom : List ℕ) (v : valid_panel p ≡ true) (l : length rom ≡ 1024) where
  -- a whole log's run in any room that suffices
  module _ (m : Machine) (sound : Sounds m) (log room : List ℕ) (even : length log % 2 ≡ 0) (r : length log / 2 ≤ length room) where
    abbrev ran : Run Machine
    ran = run_from (step_of p rom) 0 (pairs_of log) (standing m.registers m.memory room 0)

    run_is : stopping_of p m.registers m.memory rom log (length log / 2) room ≡ ran_of ran
    run_is =
        inside p m.registers m.memory rom log (length log / 2) room (both v (sounds-valid sound)) (both (eq-eqb (length m.memory) 65536 sound.memory) (eq-eqb (length rom) 1024 l)) even
        ∙ ap (λ (qs : List Pair). ran_of (run_from (step_of p rom) 0 qs (standing m.registers m.memory room 0)))
        (take_all (length log / 2) (pairs_of log) (omega (arith, pairs-length log)))

    run-free : Agrees (free_from (step_of p rom) 0 (pairs_of log) m []) ran
    run-free = roomy (step_of p rom) (pairs_of log) 0 m [] room (omega (arith, pairs-length log))

    run-keeps : Kept Sounds ran
    run-keeps = running-kept p rom (pairs_of log) 0 (standing m.registers m.memory room 0) sound (omega arith)

  -- what one part adds
  module _ (m : Machine) (k : ℕ) (given : List ℕ) (sound : Sounds m) (few : length given ≤ k) (log room : List ℕ) (even : length log % 2 ≡ 0) (r : length log / 2 ≤ length room)
      (h : k + length log < 2 ^ 64) where
    abbrev own : Free Machine
    own = free_from (step_of p rom) 0 (pairs_of log) m []

    abbrev next : Free Machine
    next = free_from (step_of p rom) k (pairs_of log) m given

    agrees : Agrees own (ran m sound log room even r)
    agrees = run-free m sound log room even r

    counts : Counted 0 (pairs_of log) [] own
    counts = free-counted (step_of p rom) (pairs_of log) 0 m []

    few-pairs : own.taken ≤ length log
    few-pairs = omega (arith, counts.few, pairs-length log)

    few-answers : length own.given ≤ own.taken
    few-answers = omega (arith, counts.each)

    own-ends : Ends own.end
    own-ends = subst Ends agrees.end (run-keeps m sound log room even r).ends

    next-is : shift_free k given own ≡ next
    next-is =
        sym (free-shift (step_of p rom) k given (pairs_of log) 0 m [])
        ∙ (λ i. free_from (step_of p rom) ((let e : k + 0 ≡ k = omega arith in e) i) (pairs_of log) m (append-nil given i))

    next-sound : Sounds next.machine
    next-sound =
        subst (λ (f : Free Machine). Sounds f.machine) next-is (subst Sounds agrees.machine (run-keeps m sound log room even r).sound)

    next-ends : Ends next.end
    next-ends = subst (λ (f : Free Machine). Ends f.end) next-is own-ends

    next-few : length next.given ≤ next.taken
    next-few =
        subst (λ (f : Free Machine). length f.given ≤ f.taken) next-is (rw length-append (omega (arith, few-answers)))

    next-taken : next.taken ≤ k + length log
    next-taken = subst (λ (f : Free Machine). f.taken ≤ k + length log) next-is (omega (arith, few-pairs))

    part-adds : gather given (play_of p (gathered (free m k whole given)).ran m.memory rom log room) ≡ gathered next
    part-adds =
        ap (gather given) (sym (play-on p (gathered (free m k whole given)).ran m.memory rom log room refl (sym (run_is m sound log room even r)) refl))
        ∙ counted-on k given m.registers agrees own-ends (omega (arith, few-pairs)) (omega (arith, few-pairs, few-answers))
        ∙ ap gathered next-is

  -- no part
  ended : (m : Machine) (k : ℕ) (e : End) (given : List ℕ) → gathered (free m k e given) ≡ gathered (on_free (step_of p rom) (pairs_of []) (free m k e given))
  unfolding free_from pairs_of
  ended m k whole given = refl
  ended m k (short n) given = refl

  -- every part
  played : (ps : List Part) (m : Machine) (k : ℕ) (e : End) (given : List ℕ) → Sounds m → Ends e → length given ≤ k → Cut ps → k + length (log_of_parts ps) < 2 ^ 64
      → play_parts p rom ps (gathered (free m k e given)) ≡ gathered (on_free (step_of p rom) (pairs_of (log_of_parts ps)) (free m k e given))
  unfolding play_parts log_of_parts
  played [] m k e given s ends few c h = ended m k e given
  played (q ∷ qs) m k e given s ends few (one even r c) h =
      go e ends (λ f sound stops fewer fits. played qs f.machine f.taken f.end f.given sound stops fewer c fits)
    where
      b : k + length q.log < 2 ^ 64
      b = omega (arith, length-append q.log (log_of_parts qs))

      go : (x : End) → Ends x
          → ((f : Free Machine) → Sounds f.machine → Ends f.end → length f.given ≤ f.taken → f.taken + length (log_of_parts qs) < 2 ^ 64
          → play_parts p rom qs (gathered f) ≡ gathered (on_free (step_of p rom) (pairs_of (log_of_parts qs)) f))
          → play_parts p rom (q ∷ qs) (gathered (free m k x given)) ≡ gathered (on_free (step_of p rom) (pairs_of (q.log ++ log_of_parts qs)) (free m k x given))
      go whole all on =
          ap (play_parts p rom qs) (part-adds m k given s few q.log q.room even r b)
          ∙ on (next m k given s few q.log q.room even r b) (next-sound m k given s few q.log q.room even r b) (next-ends m k given s few q.log q.room even r b) (next-few m k given s few q.log q.room even r b)
          (omega (arith, length-append q.log (log_of_parts qs), next-taken m k given s few q.log q.room even r b))
          ∙ ap gathered (sym (free-append (step_of p rom) (pairs_of q.log) (pairs_of (log_of_parts qs)) k m given))
          ∙ ap (λ (ps : List Pair). gathered (free_from (step_of p rom) k ps m given)) (sym (pairs-append q.log (log_of_parts qs) even))
      go (short (suc n)) cut on = stuck p rom (q ∷ qs) (gathered (free m k (short (suc n)) given)) (λ z. omega arith)
      go (short zero) x10 on = elim x10 [ ]

-- refused at the door: 1 and 2
module _ (p : Panel) (r : Registers) (mem rom log : List ℕ) (limit : ℕ) (answers : List ℕ) where
  pub door-1 : (valid_panel p && valid_registers r) ≡ false → stopping_of p r mem rom log limit answers ≡ ran_none 1 0 r mem answers
  unfolding stopping_of
  door-1 v =
      λ i. cond (v i)
      (cond (lent_lengths mem rom)
      (cond (eqb (length log % 2) 0) (ran_of (run_from (step_of p rom) 0 (take limit (pairs_of log)) (standing r mem answers 0))) (ran_none 8 (length log / 2) r mem answers))
      (ran_none 2 0 r mem answers))
      (ran_none 1 0 r mem answers)

  pub door-2 : (valid_panel p && valid_registers r) ≡ true → lent_lengths mem rom ≡ false → stopping_of p r mem rom log limit answers ≡ ran_none 2 0 r mem answers
  unfolding stopping_of
  door-2 v l =
      λ i. cond (v i)
      (cond (l i)
      (cond (eqb (length log % 2) 0) (ran_of (run_from (step_of p rom) 0 (take limit (pairs_of log)) (standing r mem answers 0))) (ran_none 8 (length log / 2) r mem answers))
      (ran_none 2 0 r mem answers))
      (ran_none 1 0 r mem answers)

  pub door-8 : (valid_panel p && valid_registers r) ≡ true → lent_lengths mem rom ≡ true → (length log % 2 ≡ 0 → ⊥)
      → stopping_of p r mem rom log limit answers ≡ ran_none 8 (length log / 2) r mem answers
  unfolding stopping_of
  door-8 v l e =
      λ i. cond (v i)
      (cond (l i)
      (cond (ne_eqb (length log % 2) 0 e i) (ran_of (run_from (step_of p rom) 0 (take limit (pairs_of log)) (standing r mem answers 0))) (ran_none 8 (length log / 2) r mem answers))
      (ran_none 2 0 r mem answers))
      (ran_none 1 0 r mem answers)

-- refused with the first part, and by all the others left there
refused-first : (p : Panel) (r : Registers) (mem rom : List ℕ) (q : Part) (qs : List Part) (n : ℕ)
    → stopping_of p r mem rom q.log (length q.log / 2) q.room ≡ ran_none (suc n) 0 r mem q.room
    → play_parts p rom (q ∷ qs) (begun r mem) ≡ record { ran = (ran_none (suc n) 0 r mem []).ran; memory = mem; answers = [] }
unfolding play_parts
refused-first p r mem rom q qs n h =
    ap (λ (x : PlayedAll). play_parts p rom qs (gather [] x)) (sym (play-on p (begun r mem).ran mem rom q.log q.room refl (sym h) refl))
    ∙ ap (λ (b : Bool). play_parts p rom qs (record { ran = record { number = suc n; place = cond b 0 0; taken = 0; answers = 0; registers = r }; memory = mem; answers = [] })) (eqb-suc-zero n)
    ∙ stuck p rom qs (record { ran = (ran_none (suc n) 0 r mem []).ran; memory = mem; answers = [] }) (λ z. omega arith)

pub part-by-part : PartByPart
part-by-part p r mem rom answers q qs c room few = go (valid_panel p && valid_registers r) (lent_lengths mem rom) refl refl
  where
    log : List ℕ
    log = log_of_parts (q ∷ qs)

    go : (a b : Bool) → (valid_panel p && valid_registers r) ≡ a → lent_lengths mem rom ≡ b → play_parts p rom (q ∷ qs) (begun r mem) ≡ ran_gathered (whole_run p r mem rom log answers)
    go false b v l =
        refused-first p r mem rom q qs 0 (door-1 p r mem rom q.log (length q.log / 2) q.room v)
        ∙ ap ran_gathered (sym (door-1 p r mem rom log (length log / 2) answers v))
    go true false v l =
        refused-first p r mem rom q qs 1 (door-2 p r mem rom q.log (length q.log / 2) q.room v l)
        ∙ ap ran_gathered (sym (door-2 p r mem rom log (length log / 2) answers v l))
    go true true v l =
        let w : valid_panel p ≡ true = both_left (valid_panel p) (valid_registers r) v in
        let n : length rom ≡ 1024 = eqb-true (length rom) 1024 (both_right (eqb (length mem) 65536) _ l) in
        let s : Sounds (machine r mem) = sounds r mem (both_right (valid_panel p) _ v) (eqb-true (length mem) 65536 (both_left _ (eqb (length rom) 1024) l)) in
        played p rom w n (q ∷ qs) (machine r mem) 0 whole [] s all (omega arith) c (omega arith)
        ∙ agrees-gathered (run-free p rom w n (machine r mem) s log answers (parts-even c) room)
        ∙ ap ran_gathered (sym (run_is p rom w n (machine r mem) s log answers (parts-even c) room))

pub closed-whole : ClosedWhole
closed-whole p r mem rom answers q qs last c lone room few =
    ap (λ (g : PartsGathered). closed_of p r (length mem) (length rom) (length (log ++ last)) g.ran) (part-by-part p r mem rom answers q qs c room few)
    ∙ go last lone (valid_panel p && valid_registers r) (lent_lengths mem rom) refl refl
  where
    log : List ℕ
    log = log_of_parts (q ∷ qs)

    so : Ran
    so = (whole_run p r mem rom log answers).ran

    odd : List ℕ → Ran
    odd x = record { number = 8; place = length (log ++ x) / 2; taken = 0; answers = 0; registers = r }

    go : (x : List ℕ) → length x ≤ 1 → (a b : Bool) → (valid_panel p && valid_registers r) ≡ a → lent_lengths mem rom ≡ b
        → closed_of p r (length mem) (length rom) (length (log ++ x)) so ≡ (whole_run p r mem rom (log ++ x) answers).ran
    go x h false b v l =
        (λ i. cond (v i && lent_lengths mem rom && not (eqb (length (log ++ x) % 2) 0)) (odd x) so)
        ∙ ap (λ (e : RanAll). e.ran) (door-1 p r mem rom log (length log / 2) answers v ∙ sym (door-1 p r mem rom (log ++ x) (length (log ++ x) / 2) answers v))
    go x h true false v l =
        (λ i. cond (v i && l i && not (eqb (length (log ++ x) % 2) 0)) (odd x) so)
        ∙ ap (λ (e : RanAll). e.ran) (door-2 p r mem rom log (length log / 2) answers v l ∙ sym (door-2 p r mem rom (log ++ x) (length (log ++ x) / 2) answers v l))
    go [] h true true v l =
        let n = append-nil log in
        let e : length (log ++ []) % 2 ≡ 0 = ap (λ (k : List ℕ). length k % 2) n ∙ parts-even c in
        (λ i. cond (v i && l i && not (eq-eqb (length (log ++ []) % 2) 0 e i)) (odd []) so)
        ∙ ap (λ (k : List ℕ). (whole_run p r mem rom k answers).ran) (sym n)
    go (y ∷ []) h true true v l =
        let e : length (log ++ (y ∷ [])) % 2 ≡ 0 → ⊥ = λ z. omega (arith, length-append log (y ∷ []), parts-even c) in
        (λ i. cond (v i && l i && not (ne_eqb (length (log ++ (y ∷ [])) % 2) 0 e i)) (odd (y ∷ [])) so)
        ∙ ap (λ (x : RanAll). x.ran) (sym (door-8 p r mem rom (log ++ (y ∷ [])) (length (log ++ (y ∷ [])) / 2) answers v l e))
    go (y ∷ (z ∷ x)) h true true v l = absurd (omega arith)
