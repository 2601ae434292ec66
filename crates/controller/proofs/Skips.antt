-- A run that lists what it would refuse: with skipping off it is the run that stops; where nothing is refused the two agree.
use mathlib.Core.Path.{◌≡◌, refl, ap, sym, ◌∙◌}
use mathlib.Core.Bool.{Bool, true, false, cond}
use mathlib.Core.List.{List, [], ◌∷◌, ◌++◌}
use Prim.Native.Nat.{ℕ, zero, suc, ◌+◌, ◌*◌, ◌<◌}
use native.Mathlib.Decide.{dec_lt}
use native.Mathlib.Numerals.{add-one}
use native.Mathlib.Omega.{arith}
use lib.Dec.{ltb}
use lib.ListN.{length, set, length-append}
use lib.Seq.{sets}
use borrow.Author.Tests.{ltb-true, lt-ltb, le-ltb}
use Rattle.ground.proofs.Stores.{set-behind}
use Rattle.controller.specs.Access.{Pair, Step, done, answered, refused}
use Rattle.controller.specs.Run.{Standing, Turn, went, halted, turn_of, whole, short, Run, after_turn, run_from}
use Rattle.controller.specs.Skip.{Skipping, passed_by, skipped, skip_by, skip_step, later}
use Rattle.controller.proofs.Splits.{ended, not-whole, projected_step, projected, projected_run, run-projects}

module _ {M : Type 0} (step : M → Pair → Step M) where
  abbrev inner : Skipping M → M
  inner s = s.machine

  off-projects : (s : Skipping M) (q : Pair) → step (inner s) q ≡ projected_step inner (skip_step false step s q)
  off-projects s q = go (step (inner s) q)
    where
      go : (o : Step M) → o ≡ projected_step inner (skip_by false s o)
      go (done m) = refl
      go (answered m b) = refl
      go (refused n) = refl

  -- skipping off, the machine inside runs as it would by itself
  pub off-is : (k : ℕ) (qs : List Pair) (s : Standing (Skipping M)) → run_from step k qs (projected inner s) ≡ projected_run inner (run_from (skip_step false step) k qs s)
  off-is k qs s = run-projects inner (skip_step false step) step off-projects k qs s

  -- where a run over the larger machine stands, n pairs on, none of them listed
  abbrev pub raised : Standing (Skipping M) → Standing M → ℕ → Standing (Skipping M)
  raised s t n =
      record {
        machine = record { machine = t.machine; skips = s.machine.skips; listed = s.machine.listed; place = s.machine.place + n };
        answers = t.answers;
        given = t.given;
      }

  -- where the run that stops takes every pair, either run over the larger machine does the same and lists nothing
  pub skip-agrees : (on : Bool) (qs : List Pair) (k j : ℕ) (s : Standing (Skipping M)) (t : Standing M) → run_from step k qs (projected inner s) ≡ ended t j
      → run_from (skip_step on step) k qs s ≡ ended (raised s t (length qs)) j
  unfolding run_from
  skip-agrees on [] k j s t e =
      λ i. record {
        standing = record {
          machine = record {
            machine = (e i).standing.machine;
            skips = s.machine.skips;
            listed = s.machine.listed;
            place = (let z : s.machine.place ≡ s.machine.place + 0 = omega arith in z) i;
          };
          answers = (e i).standing.answers;
          given = (e i).standing.given;
        };
        taken = (e i).taken;
        end = whole;
      }
  skip-agrees on (q ∷ qs) k j s t e = go (step s.machine.machine q) e (λ x f. skip-agrees on qs (suc k) j x t f)
    where
      after : (m : M) (a : List ℕ) (g : ℕ) → run_from step (suc k) qs (record { machine = m; answers = a; given = g }) ≡ ended t j → ((x : Standing (Skipping M)) → run_from step (suc k) qs (projected inner x) ≡ ended t j → run_from (skip_step on step) (suc k) qs x ≡ ended (raised x t (length qs)) j)
          → run_from (skip_step on step) (suc k) qs (record { machine = passed_by s.machine m; answers = a; given = g }) ≡ ended (raised s t (suc (length qs))) j
      after m a g f later =
          later (record { machine = passed_by s.machine m; answers = a; given = g }) f
          ∙ ap
          (λ (n : ℕ). ended (record { machine = record { machine = t.machine; skips = s.machine.skips; listed = s.machine.listed; place = n }; answers = t.answers; given = t.given }) j)
          (let z : s.machine.place + 1 + length qs ≡ s.machine.place + suc (length qs) = omega arith in z)

      go : (o : Step M)
          → after_turn (turn_of (projected inner s) o) (λ x. run_from step (suc k) qs x) (λ n. record { standing = projected inner s; taken = k; end = short n }) ≡ ended t j → ((x : Standing (Skipping M)) → run_from step (suc k) qs (projected inner x) ≡ ended t j → run_from (skip_step on step) (suc k) qs x ≡ ended (raised x t (length qs)) j)
          → after_turn (turn_of s (skip_by on s.machine o)) (λ x. run_from (skip_step on step) (suc k) qs x) (λ n. record { standing = s; taken = k; end = short n })
          ≡ ended (raised s t (suc (length qs))) j
      go (done m) f later = after m s.answers s.given f later
      go (answered m b) f later = by (ltb s.given (length s.answers)) f
        where
          by : (c : Bool)
              → after_turn (cond c (went (record { machine = m; answers = set s.answers s.given b; given = s.given + 1 })) (halted 13)) (λ x. run_from step (suc k) qs x) (λ n. record { standing = projected inner s; taken = k; end = short n }) ≡ ended t j
              → after_turn (cond c (went (record { machine = passed_by s.machine m; answers = set s.answers s.given b; given = s.given + 1 })) (halted 13)) (λ x. run_from (skip_step on step) (suc k) qs x) (λ n. record { standing = s; taken = k; end = short n })
              ≡ ended (raised s t (suc (length qs))) j
          by true h = after m (set s.answers s.given b) (s.given + 1) h later
          by false h = not-whole step h
      go (refused n) f later = not-whole step f

  -- as many pairs on as taken
  abbrev Counts : ℕ → ℕ → Run (Skipping M) → Type 0
  Counts k place e = e.standing.machine.place + k ≡ e.taken + place

  abbrev gone_after : Bool → ℕ → List Pair → Standing (Skipping M) → Turn (Skipping M) → Run (Skipping M)
  gone_after on k qs s o = after_turn o (λ x. run_from (skip_step on step) (suc k) qs x) (λ n. record { standing = s; taken = k; end = short n })

  -- the pair to come goes on with every pair taken
  pub run-place : (on : Bool) (qs : List Pair) (k : ℕ) (s : Standing (Skipping M))
      → Counts k s.machine.place (run_from (skip_step on step) k qs s)
  unfolding run_from
  run-place on [] k s = omega arith
  run-place on (q ∷ qs) k s = go (step s.machine.machine q) (λ x e. let h = run-place on qs (suc k) x in omega (arith, h, e))
    where
      by : (t : Bool) (a b : Turn (Skipping M)) → Counts k s.machine.place (gone_after on k qs s a) → Counts k s.machine.place (gone_after on k qs s b) → Counts k s.machine.place (gone_after on k qs s (cond t a b))
      by true a b x y = x
      by false a b x y = y

      go : (o : Step M) → ((x : Standing (Skipping M)) → x.machine.place ≡ s.machine.place + 1 → Counts k s.machine.place (run_from (skip_step on step) (suc k) qs x)) → Counts k s.machine.place (gone_after on k qs s (turn_of s (skip_by on s.machine o)))
      go (done m) f = f _ refl
      go (answered m b) f = by (ltb s.given (length s.answers)) _ _ (f (record { machine = passed_by s.machine m; answers = set s.answers s.given b; given = s.given + 1 }) refl) (omega arith)
      go (refused n) f = listing on
        where
          listing : (u : Bool) → Counts k s.machine.place (gone_after on k qs s (turn_of s (cond u (skipped s.machine n) (refused n))))
          listing false = omega arith
          listing true = room (ltb (2 * s.machine.listed + 1) (length s.machine.skips))
            where
              room : (t : Bool) → Counts k s.machine.place (gone_after on k qs s (turn_of s (cond t (done (record { machine = s.machine.machine; skips = sets s.machine.skips (2 * s.machine.listed) (n ∷ s.machine.place ∷ []); listed = s.machine.listed + 1; place = s.machine.place + 1 })) (refused 16))))
              room true = f _ refl
              room false = omega arith

pub later-length : (n j : ℕ) (l : List ℕ) → length (later n j l) ≡ length l
unfolding later
later-length n zero l = refl
later-length n (suc j) [] = refl
later-length n (suc j) (a ∷ []) = refl
later-length n (suc j) (a ∷ (b ∷ l)) = ap (λ (m : ℕ). suc (suc m)) (later-length n j l)

-- an entry more
later-set : (n j number place : ℕ) (l : List ℕ) → 2 * j + 1 < length l
    → later n (suc j) (sets l (2 * j) (number ∷ place ∷ [])) ≡ sets (later n j l) (2 * j) (number ∷ (n + place) ∷ [])
unfolding later
later-set n zero number place [] h = absurd (omega arith)
later-set n zero number place (a ∷ []) h = absurd (omega arith)
later-set n zero number place (a ∷ (b ∷ l)) h = refl
later-set n (suc j) number place [] h = absurd (omega arith)
later-set n (suc j) number place (a ∷ []) h = absurd (omega arith)
later-set n (suc j) number place (a ∷ (b ∷ l)) h =
    let i : 2 * suc j ≡ suc (suc (2 * j)) = omega arith in
    ap (λ (m : ℕ). later n (suc (suc j)) (sets (a ∷ (b ∷ l)) m (number ∷ place ∷ []))) i
    ∙ ap (λ (r : List ℕ). a ∷ (n + b) ∷ r) (later-set n j number place l (omega arith))
    ∙ ap (λ (m : ℕ). sets (a ∷ (n + b) ∷ later n j l) m (number ∷ (n + place) ∷ [])) (sym i)

-- counted from n pairs before: the pair to come, and every place listed so far
abbrev pub later_on : {M : Type 0} → ℕ → Skipping M → Skipping M
later_on n s = record { machine = s.machine; skips = later n s.listed s.skips; listed = s.listed; place = n + s.place }

-- the list behind other entries
abbrev pub behind_list : {M : Type 0} → List ℕ → ℕ → Skipping M → Skipping M
behind_list front c s = record { machine = s.machine; skips = front ++ s.skips; listed = c + s.listed; place = s.place }

sets_behind : (front l vs : List ℕ) (i : ℕ) → sets (front ++ l) (length front + i) vs ≡ front ++ sets l i vs
sets_behind front l [] i = refl
sets_behind front l (a ∷ vs) i =
    ap (λ (r : List ℕ). sets r (suc (length front + i)) vs) (set-behind front l i a)
    ∙ ap (λ (m : ℕ). sets (front ++ set l i a) m vs) (let e : suc (length front + i) ≡ length front + suc i = omega arith in e)
    ∙ sets_behind front (set l i a) vs (suc i)

module _ {M : Type 0} (step : M → Pair → Step M) where
  later_same : (n : ℕ) (s : Skipping M) (q : Pair) → skip_step true step (later_on n s) q ≡ projected_step (later_on n) (skip_step true step s q)
  later_same n s q = go (step s.machine q)
    where
      place : n + s.place + 1 ≡ n + (s.place + 1)
      place = omega arith

      go : (o : Step M) → skip_by true (later_on n s) o ≡ projected_step (later_on n) (skip_by true s o)
      go (done m) = λ i. done (record { machine = m; skips = later n s.listed s.skips; listed = s.listed; place = place i })
      go (answered m b) = λ i. answered (record { machine = m; skips = later n s.listed s.skips; listed = s.listed; place = place i }) b
      go (refused r) =
          ap (λ (m : ℕ). cond (ltb (2 * s.listed + 1) m) (done (record { machine = s.machine; skips = sets (later n s.listed s.skips) (2 * s.listed) (r ∷ (n + s.place) ∷ []); listed = s.listed + 1; place = n + s.place + 1 })) (refused 16)) (later-length n s.listed s.skips)
          ∙ by (ltb (2 * s.listed + 1) (length s.skips)) refl
        where
          by : (t : Bool) → ltb (2 * s.listed + 1) (length s.skips) ≡ t
              → cond t (done (record { machine = s.machine; skips = sets (later n s.listed s.skips) (2 * s.listed) (r ∷ (n + s.place) ∷ []); listed = s.listed + 1; place = n + s.place + 1 })) (refused 16)
              ≡ projected_step (later_on n) (cond t (done (record { machine = s.machine; skips = sets s.skips (2 * s.listed) (r ∷ s.place ∷ []); listed = s.listed + 1; place = s.place + 1 })) (refused 16))
          by true e =
              λ i. done (record {
                machine = s.machine;
                skips = (sym (later-set n s.listed r s.place s.skips (ltb-true (2 * s.listed + 1) (length s.skips) e))
                    ∙ ap (λ (m : ℕ). later n m (sets s.skips (2 * s.listed) (r ∷ s.place ∷ []))) (sym (add-one s.listed))) i;
                listed = s.listed + 1;
                place = place i;
              })
          by false e = refl

  -- counted from n pairs before, all places are n later
  pub skip-shift : (n k : ℕ) (qs : List Pair) (s : Standing (Skipping M))
      → run_from (skip_step true step) k qs (projected (later_on n) s) ≡ projected_run (later_on n) (run_from (skip_step true step) k qs s)
  skip-shift n k qs s = run-projects (later_on n) (skip_step true step) (skip_step true step) (later_same n) k qs s

  behind-same : (front : List ℕ) (c : ℕ) → length front ≡ 2 * c → (s : Skipping M) (q : Pair)
      → skip_step true step (behind_list front c s) q ≡ projected_step (behind_list front c) (skip_step true step s q)
  behind-same front c two s q = go (step s.machine q)
    where
      room : Dec (2 * s.listed + 1 < length s.skips) → ltb (2 * (c + s.listed) + 1) (length (front ++ s.skips)) ≡ ltb (2 * s.listed + 1) (length s.skips)
      room (yes h) = lt-ltb (2 * (c + s.listed) + 1) (length (front ++ s.skips)) (rw length-append (omega arith)) ∙ sym (lt-ltb (2 * s.listed + 1) (length s.skips) h)
      room (no h) = le-ltb (2 * (c + s.listed) + 1) (length (front ++ s.skips)) (rw length-append (omega arith)) ∙ sym (le-ltb (2 * s.listed + 1) (length s.skips) (omega arith))

      go : (o : Step M) → skip_by true (behind_list front c s) o ≡ projected_step (behind_list front c) (skip_by true s o)
      go (done m) = refl
      go (answered m b) = refl
      go (refused r) =
          ap (λ (t : Bool). cond t (done (record { machine = s.machine; skips = sets (front ++ s.skips) (2 * (c + s.listed)) (r ∷ s.place ∷ []); listed = c + s.listed + 1; place = s.place + 1 })) (refused 16)) (room (dec_lt (2 * s.listed + 1) (length s.skips)))
          ∙ by (ltb (2 * s.listed + 1) (length s.skips))
        where
          at : 2 * (c + s.listed) ≡ length front + 2 * s.listed
          at = omega arith

          by : (t : Bool)
              → cond t (done (record { machine = s.machine; skips = sets (front ++ s.skips) (2 * (c + s.listed)) (r ∷ s.place ∷ []); listed = c + s.listed + 1; place = s.place + 1 })) (refused 16)
              ≡ projected_step (behind_list front c) (cond t (done (record { machine = s.machine; skips = sets s.skips (2 * s.listed) (r ∷ s.place ∷ []); listed = s.listed + 1; place = s.place + 1 })) (refused 16))
          by true =
              λ i. done (record {
                machine = s.machine;
                skips = (ap (λ (m : ℕ). sets (front ++ s.skips) m (r ∷ s.place ∷ [])) at ∙ sets_behind front s.skips (r ∷ s.place ∷ []) (2 * s.listed)) i;
                listed = (let e : c + s.listed + 1 ≡ c + (s.listed + 1) = omega arith in e) i;
                place = s.place + 1;
              })
          by false = refl

  -- lent on behind c entries, the list goes on there
  pub skip-behind : (front : List ℕ) (c : ℕ) → length front ≡ 2 * c → (k : ℕ) (qs : List Pair) (s : Standing (Skipping M))
      → run_from (skip_step true step) k qs (projected (behind_list front c) s) ≡ projected_run (behind_list front c) (run_from (skip_step true step) k qs s)
  skip-behind front c two k qs s = run-projects (behind_list front c) (skip_step true step) (skip_step true step) (behind-same front c two) k qs s
