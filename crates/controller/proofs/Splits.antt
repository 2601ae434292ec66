-- The laws of a run over any step: one run after another, places counted on, the answers behind others.
use mathlib.Core.Path.{◌≡◌, refl, ap, sym, ◌∙◌}
use mathlib.Core.Bool.{Bool, true, false, cond}
use mathlib.Core.List.{List, [], ◌∷◌, ◌++◌}
use Prim.Native.Nat.{ℕ, suc, ◌+◌, ◌<◌}
use native.Mathlib.Nat.{add-suc}
use native.Mathlib.Omega.{arith}
use native.Mathlib.Decide.{dec_lt}
use lib.Dec.{ltb}
use lib.ListN.{length, set, length-append}
use borrow.Author.Tests.{lt-ltb, le-ltb}
use Rattle.ground.proofs.Stores.{set-behind}
use Rattle.controller.specs.Access.{Pair, Step, done, answered, refused}
use Rattle.controller.specs.Run.{Standing, Turn, went, halted, turn_of, whole, short, Run, after_turn, run_from}

-- taken to the end, and what stands then
abbrev pub ended : {M : Type 0} → Standing M → ℕ → Run M
ended t j = record { standing = t; taken = j; end = whole }

-- places counted from n pairs before
abbrev pub shifted : {M : Type 0} → ℕ → Run M → Run M
shifted n e = record { standing = e.standing; taken = n + e.taken; end = e.end }

-- the answer buffer behind other answers
abbrev pub behind : {M : Type 0} → List ℕ → Standing M → Standing M
behind front s = record { machine = s.machine; answers = front ++ s.answers; given = length front + s.given }

abbrev pub behind_run : {M : Type 0} → List ℕ → Run M → Run M
behind_run front e = record { standing = behind front e.standing; taken = e.taken; end = e.end }

abbrev behind_turn : {M : Type 0} → List ℕ → Turn M → Turn M
behind_turn front (went t) = went (behind front t)
behind_turn front (halted n) = halted n

module _ {M : Type 0} (step : M → Pair → Step M) where
  pub not-whole : {A : Type 0} {s t : Standing M} {k j n : ℕ} → ◌≡◌ {A = Run M} (record { standing = s; taken = k; end = short n }) (ended t j) → A
  not-whole {n = n} e =
      let f : short n ≡ whole = ap (λ (x : Run M). x.end) e in
      let z : ◌≡◌ {A = ℕ} 0 1 = cc in
      absurd (let y : ⊥ = omega arith in y)

  -- where all of ps is taken, the rest goes on from there
  pub run-append : (ps qs : List Pair) (k j : ℕ) (s t : Standing M) → run_from step k ps s ≡ ended t j → run_from step k (ps ++ qs) s ≡ run_from step j qs t
  unfolding run_from
  run-append [] qs k j s t e = λ i. run_from step (e i).taken qs (e i).standing
  run-append (q ∷ ps) qs k j s t e = go (turn_of s (step s.machine q)) e (λ x h. run-append ps qs (suc k) j x t h)
    where
      go : (o : Turn M) → after_turn o (λ x. run_from step (suc k) ps x) (λ n. record { standing = s; taken = k; end = short n }) ≡ ended t j
          → ((x : Standing M) → run_from step (suc k) ps x ≡ ended t j → run_from step (suc k) (ps ++ qs) x ≡ run_from step j qs t)
          → after_turn o (λ x. run_from step (suc k) (ps ++ qs) x) (λ n. record { standing = s; taken = k; end = short n }) ≡ run_from step j qs t
      go (went x) f h = h x f
      go (halted n) f h = not-whole f

  pub run-taken : (ps : List Pair) (k j : ℕ) (s t : Standing M) → run_from step k ps s ≡ ended t j → j ≡ k + length ps
  unfolding run_from
  run-taken [] k j s t e = let f : k ≡ j = ap (λ (x : Run M). x.taken) e in omega arith
  run-taken (q ∷ ps) k j s t e = go (turn_of s (step s.machine q)) e (λ x h. run-taken ps (suc k) j x t h)
    where
      go : (o : Turn M) → after_turn o (λ x. run_from step (suc k) ps x) (λ n. record { standing = s; taken = k; end = short n }) ≡ ended t j
          → ((x : Standing M) → run_from step (suc k) ps x ≡ ended t j → j ≡ suc k + length ps) → j ≡ k + suc (length ps)
      go (went x) f h = let g : j ≡ suc k + length ps = h x f in omega arith
      go (halted n) f h = not-whole f

  pub run-shift : (n k : ℕ) (qs : List Pair) (s : Standing M) → run_from step (n + k) qs s ≡ shifted n (run_from step k qs s)
  unfolding run_from
  run-shift n k [] s = refl
  run-shift n k (q ∷ qs) s = go (turn_of s (step s.machine q)) (λ x. ap (λ (m : ℕ). run_from step m qs x) (sym (add-suc n k)) ∙ run-shift n (suc k) qs x)
    where
      go : (o : Turn M) → ((x : Standing M) → run_from step (suc (n + k)) qs x ≡ shifted n (run_from step (suc k) qs x))
          → after_turn o (λ x. run_from step (suc (n + k)) qs x) (λ m. record { standing = s; taken = n + k; end = short m })
          ≡ shifted n (after_turn o (λ x. run_from step (suc k) qs x) (λ m. record { standing = s; taken = k; end = short m }))
      go (went x) h = h x
      go (halted m) h = refl

  turn-behind : (front : List ℕ) (s : Standing M) (o : Step M) → turn_of (behind front s) o ≡ behind_turn front (turn_of s o)
  turn-behind front s (done m) = refl
  turn-behind front s (answered m b) = go (dec_lt s.given (length s.answers))
    where
      go : Dec (s.given < length s.answers)
          → cond (ltb (length front + s.given) (length (front ++ s.answers))) (went (record { machine = m; answers = set (front ++ s.answers) (length front + s.given) b; given = length front + s.given + 1 })) (halted 13)
          ≡ behind_turn front (cond (ltb s.given (length s.answers)) (went (record { machine = m; answers = set s.answers s.given b; given = s.given + 1 })) (halted 13))
      go (yes h) =
          rw (lt-ltb s.given (length s.answers) h, lt-ltb (length front + s.given) (length (front ++ s.answers)) (rw length-append (omega arith)))
          (λ i. went (record { machine = m; answers = set-behind front s.answers s.given b i; given = (let e : length front + s.given + 1 ≡ length front + (s.given + 1) = omega arith in e) i }))
      go (no h) =
          rw (le-ltb s.given (length s.answers) (omega arith), le-ltb (length front + s.given) (length (front ++ s.answers)) (rw length-append (omega arith)))
  turn-behind front s (refused n) = refl

  pub run-behind : (front : List ℕ) (k : ℕ) (qs : List Pair) (s : Standing M) → run_from step k qs (behind front s) ≡ behind_run front (run_from step k qs s)
  unfolding run_from
  run-behind front k [] s = refl
  run-behind front k (q ∷ qs) s =
      ap (λ (o : Turn M). after_turn o (λ x. run_from step (suc k) qs x) (λ n. record { standing = behind front s; taken = k; end = short n })) (turn-behind front s (step s.machine q))
      ∙ go (turn_of s (step s.machine q)) (λ x. run-behind front (suc k) qs x)
    where
      go : (o : Turn M) → ((x : Standing M) → run_from step (suc k) qs (behind front x) ≡ behind_run front (run_from step (suc k) qs x))
          → after_turn (behind_turn front o) (λ x. run_from step (suc k) qs x) (λ n. record { standing = behind front s; taken = k; end = short n })
          ≡ behind_run front (after_turn o (λ x. run_from step (suc k) qs x) (λ n. record { standing = s; taken = k; end = short n }))
      go (went x) h = h x
      go (halted n) h = refl

-- a step over a larger machine that projects to a step makes a run that projects to the run
abbrev pub projected_step : {M N : Type 0} → (M → N) → Step M → Step N
projected_step f (done m) = done (f m)
projected_step f (answered m b) = answered (f m) b
projected_step f (refused n) = refused n

abbrev pub projected : {M N : Type 0} → (M → N) → Standing M → Standing N
projected f s = record { machine = f s.machine; answers = s.answers; given = s.given }

abbrev pub projected_run : {M N : Type 0} → (M → N) → Run M → Run N
projected_run f e = record { standing = projected f e.standing; taken = e.taken; end = e.end }

abbrev projected_turn : {M N : Type 0} → (M → N) → Turn M → Turn N
projected_turn f (went t) = went (projected f t)
projected_turn f (halted n) = halted n

module _ {M N : Type 0} (f : M → N) where
  turn-projects : (s : Standing M) (o : Step M) → turn_of (projected f s) (projected_step f o) ≡ projected_turn f (turn_of s o)
  turn-projects s (done m) = refl
  turn-projects s (answered m b) = go (ltb s.given (length s.answers))
    where
      go : (t : Bool)
          → cond t (went (record { machine = f m; answers = set s.answers s.given b; given = s.given + 1 })) (halted 13)
          ≡ projected_turn f (cond t (went (record { machine = m; answers = set s.answers s.given b; given = s.given + 1 })) (halted 13))
      go true = refl
      go false = refl
  turn-projects s (refused n) = refl

  module _ (big : M → Pair → Step M) (small : N → Pair → Step N) (same : (m : M) (q : Pair) → small (f m) q ≡ projected_step f (big m q)) where
    pub run-projects : (k : ℕ) (qs : List Pair) (s : Standing M) → run_from small k qs (projected f s) ≡ projected_run f (run_from big k qs s)
    unfolding run_from
    run-projects k [] s = refl
    run-projects k (q ∷ qs) s =
        ap (λ (o : Turn N). after_turn o (λ x. run_from small (suc k) qs x) (λ n. record { standing = projected f s; taken = k; end = short n }))
        (ap (turn_of (projected f s)) (same s.machine q) ∙ turn-projects s (big s.machine q))
        ∙ go (turn_of s (big s.machine q)) (λ x. run-projects (suc k) qs x)
      where
        go : (o : Turn M) → ((x : Standing M) → run_from small (suc k) qs (projected f x) ≡ projected_run f (run_from big (suc k) qs x))
            → after_turn (projected_turn f o) (λ x. run_from small (suc k) qs x) (λ n. record { standing = projected f s; taken = k; end = short n })
            ≡ projected_run f (after_turn o (λ x. run_from big (suc k) qs x) (λ n. record { standing = s; taken = k; end = short n }))
        go (went x) h = h x
        go (halted n) h = refl
