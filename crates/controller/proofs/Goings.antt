-- A run pair by pair, over any step and any property that it keeps: what is left from here comes to the whole.
use Rattle.std.proofs.Common.{zero}
use mathlib.Core.Path.{◌≡◌, refl, ap, sym, subst, ◌∙◌}
use mathlib.Core.Bool.{Bool, true, false, cond}
use mathlib.Core.List.{List, [], ◌∷◌}
use Prim.Native.Nat.{ℕ, suc, ◌+◌, ◌-◌, ◌*◌, ◌<◌, ◌≤◌}
use native.Mathlib.Numerals.{add-one}
use native.Mathlib.Omega.{arith}
use lib.Dec.{ltb}
use lib.ListN.{length, get_or, take, drop, set, length-set}
use borrow.Author.Tests.{ltb-true}
use Rattle.controller.specs.Access.{Pair, Step, done, answered, refused}
use Rattle.controller.specs.Run.{pairs_of, Standing, Turn, went, halted, turn_of, End, whole, short, Run, after_turn, run_from}
use Rattle.controller.proofs.Blocks.{pair_at, pairs-here}
use Rattle.controller.proofs.Splits.{ended}

-- what a step leaves has a property, if it leaves anything
abbrev pub Leaves : {M : Type 0} → (M → Type 0) → Step M → Type 0
Leaves P (done m) = P m
Leaves P (answered m b) = P m
Leaves P (refused n) = Unit {0}

-- what a turn keeps: the machine's property, the answer buffer's length
abbrev pub Keeps : {M : Type 0} → (M → Type 0) → Standing M → Turn M → Type 0
Keeps P s (went t) = P t.machine × (length t.answers ≡ length s.answers)
Keeps P s (halted n) = Unit {0}

-- a pair taken, or refused by a number
pub data Proper {M : Type 0} : Turn M → Type 0 where
  goes : {t : Standing M} → Proper (went t)
  stops : {n : ℕ} → Proper (halted (suc n))

-- an end, or a refusal by a number
pub data Ends : End → Type 0 where
  all : Ends whole
  cut : {n : ℕ} → Ends (short (suc n))

-- what a run keeps: the machine's property, the answers inside their buffer
pub record Kept {M : Type 0} (P : M → Type 0) (e : Run M) : Type 0 where
  pub sound : P e.standing.machine
  pub within : e.standing.given ≤ length e.standing.answers
  pub ends : Ends e.end

-- before pair i of a run over the first `total` pairs of a log
pub record Going {M : Type 0} (step : M → Pair → Step M) (P : M → Type 0) (log : List ℕ) (total : ℕ) (s₀ s : Standing M) (i : ℕ) : Type 0 where
  pub inside : i ≤ total
  pub sound : P s.machine
  pub room : length s.answers ≡ length s₀.answers
  pub left : run_from step i (take (total - i) (drop i (pairs_of log))) s ≡ run_from step 0 (take total (pairs_of log)) s₀

module _ {M : Type 0} where
  abbrev Inside : Turn M → Type 0
  Inside (went t) = t.given ≤ length t.answers
  Inside (halted n) = Unit {0}

  turn_inside : (s : Standing M) (o : Step M) → s.given ≤ length s.answers → Inside (turn_of s o)
  turn_inside s (done m) h = h
  turn_inside s (answered m b) h = go (ltb s.given (length s.answers)) refl
    where
      go : (t : Bool) → ltb s.given (length s.answers) ≡ t
          → Inside (cond t (went (record { machine = m; answers = set s.answers s.given b; given = s.given + 1 })) (halted 13))
      go true e = let l : s.given < length s.answers = ltb-true s.given (length s.answers) e in rw length-set (omega arith)
      go false e = tt
  turn_inside s (refused n) h = tt

  turn-keeps : (P : M → Type 0) (s : Standing M) (o : Step M) → Leaves P o → Keeps P s (turn_of s o)
  turn-keeps P s (done m) k = (k, refl)
  turn-keeps P s (answered m b) k = go (ltb s.given (length s.answers))
    where
      go : (t : Bool) → Keeps P s (cond t (went (record { machine = m; answers = set s.answers s.given b; given = s.given + 1 })) (halted 13))
      go true = (k, length-set s.answers s.given b)
      go false = tt
  turn-keeps P s (refused n) k = tt

  module _ (step : M → Pair → Step M) (P : M → Type 0) (keeps : (m : M) → P m → (q : Pair) → Leaves P (step m q)) where
    pub run-kept : ((s : Standing M) (q : Pair) → Proper (turn_of s (step s.machine q)))
        → (qs : List Pair) (k : ℕ) (s : Standing M) → P s.machine → s.given ≤ length s.answers → Kept P (run_from step k qs s)
    unfolding run_from
    run-kept proper [] k s h l = record { sound = h; within = l; ends = all }
    run-kept proper (q ∷ qs) k s h l =
        go (turn_of s (step s.machine q)) (proper s q) (turn-keeps P s (step s.machine q) (keeps s.machine h q))
        (turn_inside s (step s.machine q) l) (λ t a b. run-kept proper qs (suc k) t a b)
      where
        go : (o : Turn M) → Proper o → Keeps P s o → Inside o
            → ((t : Standing M) → P t.machine → t.given ≤ length t.answers → Kept P (run_from step (suc k) qs t))
            → Kept P (after_turn o (λ t. run_from step (suc k) qs t) (λ n. record { standing = s; taken = k; end = short n }))
        go (went t) goes a b f = f t a.0 b
        go (halted (suc n)) stops a b f = record { sound = h; within = l; ends = cut }
        go (halted zero) x8 a b f = elim x8 [ ]

    pub going : (log : List ℕ) (total : ℕ) (s₀ : Standing M) → P s₀.machine → Going step P log total s₀ s₀ 0
    going log total s₀ k =
        record { inside = omega arith; sound = k; room = refl; left = ap (λ (n : ℕ). run_from step 0 (take n (pairs_of log)) s₀) (let e : total - 0 ≡ total = omega arith in e) }

    module _ {log : List ℕ} {total : ℕ} {s₀ s : Standing M} {i : ℕ} (g : Going step P log total s₀ s i) where
      -- the stated number reached
      pub going-ends : total ≤ i → ended s i ≡ run_from step 0 (take total (pairs_of log)) s₀
      unfolding run_from
      going-ends h =
          let e : total - i ≡ 0 = omega arith in
          sym (ap (λ (n : ℕ). run_from step i (take n (drop i (pairs_of log))) s) e) ∙ g.left

      module _ (h : i < total) (l : 2 * total ≤ length log) where
        abbrev after_here : Turn M → Run M
        after_here o =
            after_turn o (λ t. run_from step (suc i) (take (total - (i + 1)) (drop (i + 1) (pairs_of log))) t) (λ n. record { standing = s; taken = i; end = short n })

        turned : after_here (turn_of s (step s.machine (pair_at log i))) ≡ run_from step 0 (take total (pairs_of log)) s₀
        unfolding run_from
        turned = sym (ap (λ (qs : List Pair). run_from step i qs s) (pairs-here log total i h l)) ∙ g.left

        -- a pair that is not taken
        pub going-halts : {n : ℕ} → turn_of s (step s.machine (pair_at log i)) ≡ halted n
            → record { standing = s; taken = i; end = short n } ≡ run_from step 0 (take total (pairs_of log)) s₀
        going-halts w = sym (ap after_here w) ∙ turned

        -- a pair that is taken
        pub going-went : {t : Standing M} → turn_of s (step s.machine (pair_at log i)) ≡ went t → Going step P log total s₀ t (i + 1)
        going-went {t} w =
            let k = subst (Keeps P s) w (turn-keeps P s (step s.machine (pair_at log i)) (keeps s.machine g.sound (pair_at log i))) in
            record {
              inside = omega arith;
              sound = k.0;
              room = k.1 ∙ g.room;
              left = ap (λ (n : ℕ). run_from step n (take (total - (i + 1)) (drop (i + 1) (pairs_of log))) t) (add-one i) ∙ sym (ap after_here w) ∙ turned;
            }

        -- done, the pair being of a known kind
        pub going_done : (n : ℕ) → get_or log (2 * i) 0 ≡ n → {m : M} → step s.machine (record { kind = n; byte = get_or log (2 * i + 1) 0 }) ≡ done m
            → Going step P log total s₀ (record { machine = m; answers = s.answers; given = s.given }) (i + 1)
        going_done n e h =
            going-went (ap (λ (k : ℕ). turn_of s (step s.machine (record { kind = k; byte = get_or log (2 * i + 1) 0 }))) e ∙ ap (turn_of s) h)

        -- answered, and there is room
        pub going-answers : (n : ℕ) → get_or log (2 * i) 0 ≡ n → {m : M} {b : ℕ} → step s.machine (record { kind = n; byte = get_or log (2 * i + 1) 0 }) ≡ answered m b
            → ltb s.given (length s.answers) ≡ true
            → Going step P log total s₀ (record { machine = m; answers = set s.answers s.given b; given = s.given + 1 }) (i + 1)
        going-answers n e {m} {b} h r =
            going-went
            (ap (λ (k : ℕ). turn_of s (step s.machine (record { kind = k; byte = get_or log (2 * i + 1) 0 }))) e ∙ ap (turn_of s) h
            ∙ ap (λ (t : Bool). cond t (went (record { machine = m; answers = set s.answers s.given b; given = s.given + 1 })) (halted 13)) r)
