-- A run that has room for every answer: its answers as a list, and the laws of its parts.
use Rattle.std.proofs.Common.{◌≡◌, ℕ, suc, ◌+◌, ◌≤◌, cond, List, [], ◌∷◌, ◌++◌, length, take, set, sym, refl, ap, ◌∙◌, subst, append_assoc, add-suc, arith, length-append, take_at, lt-ltb}
use Rattle.ground.proofs.Stores.{set-behind}
use Rattle.controller.specs.Access.{Pair, Step, done, answered, refused}
use Rattle.controller.specs.Run.{Standing, Turn, went, halted, turn_of, End, whole, short, Run, after_turn, run_from}

pub record Free (M : Type 0) : Type 0 where
  pub machine : M
  pub taken : ℕ
  pub end : End
  pub given : List ℕ

abbrev pub free : {M : Type 0} → M → ℕ → End → List ℕ → Free M
free m k e given = record { machine = m; taken = k; end = e; given = given }

abbrev after_step : {M A : Type 0} → Step M → (M → A) → (M → ℕ → A) → (ℕ → A) → A
after_step (done m) d a r = d m
after_step (answered m b) d a r = a m b
after_step (refused n) d a r = r n

-- from pair k on, behind the answers given so far
unfoldable pub free_from : {M : Type 0} → (M → Pair → Step M) → ℕ → List Pair → M → List ℕ → Free M
free_from step k [] m given = free m k whole given
free_from step k (q ∷ qs) m given =
    after_step (step m q)
    (λ n. free_from step (suc k) qs n given)
    (λ n b. free_from step (suc k) qs n (given ++ (b ∷ [])))
    (λ n. free m k (short n) given)

-- one that came to its end goes on with the pairs behind; a refused one does not
abbrev on_end : {A : Type 0} → End → A → A → A
on_end whole a b = a
on_end (short n) a b = b

abbrev pub on_free : {M : Type 0} → (M → Pair → Step M) → List Pair → Free M → Free M
on_free step qs f = on_end f.end (free_from step f.taken qs f.machine f.given) f

-- counted from n pairs before, behind other answers
abbrev pub shift_free : {M : Type 0} → ℕ → List ℕ → Free M → Free M
shift_free n front f = free f.machine (n + f.taken) f.end (front ++ f.given)

-- no more pairs taken than there are, and no more answers than pairs
pub record Counted {M : Type 0} (k : ℕ) (qs : List Pair) (given : List ℕ) (f : Free M) : Type 0 where
  pub few : f.taken ≤ k + length qs
  pub each : length f.given + k ≤ length given + f.taken

-- the run in a room, and the free one
pub record Agrees {M : Type 0} (f : Free M) (e : Run M) : Type 0 where
  pub machine : e.standing.machine ≡ f.machine
  pub taken : e.taken ≡ f.taken
  pub end : e.end ≡ f.end
  pub given : e.standing.given ≡ length f.given
  pub answers : take (length f.given) e.standing.answers ≡ f.given

module _ {M : Type 0} (step : M → Pair → Step M) where
  pub free-append : (ps qs : List Pair) (k : ℕ) (m : M) (given : List ℕ) → free_from step k (ps ++ qs) m given ≡ on_free step qs (free_from step k ps m given)
  unfolding free_from
  free-append [] qs k m given = refl
  free-append (q ∷ ps) qs k m given = go (step m q) (λ n l. free-append ps qs (suc k) n l)
    where
      go : (o : Step M) → ((n : M) (l : List ℕ) → free_from step (suc k) (ps ++ qs) n l ≡ on_free step qs (free_from step (suc k) ps n l))
          → after_step o (λ n. free_from step (suc k) (ps ++ qs) n given) (λ n b. free_from step (suc k) (ps ++ qs) n (given ++ (b ∷ []))) (λ n. free m k (short n) given)
          ≡ on_free step qs (after_step o (λ n. free_from step (suc k) ps n given) (λ n b. free_from step (suc k) ps n (given ++ (b ∷ []))) (λ n. free m k (short n) given))
      go (done n) h = h n given
      go (answered n b) h = h n (given ++ (b ∷ []))
      go (refused n) h = refl

  pub free-shift : (n : ℕ) (front : List ℕ) (qs : List Pair) (k : ℕ) (m : M) (given : List ℕ)
      → free_from step (n + k) qs m (front ++ given) ≡ shift_free n front (free_from step k qs m given)
  unfolding free_from
  free-shift n front [] k m given = refl
  free-shift n front (q ∷ qs) k m given =
      go (step m q) (λ x l. ap (λ (j : ℕ). free_from step j qs x (front ++ l)) (sym (add-suc n k)) ∙ free-shift n front qs (suc k) x l)
    where
      go : (o : Step M) → ((x : M) (l : List ℕ) → free_from step (suc (n + k)) qs x (front ++ l) ≡ shift_free n front (free_from step (suc k) qs x l))
          → after_step o (λ x. free_from step (suc (n + k)) qs x (front ++ given)) (λ x b. free_from step (suc (n + k)) qs x ((front ++ given) ++ (b ∷ []))) (λ x. free m (n + k) (short x) (front ++ given))
          ≡ shift_free n front (after_step o (λ x. free_from step (suc k) qs x given) (λ x b. free_from step (suc k) qs x (given ++ (b ∷ []))) (λ x. free m k (short x) given))
      go (done x) h = h x given
      go (answered x b) h =
          ap (λ (l : List ℕ). free_from step (suc (n + k)) qs x l) (append_assoc front given (b ∷ [])) ∙ h x (given ++ (b ∷ []))
      go (refused x) h = refl

  pub free-counted : (qs : List Pair) (k : ℕ) (m : M) (given : List ℕ) → Counted k qs given (free_from step k qs m given)
  unfolding free_from
  free-counted [] k m given = record { few = omega arith; each = omega arith }
  free-counted (q ∷ qs) k m given = go (step m q) (λ n l. free-counted qs (suc k) n l)
    where
      go : (o : Step M) → ((n : M) (l : List ℕ) → Counted (suc k) qs l (free_from step (suc k) qs n l))
          → Counted k (q ∷ qs) given (after_step o (λ n. free_from step (suc k) qs n given) (λ n b. free_from step (suc k) qs n (given ++ (b ∷ []))) (λ n. free m k (short n) given))
      go (done n) h = let c = h n given in record { few = omega (arith, c.few); each = omega (arith, c.each) }
      go (answered n b) h =
          let c = h n (given ++ (b ∷ [])) in
          record { few = omega (arith, c.few); each = omega (arith, c.each, length-append given (b ∷ [])) }
      go (refused n) h = record { few = omega arith; each = omega arith }

  -- the next answer stands behind those given
  stored_next : (m : M) (a c : List ℕ) (y b : ℕ)
      → turn_of (record { machine = m; answers = a ++ (y ∷ c); given = length a }) (answered m b)
      ≡ went (record { machine = m; answers = (a ++ (b ∷ [])) ++ c; given = length (a ++ (b ∷ [])) })
  stored_next m a c y b =
      let z : length a ≡ length a + 0 = omega arith in
      let n : length a + 1 ≡ length (a ++ (b ∷ [])) = omega (arith, length-append a (b ∷ [])) in
      let s : set (a ++ (y ∷ c)) (length a) b ≡ (a ++ (b ∷ [])) ++ c =
      ap (λ (i : ℕ). set (a ++ (y ∷ c)) i b) z ∙ set-behind a (y ∷ c) 0 b ∙ sym (append_assoc a (b ∷ []) c) in
      (λ i. cond (lt-ltb (length a) (length (a ++ (y ∷ c))) (rw length-append (omega arith)) i)
      (went (record { machine = m; answers = s i; given = n i }))
      (halted 13))

  -- whoever has room for an answer to each pair
  pub roomy : (qs : List Pair) (k : ℕ) (m : M) (a c : List ℕ) → length qs ≤ length c
      → Agrees (free_from step k qs m a) (run_from step k qs (record { machine = m; answers = a ++ c; given = length a }))
  unfolding free_from run_from
  roomy [] k m a c h = record { machine = refl; taken = refl; end = refl; given = refl; answers = take_at a c (length a) refl }
  roomy (q ∷ qs) k m a [] h = absurd (omega arith)
  roomy (q ∷ qs) k m a (y ∷ c) h =
      go (step m q) (λ n. roomy qs (suc k) n a (y ∷ c) (omega arith)) (λ n b. roomy qs (suc k) n (a ++ (b ∷ [])) c (omega arith))
    where
      s : Standing M
      s = record { machine = m; answers = a ++ (y ∷ c); given = length a }

      go : (o : Step M)
          → ((n : M) → Agrees (free_from step (suc k) qs n a) (run_from step (suc k) qs (record { machine = n; answers = a ++ (y ∷ c); given = length a })))
          → ((n : M) (b : ℕ) → Agrees (free_from step (suc k) qs n (a ++ (b ∷ []))) (run_from step (suc k) qs (record { machine = n; answers = (a ++ (b ∷ [])) ++ c; given = length (a ++ (b ∷ [])) })))
          → Agrees (after_step o (λ n. free_from step (suc k) qs n a) (λ n b. free_from step (suc k) qs n (a ++ (b ∷ []))) (λ n. free m k (short n) a))
          (after_turn (turn_of s o) (λ t. run_from step (suc k) qs t) (λ n. record { standing = s; taken = k; end = short n }))
      go (done n) f g = f n
      go (answered n b) f g =
          subst
          (λ (t : Turn M). Agrees (free_from step (suc k) qs n (a ++ (b ∷ []))) (after_turn t (λ x. run_from step (suc k) qs x) (λ x. record { standing = s; taken = k; end = short x })))
          (sym (stored_next n a c y b))
          (g n b)
      go (refused n) f g =
          record { machine = refl; taken = refl; end = refl; given = refl; answers = take_at a (y ∷ c) (length a) refl }
