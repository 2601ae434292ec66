-- The laws of `any_of`, and of stretches of addresses that go round.
use Rattle.std.proofs.Common.{◌≡◌, ℕ, zero, suc, ◌+◌, ◌%◌, ◌<◌, ◌≤◌, Bool, true, false, ◌&&◌, ◌||◌, eqb, ltb, ◌⊎◌, sym, refl, ap, ◌∙◌, subst, inl, inr, ⊎_elim, true≢false, add-one, arith, ltb-true, lt-ltb, eq-eqb, eqb-true}
use mathlib.Core.Bool.{false≢true}
use native.Mathlib.Decide.{dec_lt, dec_le}
use Rattle.ground.proofs.Tests.{both, both_left, both_right, either}
use Rattle.stores.specs.Stores.{from_address}
use Rattle.touch.specs.Touch.{any_of}

-- two tests that imply each other
pub alike : (a b : Bool) → (a ≡ true → b ≡ true) → (b ≡ true → a ≡ true) → a ≡ b
alike true true f g = refl
alike true false f g = sym (f refl)
alike false true f g = g refl
alike false false f g = refl

pub or_left : (a b : Bool) → a ≡ true → (a || b) ≡ true
or_left a b e = λ i. e i || b

pub or_right : (a b : Bool) → b ≡ true → (a || b) ≡ true
or_right true b e = refl
or_right false b e = e

-- a test that would be true is not false
pub not-both : {A : Type 0} {a : Bool} → a ≡ true → a ≡ false → A
not-both e f = absurd (true≢false (sym e ∙ f))

-- where one is found
pub record Found (f : ℕ → Bool) (n : ℕ) : Type 0 where
  pub at : ℕ
  pub below : at < n
  pub holds : f at ≡ true

pub any_found : (n : ℕ) (f : ℕ → Bool) → any_of n f ≡ true → Found f n
unfolding any_of
any_found zero f e = absurd (false≢true e)
any_found (suc n) f e = go (either (any_of n f) (f n) e) (λ h. any_found n f h)
  where
    go : (any_of n f ≡ true) ⊎ (f n ≡ true) → (any_of n f ≡ true → Found f n) → Found f (suc n)
    go (inl h) k = let x = k h in record { at = x.at; below = omega (arith, x.below); holds = x.holds }
    go (inr h) k = record { at = n; below = omega arith; holds = h }

pub any-has : (n : ℕ) (f : ℕ → Bool) (i : ℕ) → i < n → f i ≡ true → any_of n f ≡ true
unfolding any_of
any-has zero f i l e = absurd (omega arith)
any-has (suc n) f i l e = go (dec_lt i n) (λ h. any-has n f i h e)
  where
    go : Dec (i < n) → (i < n → any_of n f ≡ true) → (any_of n f || f n) ≡ true
    go (yes h) k = or_left (any_of n f) (f n) (k h)
    go (no h) k = let q : i ≡ n = omega arith in or_right (any_of n f) (f n) (subst (λ (m : ℕ). f m ≡ true) q e)

pub any-not : (n : ℕ) (f : ℕ → Bool) → any_of n f ≡ false → (i : ℕ) → i < n → f i ≡ true → ⊥
any-not n f e i l h = not-both (any-has n f i l h) e

pub any_none : (n : ℕ) (f : ℕ → Bool) → ((i : ℕ) → i < n → f i ≡ true → ⊥) → any_of n f ≡ false
any_none n f h = go (any_of n f) refl
  where
    go : (t : Bool) → any_of n f ≡ t → any_of n f ≡ false
    go true e = let x = any_found n f e in absurd (h x.at x.below x.holds)
    go false e = e

pub any-cong : (n : ℕ) (f g : ℕ → Bool) → ((i : ℕ) → i < n → f i ≡ g i) → any_of n f ≡ any_of n g
unfolding any_of
any-cong zero f g h = refl
any-cong (suc n) f g h = λ i. any-cong n f g (λ j l. h j (omega arith)) i || h n (omega arith) i

pub any-more : (n : ℕ) (f : ℕ → Bool) → any_of (n + 1) f ≡ (any_of n f || f n)
unfolding any_of
any-more n f = ap (λ (m : ℕ). any_of m f) (add-one n)

pub any-zero : (f : ℕ → Bool) → any_of 0 f ≡ false
unfolding any_of
any-zero f = refl

-- the first, then the others
pub any-first : (n : ℕ) (f : ℕ → Bool) → any_of (suc n) f ≡ (f 0 || any_of n (λ j. f (suc j)))
any-first n f =
    alike (any_of (suc n) f) (f 0 || any_of n (λ j. f (suc j)))
    (λ e. let x = any_found (suc n) f e in go x.at x.below x.holds)
    (λ e. ⊎_elim (λ h. any-has (suc n) f 0 (omega arith) h) (λ h. let x = any_found n (λ j. f (suc j)) h in any-has (suc n) f (suc x.at) (omega (arith, x.below)) x.holds) (either (f 0) (any_of n (λ j. f (suc j))) e))
  where
    go : (i : ℕ) → i < suc n → f i ≡ true → (f 0 || any_of n (λ j. f (suc j))) ≡ true
    go zero l h = or_left (f 0) _ h
    go (suc i) l h = or_right (f 0) _ (any-has n (λ j. f (suc j)) i (omega arith) h)

pub any-or : (n : ℕ) (f g h : ℕ → Bool) → any_of n (λ j. f j || (g j || h j)) ≡ (any_of n f || (any_of n g || any_of n h))
any-or n f g h =
    alike (any_of n (λ j. f j || (g j || h j))) (any_of n f || (any_of n g || any_of n h))
    (λ e.
    let x = any_found n (λ j. f j || (g j || h j)) e in
    ⊎_elim (λ a. or_left (any_of n f) _ (any-has n f x.at x.below a))
    (λ a. or_right (any_of n f) _
    (⊎_elim (λ b. or_left (any_of n g) _ (any-has n g x.at x.below b)) (λ b. or_right (any_of n g) _ (any-has n h x.at x.below b)) (either (g x.at) (h x.at) a)))
    (either (f x.at) (g x.at || h x.at) x.holds))
    (λ e.
    ⊎_elim (λ a. let x = any_found n f a in any-has n (λ j. f j || (g j || h j)) x.at x.below (or_left (f x.at) _ x.holds))
    (λ a.
    ⊎_elim (λ b. let x = any_found n g b in any-has n (λ j. f j || (g j || h j)) x.at x.below (or_right (f x.at) _ (or_left (g x.at) _ x.holds)))
    (λ b. let x = any_found n h b in any-has n (λ j. f j || (g j || h j)) x.at x.below (or_right (f x.at) _ (or_right (g x.at) _ x.holds)))
    (either (any_of n g) (any_of n h) a))
    (either (any_of n f) (any_of n g || any_of n h) e))

-- row by row is column by column
pub any_swap : (n m : ℕ) (f : ℕ → ℕ → Bool) → any_of n (λ j. any_of m (λ c. f j c)) ≡ any_of m (λ c. any_of n (λ j. f j c))
any_swap n m f =
    alike (any_of n (λ j. any_of m (λ c. f j c))) (any_of m (λ c. any_of n (λ j. f j c)))
    (λ e.
    let x = any_found n (λ j. any_of m (λ c. f j c)) e in
    let y = any_found m (λ c. f x.at c) x.holds in
    any-has m (λ c. any_of n (λ j. f j c)) y.at y.below (any-has n (λ j. f j y.at) x.at x.below y.holds))
    (λ e.
    let x = any_found m (λ c. any_of n (λ j. f j c)) e in
    let y = any_found n (λ j. f j x.at) x.holds in
    any-has n (λ j. any_of m (λ c. f j c)) y.at y.below (any-has m (λ c. f y.at c) x.at x.below y.holds))

-- an address is one of n from another on where it lies less than n ahead
pub within : (at g ahead n : ℕ) → at < 65536 → g < 65536 → ahead < 65536 → (ahead + at) % 65536 ≡ g
    → ltb ahead n ≡ any_of n (λ j. eqb (from_address at j) g)
within at g ahead n la lg l e =
    alike (ltb ahead n) (any_of n (λ j. eqb (from_address at j) g))
    (λ h.
    let k : ahead < n = ltb-true ahead n h in
    any-has n (λ j. eqb (from_address at j) g) ahead k (eq-eqb (from_address at ahead) g (omega arith)))
    (λ h.
    let x = any_found n (λ j. eqb (from_address at j) g) h in
    let j : ℕ = x.at in
    let b : j < n = x.below in
    let q : (at + j) % 65536 ≡ g = eqb-true (from_address at j) g x.holds in
    lt-ltb ahead n (omega arith))

-- the same sum on both sides goes round alike
round-off : (a b S : ℕ) → (a + S) % 65536 ≡ (b + S) % 65536 → a % 65536 ≡ b % 65536
round-off a b S e = omega arith

small-off : (a b c : ℕ) → (a + b) % 65536 ≡ c % 65536 → a < 65536 → b ≤ c → a ≤ c
small-off a b c e l h = omega arith

behind : (past S start at j c : ℕ) → start ≡ S % 65536 → (past + start) % 65536 ≡ at → (at + j) % 65536 ≡ (S + c) % 65536 → past < 65536 → j ≤ c → past ≤ c
behind past S start at j c s e q l h =
    let sum : (past + j + S) % 65536 ≡ (c + S) % 65536 = sum_is past S start at j s e ∙ q ∙ ap (λ (m : ℕ). m % 65536) (let z : S + c ≡ c + S = omega arith in z) in
    small-off past j c (round-off (past + j) c S sum) l h
  where
    sum_is : (past S start at j : ℕ) → start ≡ S % 65536 → (past + start) % 65536 ≡ at → (past + j + S) % 65536 ≡ (at + j) % 65536
    sum_is past S start at j s e = omega arith

before : (ahead S start at j c : ℕ) → start ≡ S % 65536 → (ahead + at) % 65536 ≡ start → (at + j) % 65536 ≡ (S + c) % 65536 → ahead < 65536 → c ≤ j → ahead ≤ j
before ahead S start at j c s d q l h =
    let sum : (ahead + c + at) % 65536 ≡ (j + at) % 65536 = sum_is ahead S start at c s d ∙ sym q ∙ ap (λ (m : ℕ). m % 65536) (let z : at + j ≡ j + at = omega arith in z) in
    small-off ahead c j (round-off (ahead + c) j at sum) l h
  where
    sum_is : (ahead S start at c : ℕ) → start ≡ S % 65536 → (ahead + at) % 65536 ≡ start → (ahead + c + at) % 65536 ≡ (S + c) % 65536
    sum_is ahead S start at c s d = omega arith

here-past : (S start at past : ℕ) → start ≡ S % 65536 → at < 65536 → (past + start) % 65536 ≡ at → (at + 0) % 65536 ≡ (S + past) % 65536
here-past S start at past s l e = omega arith

here-ahead : (S start at ahead : ℕ) → start ≡ S % 65536 → (ahead + at) % 65536 ≡ start → (at + ahead) % 65536 ≡ (S + 0) % 65536
here-ahead S start at ahead s e = omega arith

-- two stretches meet where one begins inside the other: the first of a row lies ahead of the other's, or behind it
pub across : (S start at past ahead C n : ℕ) → start ≡ S % 65536 → at < 65536 → past < 65536 → ahead < 65536
    → (past + start) % 65536 ≡ at → (ahead + at) % 65536 ≡ start
    → (ltb 0 n && ltb 0 C && (ltb past C || ltb ahead n)) ≡ any_of n (λ j. any_of C (λ c. eqb (from_address at j) ((S + c) % 65536)))
across S start at past ahead C n s la lp lh e d =
    alike (ltb 0 n && ltb 0 C && (ltb past C || ltb ahead n)) (any_of n (λ j. any_of C (λ c. meet j c)))
    (λ h.
    let two : (ltb 0 n && ltb 0 C) ≡ true = both_left (ltb 0 n && ltb 0 C) (ltb past C || ltb ahead n) h in
    let some : 0 < n = ltb-true 0 n (both_left (ltb 0 n) (ltb 0 C) two) in
    let wide : 0 < C = ltb-true 0 C (both_right (ltb 0 n) (ltb 0 C) two) in
    ⊎_elim
    (λ a.
    let k : past < C = ltb-true past C a in
    any-has n (λ j. any_of C (λ c. meet j c)) 0 some (any-has C (λ c. meet 0 c) past k (eq-eqb (from_address at 0) ((S + past) % 65536) (here-past S start at past s la e))))
    (λ a.
    let k : ahead < n = ltb-true ahead n a in
    any-has n (λ j. any_of C (λ c. meet j c)) ahead k (any-has C (λ c. meet ahead c) 0 wide (eq-eqb (from_address at ahead) ((S + 0) % 65536) (here-ahead S start at ahead s d))))
    (either (ltb past C) (ltb ahead n) (both_right (ltb 0 n && ltb 0 C) (ltb past C || ltb ahead n) h)))
    (λ h.
    let x = any_found n (λ j. any_of C (λ c. meet j c)) h in
    let y = any_found C (λ c. meet x.at c) x.holds in
    let q : (at + x.at) % 65536 ≡ (S + y.at) % 65536 = eqb-true (from_address at x.at) ((S + y.at) % 65536) y.holds in
    both (both (lt-ltb 0 n (omega (arith, x.below))) (lt-ltb 0 C (omega (arith, y.below)))) (go x.at y.at x.below y.below q (dec_le x.at y.at)))
  where
    meet : ℕ → ℕ → Bool
    meet j c = eqb (from_address at j) ((S + c) % 65536)

    go : (j c : ℕ) → j < n → c < C → (at + j) % 65536 ≡ (S + c) % 65536 → Dec (j ≤ c) → (ltb past C || ltb ahead n) ≡ true
    go j c a b q (yes l) =
        let k = behind past S start at j c s e q lp l in
        or_left (ltb past C) (ltb ahead n) (lt-ltb past C (omega (arith, k, b)))
    go j c a b q (no l) =
        let k = before ahead S start at j c s d q lh (omega (arith, l)) in
        or_right (ltb past C) (ltb ahead n) (lt-ltb ahead n (omega (arith, k, a)))
