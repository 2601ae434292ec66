-- The laws of `first_of`: what it finds, over lists one after the other and over lists made from a rule.
use Rattle.std.proofs.Common.{◌≡◌, ℕ, zero, suc, ◌<◌, Bool, true, false, cond, List, [], ◌∷◌, ◌++◌, refl, ap, ◌∙◌, arith}
use native.Mathlib.Decide.{dec_lt}
use Rattle.ground.specs.Lists.{build, joined, first_of}

-- every element has a property
pub data Each {A : Type 0} (P : A → Type 0) : List A → Type 0 where
  nothing : Each P []
  also : {x : A} {xs : List A} → P x → Each P xs → Each P (x ∷ xs)

module _ {A : Type 0} (P : A → Type 0) where
  pub each_both : {xs ys : List A} → Each P xs → Each P ys → Each P (xs ++ ys)
  each_both nothing q = q
  each_both (also h p) q = also h (each_both p q)

  pub each-built : (n : ℕ) (f : ℕ → A) → ((i : ℕ) → i < n → P (f i)) → Each P (build n f)
  unfolding build
  each-built zero f h = nothing
  each-built (suc n) f h = each_both (each-built n f (λ i l. h i (omega arith))) (also (h n (omega arith)) nothing)

  pub each-joined : (n : ℕ) (f : ℕ → List A) → ((r : ℕ) → r < n → Each P (f r)) → Each P (joined n f)
  unfolding joined
  each-joined zero f h = nothing
  each-joined (suc n) f h = each_both (each-joined n f (λ i l. h i (omega arith))) (h n (omega arith))

module _ {A : Type 0} (test : A → Bool) where
  -- what is found has what every element that passes has, or is the default
  pub first-has : (P : A → Type 0) (d : A) → P d → {xs : List A} → Each (λ x. test x ≡ true → P x) xs → P (first_of test d xs)
  unfolding first_of
  first-has P d k nothing = k
  first-has P d k (also {x} {xs} h p) = go (test x) h (first-has P d k p)
    where
      go : (t : Bool) → (t ≡ true → P x) → P (first_of test d xs) → P (cond t x (first_of test d xs))
      go true g r = g refl
      go false g r = r

  -- no element passes the test
  pub data Passed : List A → Type 0 where
    none : Passed []
    over : {x : A} {xs : List A} → test x ≡ false → Passed xs → Passed (x ∷ xs)

  -- y is the first that passes it
  pub data Finds : List A → A → Type 0 where
    here : {x : A} {xs : List A} → test x ≡ true → Finds (x ∷ xs) x
    later : {x y : A} {xs : List A} → test x ≡ false → Finds xs y → Finds (x ∷ xs) y

  pub first-none : (d : A) {xs : List A} → Passed xs → first_of test d xs ≡ d
  unfolding first_of
  first-none d none = refl
  first-none d (over {x} {xs} e p) = ap (λ (t : Bool). cond t x (first_of test d xs)) e ∙ first-none d p

  pub first_found : (d : A) {xs : List A} {y : A} → Finds xs y → first_of test d xs ≡ y
  unfolding first_of
  first_found d (here {x} {xs} e) = ap (λ (t : Bool). cond t x (first_of test d xs)) e
  first_found d (later {x} {y} {xs} e p) = ap (λ (t : Bool). cond t x (first_of test d xs)) e ∙ first_found d p

  pub passed-both : {xs ys : List A} → Passed xs → Passed ys → Passed (xs ++ ys)
  passed-both none q = q
  passed-both (over e p) q = over e (passed-both p q)

  pub finds-left : {xs : List A} (ys : List A) {y : A} → Finds xs y → Finds (xs ++ ys) y
  finds-left ys (here e) = here e
  finds-left ys (later e p) = later e (finds-left ys p)

  pub finds-right : {xs ys : List A} {y : A} → Passed xs → Finds ys y → Finds (xs ++ ys) y
  finds-right none q = q
  finds-right (over e p) q = later e (finds-right p q)

  pub build-passed : (n : ℕ) (f : ℕ → A) → ((i : ℕ) → i < n → test (f i) ≡ false) → Passed (build n f)
  unfolding build
  build-passed zero f h = none
  build-passed (suc n) f h = passed-both (build-passed n f (λ i l. h i (omega arith))) (over (h n (omega arith)) none)

  pub joined-passed : (n : ℕ) (f : ℕ → List A) → ((r : ℕ) → r < n → Passed (f r)) → Passed (joined n f)
  unfolding joined
  joined-passed zero f h = none
  joined-passed (suc n) f h = passed-both (joined-passed n f (λ i l. h i (omega arith))) (h n (omega arith))

  pub build-finds : (n : ℕ) (f : ℕ → A) (i : ℕ) → i < n → ((j : ℕ) → j < i → test (f j) ≡ false) → test (f i) ≡ true
      → Finds (build n f) (f i)
  unfolding build
  build-finds zero f i l h e = absurd (omega arith)
  build-finds (suc n) f i l h e = go (dec_lt i n) (λ q. build-finds n f i q h e)
    where
      go : Dec (i < n) → (i < n → Finds (build n f) (f i)) → Finds (build n f ++ (f n ∷ [])) (f i)
      go (yes q) k = finds-left (f n ∷ []) (k q)
      go (no q) k =
          let m : i ≡ n = omega arith in
          finds-right (build-passed n f (λ j t. h j (omega arith))) (rw (← m) (here e))

  pub joined-finds : (n : ℕ) (f : ℕ → List A) (r : ℕ) {y : A} → r < n → ((i : ℕ) → i < r → Passed (f i)) → Finds (f r) y
      → Finds (joined n f) y
  unfolding joined
  joined-finds zero f r l h e = absurd (omega arith)
  joined-finds (suc n) f r {y} l h e = go (dec_lt r n) (λ q. joined-finds n f r q h e)
    where
      go : Dec (r < n) → (r < n → Finds (joined n f) y) → Finds (joined n f ++ f n) y
      go (yes q) k = finds-left (f n) (k q)
      go (no q) k =
          let m : r ≡ n = omega arith in
          finds-right (joined-passed n f (λ j t. h j (omega arith))) (rw m at e)
