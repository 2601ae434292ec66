-- The laws of `build` and `joined`.
use Rattle.std.proofs.Common.{◌≡◌, ℕ, zero, suc, ◌+◌, ◌*◌, ◌<◌, ◌≤◌, List, [], ◌∷◌, ◌++◌, length, get_or, take, drop, set, sym, refl, ap, ◌∙◌, append-nil, mul-le-mul_right, suc-mul, zero-mul, add-one, arith, length-append, length-drop, drop_of_length-le, take_all, drop-cons, get_or-append-add, drop_at}
use native.Mathlib.Decide.{dec_lt}
use lib.ListN.{get_or-append}
use lib.Seq.{get_or_at, drop-append-le, take-append-le, set_at, append_snoc}
use Rattle.ground.specs.Lists.{build, joined}

module _ {A : Type 0} where
  pub build-length : (n : ℕ) (f : ℕ → A) → length (build n f) ≡ n
  unfolding build
  build-length zero f = refl
  build-length (suc n) f =
      let e : length (build n f) ≡ n = build-length n f in
      rw length-append (omega arith)

  pub build-at : (n : ℕ) (f : ℕ → A) (i : ℕ) (d : A) → i < n → get_or (build n f) i d ≡ f i
  unfolding build
  build-at zero f i d h = absurd (omega arith)
  build-at (suc n) f i d h = go (dec_lt i n) (λ l. build-at n f i d l)
    where
      go : Dec (i < n) → (i < n → get_or (build n f) i d ≡ f i) → get_or (build n f ++ (f n ∷ [])) i d ≡ f i
      go (yes l) k = get_or-append (build n f) (f n ∷ []) d i (rw (build-length n f) l) ∙ k l
      go (no l) k =
          let e : i ≡ n = omega arith in
          rw e (get_or_at (build n f) (f n) [] d n (build-length n f))

  pub build-cong : (n : ℕ) (f g : ℕ → A) → ((i : ℕ) → i < n → f i ≡ g i) → build n f ≡ build n g
  unfolding build
  build-cong zero f g h = refl
  build-cong (suc n) f g h =
      let e : build n f ≡ build n g = build-cong n f g (λ i l. h i (omega arith)) in
      let d : f n ≡ g n = h n (omega arith) in
      cc

  pub build-more : (n : ℕ) (f : ℕ → A) → build (n + 1) f ≡ build n f ++ (f n ∷ [])
  unfolding build
  build-more n f = rw add-one

  pub joined-more : (n : ℕ) (f : ℕ → List A) → joined (n + 1) f ≡ joined n f ++ f n
  unfolding joined
  joined-more n f = rw add-one

  pub joined_length : (n k : ℕ) (f : ℕ → List A) → ((r : ℕ) → length (f r) ≡ k) → length (joined n f) ≡ n * k
  unfolding joined
  joined_length zero k f h = sym (zero-mul k)
  joined_length (suc n) k f h = length-append (joined n f) (f n) ∙ (cc (joined_length n k f h, h n, suc-mul n k))

  pub joined-cong : (n : ℕ) (f g : ℕ → List A) → ((r : ℕ) → r < n → f r ≡ g r) → joined n f ≡ joined n g
  unfolding joined
  joined-cong zero f g h = refl
  joined-cong (suc n) f g h =
      let e : joined n f ≡ joined n g = joined-cong n f g (λ i l. h i (omega arith)) in
      let d : f n ≡ g n = h n (omega arith) in
      cc

  -- an element of lists that are all of one length
  pub joined_at : (n k : ℕ) (f : ℕ → List A) (d : A) → ((r : ℕ) → length (f r) ≡ k) → (r j : ℕ) → r < n → j < k
      → get_or (joined n f) (r * k + j) d ≡ get_or (f r) j d
  unfolding joined
  joined_at zero k f d h r j l m = absurd (omega arith)
  joined_at (suc n) k f d h r j l m = go (dec_lt r n) (λ q. joined_at n k f d h r j q m)
    where
      go : Dec (r < n) → (r < n → get_or (joined n f) (r * k + j) d ≡ get_or (f r) j d) → get_or (joined n f ++ f n) (r * k + j) d ≡ get_or (f r) j d
      go (yes q) e =
          let a : suc r * k ≤ n * k = mul-le-mul_right k q in
          let b : suc r * k ≡ r * k + k = suc-mul r k in
          get_or-append (joined n f) (f n) d (r * k + j) (rw (joined_length n k f h) (omega arith)) ∙ e q
      go (no q) e =
          let a : r ≡ n = omega arith in
          ap (λ (x : ℕ). get_or (joined n f ++ f n) (x * k + j) d) a
          ∙ ap (λ (x : ℕ). get_or (joined n f ++ f n) (x + j) d) (sym (joined_length n k f h))
          ∙ get_or-append-add (joined n f) (f n) j d ∙ ap (λ (x : ℕ). get_or (f x) j d) (sym a)

  -- one of them, as a stretch of the whole
  pub joined-stretch : (n k : ℕ) (f : ℕ → List A) → ((r : ℕ) → length (f r) ≡ k) → (r : ℕ) → r < n → take k (drop (r * k) (joined n f)) ≡ f r
  unfolding joined
  joined-stretch zero k f h r l = absurd (omega arith)
  joined-stretch (suc n) k f h r l = go (dec_lt r n) (λ q. joined-stretch n k f h r q)
    where
      go : Dec (r < n) → (r < n → take k (drop (r * k) (joined n f)) ≡ f r) → take k (drop (r * k) (joined n f ++ f n)) ≡ f r
      go (yes q) e =
          let a : suc r * k ≤ n * k = mul-le-mul_right k q in
          let b : suc r * k ≡ r * k + k = suc-mul r k in
          let m : length (joined n f) ≡ n * k = joined_length n k f h in
          ap (take k) (drop-append-le (r * k) (joined n f) (f n) (omega arith))
          ∙ take-append-le k (drop (r * k) (joined n f)) (f n) (rw length-drop (omega arith)) ∙ e q
      go (no q) e =
          let a : r ≡ n = omega arith in
          ap (take k) (drop_at (joined n f) (f n) (r * k) (joined_length n k f h ∙ ap (λ (x : ℕ). x * k) (sym a)))
          ∙ take_all k (f n) (rw (h n) (omega arith)) ∙ ap f (sym a)

  -- a list that is filled from the front: its first n places as built, the rest as it was
  pub filled-length : (n : ℕ) (f : ℕ → A) (l : List A) → n ≤ length l → length (build n f ++ drop n l) ≡ length l
  filled-length n f l h = simp (length-append, build-length, length-drop) (omega arith)

  pub filled_more : (n : ℕ) (f : ℕ → A) (l : List A) (v : A) → n < length l → v ≡ f n → set (build n f ++ drop n l) n v ≡ build (n + 1) f ++ drop (n + 1) l
  filled_more n f l v h e =
      ap (λ (t : List A). set (build n f ++ t) n v) (drop-cons l n v h)
      ∙ set_at (build n f) (get_or l n v) (drop (suc n) l) v n (build-length n f)
      ∙ sym (append_snoc (build n f) v (drop (suc n) l))
      ∙ (rw (build-more, add-one, e))

  pub filled-all : (n : ℕ) (f : ℕ → A) (l : List A) → length l ≤ n → build n f ++ drop n l ≡ build n f
  filled-all n f l h = ap (λ (t : List A). build n f ++ t) (drop_of_length-le l h) ∙ append-nil (build n f)
