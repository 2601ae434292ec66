-- A slice that is filled from the front by a rule of the index: what any loop that writes f 0, f 1, .. in order keeps.
use Rattle.std.proofs.Common.{◌≡◌, ℕ, ◌+◌, ◌-◌, ◌<◌, ◌≤◌, List, ◌++◌, length, get_or, drop, set, sym, refl, ap, ◌∙◌, subst, arith, get_or-drop, get_or-append-add, ext_get_or}
use native.Mathlib.Decide.{dec_lt}
use lib.ListN.{get_or-append}
use Rattle.ground.specs.Lists.{build}
use Rattle.ground.proofs.Lists.{build-length, build-at, filled-length, filled_more, filled-all}

pub record Filled (f : ℕ → ℕ) (l₀ l : List ℕ) (n : ℕ) : Type 0 where
  pub inside : n ≤ length l₀
  pub holds : l ≡ build n f ++ drop n l₀

module _ (f : ℕ → ℕ) (l₀ : List ℕ) where
  pub none_yet : Filled f l₀ l₀ 0
  unfolding build
  none_yet = record { inside = omega arith; holds = refl }

  module _ {l : List ℕ} {n : ℕ} (k : Filled f l₀ l n) where
    pub as_long : length l ≡ length l₀
    as_long = rw k.holds (filled-length n f l₀ k.inside)

    pub one_more : {v : ℕ} → n < length l₀ → v ≡ f n → Filled f l₀ (set l n v) (n + 1)
    one_more {v} h e = record { inside = omega arith; holds = ap (λ (x : List ℕ). set x n v) k.holds ∙ filled_more n f l₀ v h e }

    pub at-end : (m : ℕ) → length l₀ ≡ m → length l₀ ≤ n → l ≡ build m f
    at-end m e h =
        let i : n ≡ m = omega (arith, k.inside) in
        k.holds ∙ filled-all n f l₀ h ∙ ap (λ (x : ℕ). build x f) i

  -- what is not written yet is as it was
  pub unwritten : {l : List ℕ} {n : ℕ} → Filled f l₀ l n → get_or l n 0 ≡ get_or l₀ n 0
  unwritten {l} {n} k =
      ap (λ (x : List ℕ). get_or x n 0) k.holds
      ∙ ap (λ (m : ℕ). get_or (build n f ++ drop n l₀) m 0) (let e : n ≡ length (build n f) + 0 = omega (arith, build-length n f) in e)
      ∙ get_or-append-add (build n f) (drop n l₀) 0 0 ∙ get_or-drop n l₀ 0 0 ∙ ap (λ (m : ℕ). get_or l₀ m 0) (let e : n + 0 ≡ n = omega arith in e)

  -- the rule has what was there for all that is not written
  pub rest-same : {l : List ℕ} {n : ℕ} → Filled f l₀ l n → ((i : ℕ) → n ≤ i → i < length l₀ → f i ≡ get_or l₀ i 0) → l ≡ build (length l₀) f
  rest-same {l} {n} k same =
      ext_get_or 0 l (build (length l₀) f) (long ∙ sym (build-length (length l₀) f))
      (λ i h. let m : i < length l₀ = omega (arith, long) in ap (λ (x : List ℕ). get_or x i 0) k.holds ∙ each i m (dec_lt i n) ∙ sym (build-at (length l₀) f i 0 m))
    where
      long : length l ≡ length l₀
      long = as_long k

      front : length (build n f) ≡ n
      front = build-length n f

      each : (i : ℕ) → i < length l₀ → Dec (i < n) → get_or (build n f ++ drop n l₀) i 0 ≡ f i
      each i m (yes q) = get_or-append (build n f) (drop n l₀) 0 i (omega (arith, front)) ∙ build-at n f i 0 q
      each i m (no q) =
          ap (λ (x : ℕ). get_or (build n f ++ drop n l₀) x 0) (let e : i ≡ length (build n f) + (i - n) = omega (arith, front) in e)
          ∙ get_or-append-add (build n f) (drop n l₀) (i - n) 0 ∙ get_or-drop n l₀ (i - n) 0
          ∙ ap (λ (x : ℕ). get_or l₀ x 0) (let e : n + (i - n) ≡ i = omega arith in e)
          ∙ sym (same i (omega arith) m)

  -- three at once
  pub three-more : {l : List ℕ} {n m : ℕ} → Filled f l₀ l n → n + 2 < length l₀ → n + 3 ≡ m → {u v w : ℕ} → u ≡ f n → v ≡ f (n + 1) → w ≡ f (n + 2)
      → Filled f l₀ (set (set (set l n u) (n + 1) v) (n + 2) w) m
  three-more {l} {n} {m} k h i {u} {v} {w} a b c =
      let two : n + 1 + 1 ≡ n + 2 = omega arith in
      let k2 : Filled f l₀ (set (set l n u) (n + 1) v) (n + 2) =
      subst (λ (x : ℕ). Filled f l₀ (set (set l n u) (n + 1) v) x) two (one_more (one_more k (omega arith) a) (omega arith) b) in
      subst (λ (x : ℕ). Filled f l₀ (set (set (set l n u) (n + 1) v) (n + 2) w) x) (omega arith) (one_more k2 (omega arith) c)
