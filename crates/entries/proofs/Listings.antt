-- What differs from a place on: counted and listed, one place after the other.
use mathlib.Core.Path.{◌≡◌, refl, ap, sym, ◌∙◌}
use mathlib.Core.Bool.{Bool, true, false, cond}
use mathlib.Core.List.{List, [], ◌∷◌, ◌++◌}
use Prim.Native.Nat.{ℕ, suc, ◌+◌, ◌*◌, ◌<◌, ◌≤◌}
use native.Mathlib.Numerals.{add-one}
use native.Mathlib.Omega.{arith}
use lib.Dec.{eqb}
use lib.ListN.{length, get_or, drop, set, drop_of_length-le}
use lib.Seq.{drop-cons, sets, length-sets}
use borrow.Author.Tests.{eq-eqb, ne_eqb}
use mathlib.Core.List.{map}
use Rattle.std.proofs.lemmas.List.{get_or-map, map-id}
use Rattle.entries.specs.Listed.{Difference, difference, differences_from, numbers_of}

pub differences-few : (i : ℕ) (xs ys : List ℕ) → length (differences_from i xs ys) ≤ length xs
unfolding differences_from
differences-few i [] ys = omega arith
differences-few i (x ∷ xs) [] = omega arith
differences-few i (x ∷ xs) (y ∷ ys) = go (eqb x y) (differences-few (suc i) xs ys)
  where
    go : (t : Bool) → length (differences_from (suc i) xs ys) ≤ length xs
        → length (cond t (differences_from (suc i) xs ys) (difference i x y ∷ differences_from (suc i) xs ys)) ≤ suc (length xs)
    go true h = omega arith
    go false h = omega arith

pub numbers-append : (a b : List Difference) → numbers_of (a ++ b) ≡ numbers_of a ++ numbers_of b
unfolding numbers_of
numbers-append [] b = refl
numbers-append (d ∷ a) b = ap (λ (l : List ℕ). d.at ∷ d.one ∷ d.two ∷ l) (numbers-append a b)

pub numbers-length : (ds : List Difference) → length (numbers_of ds) ≡ 3 * length ds
unfolding numbers_of
numbers-length [] = refl
numbers-length (d ∷ ds) = omega (arith, numbers-length ds)

-- one list stored behind another
pub sets-append : (l : List ℕ) (i : ℕ) (a b : List ℕ) → sets l i (a ++ b) ≡ sets (sets l i a) (i + length a) b
sets-append l i [] b = let e : i ≡ i + 0 = omega arith in ap (λ (n : ℕ). sets l n b) e
sets-append l i (x ∷ a) b =
    let e : suc i + length a ≡ i + suc (length a) = omega arith in
    sets-append (set l i x) (suc i) a b ∙ ap (λ (n : ℕ). sets (sets (set l i x) (suc i) a) n b) e

module _ (xs ys : List ℕ) where
  -- what differs from place i on
  abbrev pub apart_from : ℕ → List Difference
  apart_from i = differences_from i (drop i xs) (drop i ys)

  apart-end : (i : ℕ) → length xs ≤ i → apart_from i ≡ []
  unfolding differences_from
  apart-end i h = ap (λ (l : List ℕ). differences_from i l (drop i ys)) (drop_of_length-le xs h)

  module _ (i : ℕ) (h : i < length xs) (e : length xs ≡ length ys) where
    abbrev here : Bool → List Difference
    here t = cond t (apart_from (i + 1)) (difference i (get_or xs i 0) (get_or ys i 0) ∷ apart_from (i + 1))

    apart-here : apart_from i ≡ here (eqb (get_or xs i 0) (get_or ys i 0))
    unfolding differences_from
    apart-here =
        (λ k. differences_from i (drop-cons xs i 0 h k) (drop-cons ys i 0 below k))
        ∙ ap (λ (n : ℕ). cond (eqb (get_or xs i 0) (get_or ys i 0)) (differences_from n (drop n xs) (drop n ys)) (difference i (get_or xs i 0) (get_or ys i 0) ∷ differences_from n (drop n xs) (drop n ys))) (sym (add-one i))
      where
        below : i < length ys
        below = omega arith

    pub apart-same : get_or xs i 0 ≡ get_or ys i 0 → apart_from i ≡ apart_from (i + 1)
    apart-same f = apart-here ∙ ap here (eq-eqb (get_or xs i 0) (get_or ys i 0) f)

    pub apart_other : (get_or xs i 0 ≡ get_or ys i 0 → ⊥) → apart_from i ≡ difference i (get_or xs i 0) (get_or ys i 0) ∷ apart_from (i + 1)
    apart_other f = apart-here ∙ ap here (ne_eqb (get_or xs i 0) (get_or ys i 0) f)

-- the places before i counted
pub record Counting (xs ys : List ℕ) (count i : ℕ) : Type 0 where
  pub inside : i ≤ length xs
  pub few : count ≤ i
  pub comes : count + length (apart_from xs ys i) ≡ length (differences_from 0 xs ys)

pub counting : (xs ys : List ℕ) → Counting xs ys 0 0
counting xs ys = record { inside = omega arith; few = omega arith; comes = omega arith }

module _ {xs ys : List ℕ} {count i : ℕ} (k : Counting xs ys count i) where
  pub counts_on : {x y n : ℕ} → i < length xs → length xs ≡ length ys → x ≡ get_or xs i 0 → y ≡ get_or ys i 0 → n ≡ cond (eqb x y) 0 1 → Counting xs ys (count + n) (i + 1)
  counts_on {x} {y} {n} h e f g m =
      go (eqb (get_or xs i 0) (get_or ys i 0)) (ap length (apart-here xs ys i h e)) (m ∙ (λ j. cond (eqb (f j) (g j)) 0 1))
    where
      go : (t : Bool) → length (apart_from xs ys i) ≡ length (here xs ys i h e t) → n ≡ cond t 0 1 → Counting xs ys (count + n) (i + 1)
      go true a b = record { inside = omega arith; few = omega (arith, k.few); comes = omega (arith, k.comes, a, b) }
      go false a b = record { inside = omega arith; few = omega (arith, k.few); comes = omega (arith, k.comes, a, b) }

  pub counted-all : length xs ≤ i → count ≡ length (differences_from 0 xs ys)
  counted-all h = omega (arith, k.comes, ap length (apart-end xs ys i h))

-- the places before i listed, behind `from`: what is left, stored from here, comes to the whole
pub record Listing (xs ys l₀ : List ℕ) (from : ℕ) (l : List ℕ) (at i : ℕ) : Type 0 where
  pub inside : i ≤ length xs
  pub long : length l ≡ length l₀
  pub room : at + 3 * length (apart_from xs ys i) ≤ length l
  pub comes : sets l at (numbers_of (apart_from xs ys i)) ≡ sets l₀ from (numbers_of (differences_from 0 xs ys))

pub listing : (xs ys l : List ℕ) (from : ℕ) → from + 3 * length (differences_from 0 xs ys) ≤ length l → Listing xs ys l from l from 0
listing xs ys l from h = record { inside = omega arith; long = refl; room = h; comes = refl }

module _ {xs ys l₀ : List ℕ} {from : ℕ} {l : List ℕ} {at i : ℕ} (k : Listing xs ys l₀ from l at i) (h : i < length xs) (e : length xs ≡ length ys)
    {x y : ℕ} (p : x ≡ get_or xs i 0) (q : y ≡ get_or ys i 0) where
  pub lists-over : x ≡ y → Listing xs ys l₀ from l at (i + 1)
  lists-over f =
      let s = apart-same xs ys i h e (sym p ∙ f ∙ q) in
      record {
        inside = omega arith;
        long = k.long;
        room = omega (arith, k.room, ap length s);
        comes = ap (λ (ds : List Difference). sets l at (numbers_of ds)) (sym s) ∙ k.comes;
      }

  module _ (f : x ≡ y → ⊥) where
    abbrev other : apart_from xs ys i ≡ difference i (get_or xs i 0) (get_or ys i 0) ∷ apart_from xs ys (i + 1)
    other = apart_other xs ys i h e (λ g. f (p ∙ g ∙ sym q))

    pub entry-room : at + 3 ≤ length l
    entry-room = omega (arith, k.room, ap length other)

    pub lists-entry : {next : List ℕ} → next ≡ sets l at (i ∷ x ∷ y ∷ []) → Listing xs ys l₀ from next (at + 3) (i + 1)
    unfolding numbers_of
    lists-entry {next} g =
        let n : length next ≡ length l = ap length g ∙ length-sets l at (i ∷ x ∷ y ∷ []) in
        let three : at + 3 ≡ suc (suc (suc at)) = omega arith in
        record {
          inside = omega arith;
          long = n ∙ k.long;
          room = omega (arith, k.room, ap length other, n);
          comes = (λ j. sets ((g ∙ (λ m. sets l at (i ∷ p m ∷ q m ∷ []))) j) (three j) (numbers_of (apart_from xs ys (i + 1))))
              ∙ ap (λ (ds : List Difference). sets l at (numbers_of ds)) (sym other) ∙ k.comes;
        }

pub listed-all : {xs ys l₀ : List ℕ} {from : ℕ} {l : List ℕ} {at i : ℕ} → Listing xs ys l₀ from l at i → length xs ≤ i
    → l ≡ sets l₀ from (numbers_of (differences_from 0 xs ys))
unfolding numbers_of
listed-all {xs} {ys} {l₀} {from} {l} {at} {i} k h =
    sym (ap (λ (ds : List Difference). sets l at (numbers_of ds)) (apart-end xs ys i h)) ∙ k.comes

-- the value of what stands at a place
pub value-at : {X : Type 0} (f : X → ℕ) (xs : List X) (i : ℕ) {x : X} {v : ℕ} → i < length xs → x ≡ get_or xs i x → v ≡ f x → v ≡ get_or (map f xs) i 0
value-at f xs i {x} h e g = g ∙ ap f e ∙ sym (get_or-map f xs i x 0 h)

-- numbers are their own values
pub alike : (xs ys : List ℕ) → differences_from 0 (map (λ n. n) xs) (map (λ n. n) ys) ≡ differences_from 0 xs ys
alike xs ys = λ i. differences_from 0 (map-id xs i) (map-id ys i)
