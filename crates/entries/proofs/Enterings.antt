-- What differs, counted, and then listed or not.
use mathlib.Core.Path.{◌≡◌, refl, ap, sym, ◌∙◌}
use mathlib.Core.Bool.{Bool, true, false, cond, ◌||◌}
use mathlib.Core.List.{List, [], ◌∷◌, ◌++◌}
use mathlib.Core.Logic.{◌⊎◌, inl, inr}
use Prim.Native.Nat.{ℕ, zero, suc, ◌+◌, ◌-◌, ◌*◌, ◌/◌, ◌<◌, ◌≤◌, min}
use native.Mathlib.Omega.{arith}
use lib.Dec.{ltb, eqb}
use lib.ListN.{length, take}
use lib.Seq.{sets}
use borrow.Author.Tests.{lt-ltb, le-ltb, ltb-true, ltb-false}
use Rattle.ground.proofs.Tests.{either}
use Rattle.ground.proofs.Conjuncts.{neither}
use Rattle.entries.specs.Listed.{Difference, difference, differences_from, numbers_of}
use Rattle.entries.specs.Entered.{Entered, EnteredAll, entered_all, entered_of}
use Rattle.entries.proofs.Listings.{numbers-append, numbers-length, sets-append}

-- lists cut where the shorter ends differ as before
apart-cut : (i n : ℕ) (xs ys : List ℕ) → n ≡ min (length xs) (length ys) → differences_from i (take n xs) (take n ys) ≡ differences_from i xs ys
unfolding differences_from
apart-cut i zero [] ys e = refl
apart-cut i (suc n) [] ys e = refl
apart-cut i zero (x ∷ xs) [] e = refl
apart-cut i (suc n) (x ∷ xs) [] e = refl
apart-cut i zero (x ∷ xs) (y ∷ ys) e = absurd (omega arith)
apart-cut i (suc n) (x ∷ xs) (y ∷ ys) e =
    let h : n ≡ min (length xs) (length ys) = omega arith in
    ap (λ (l : List Difference). cond (eqb x y) l (difference i x y ∷ l)) (apart-cut (suc i) n xs ys h)

pub enters_cut : (list one two a b : List ℕ) {m n : ℕ} {o : EnteredAll} → m ≡ min (length one) (length two) → n ≡ min (length a) (length b)
    → o ≡ entered_of list (differences_from 0 (take m one) (take m two)) (differences_from 0 (take n a) (take n b))
    → o ≡ entered_of list (differences_from 0 one two) (differences_from 0 a b)
enters_cut list one two a b {m} {n} e f h = h ∙ (λ i. entered_of list (apart-cut 0 m one two e i) (apart-cut 0 n a b f i))

module _ (list : List ℕ) (ds es : List Difference) {m n : ℕ} (h : m ≡ length ds) (k : n ≡ length es) where
  judged : (t : Bool) → ltb (length list) (3 * (m + n)) ≡ t
      → cond t (entered_all (record { bytes = m; values = n; listed = false }) list) (entered_all (record { bytes = m; values = n; listed = true }) (sets list 0 (numbers_of (ds ++ es))))
      ≡ entered_of list ds es
  unfolding entered_of
  judged t e =
      ap (λ (t : Bool). cond t (entered_all (record { bytes = m; values = n; listed = false }) list) (entered_all (record { bytes = m; values = n; listed = true }) (sets list 0 (numbers_of (ds ++ es))))) (sym e)
      ∙ (λ i. cond (ltb (length list) (3 * (h i + k i))) (entered_all (record { bytes = h i; values = k i; listed = false }) list) (entered_all (record { bytes = h i; values = k i; listed = true }) (sets list 0 (numbers_of (ds ++ es)))))

  -- thirds of the list for the bytes' entries, and those that are left for the values'
  module _ {left : ℕ} (e : left ≡ length list / 3 - m) where
    pub enters-not : (ltb (length list / 3) m || ltb left n) ≡ true
        → entered_all (record { bytes = m; values = n; listed = false }) list ≡ entered_of list ds es
    enters-not t = judged true (lt-ltb (length list) (3 * (m + n)) (go (either (ltb (length list / 3) m) (ltb left n) t)))
      where
        go : (ltb (length list / 3) m ≡ true) ⊎ (ltb left n ≡ true) → length list < 3 * (m + n)
        go (inl x) = omega (arith, ltb-true (length list / 3) m x)
        go (inr x) = omega (arith, ltb-true left n x, e)

    module _ (t : (ltb (length list / 3) m || ltb left n) ≡ false) where
      pub enters-room : 3 * (m + n) ≤ length list
      enters-room =
          let x = neither (ltb (length list / 3) m) (ltb left n) t in
          omega (arith, ltb-false (length list / 3) m x.0, ltb-false left n x.1, e)

      pub enters-all : {l r : List ℕ} → l ≡ sets list 0 (numbers_of ds) → r ≡ sets l (3 * m) (numbers_of es)
          → entered_all (record { bytes = m; values = n; listed = true }) r ≡ entered_of list ds es
      enters-all {l} {r} f g =
          ap (entered_all (record { bytes = m; values = n; listed = true })) behind ∙ judged false (le-ltb (length list) (3 * (m + n)) enters-room)
        where
          at : 3 * m ≡ 0 + length (numbers_of ds)
          at = omega (arith, h, numbers-length ds)

          behind : r ≡ sets list 0 (numbers_of (ds ++ es))
          behind =
              g ∙ (λ i. sets (f i) (at i) (numbers_of es)) ∙ sym (sets-append list 0 (numbers_of ds) (numbers_of es))
              ∙ ap (sets list 0) (sym (numbers-append ds es))

-- the counts, entered or not
module _ (list : List ℕ) (ds es : List Difference) {x : Entered} {l : List ℕ} (e : entered_all x l ≡ entered_of list ds es) where
  pub bytes-are : x.bytes ≡ length ds
  unfolding entered_of
  bytes-are = ap (λ (y : EnteredAll). y.entered.bytes) e ∙ go (ltb (length list) (3 * (length ds + length es)))
    where
      go : (t : Bool)
          → (cond t (entered_all (record { bytes = length ds; values = length es; listed = false }) list) (entered_all (record { bytes = length ds; values = length es; listed = true }) (sets list 0 (numbers_of (ds ++ es))))).entered.bytes
          ≡ length ds
      go true = refl
      go false = refl

  pub values-are : x.values ≡ length es
  unfolding entered_of
  values-are = ap (λ (y : EnteredAll). y.entered.values) e ∙ go (ltb (length list) (3 * (length ds + length es)))
    where
      go : (t : Bool)
          → (cond t (entered_all (record { bytes = length ds; values = length es; listed = false }) list) (entered_all (record { bytes = length ds; values = length es; listed = true }) (sets list 0 (numbers_of (ds ++ es))))).entered.values
          ≡ length es
      go true = refl
      go false = refl
