-- Stores noted one behind the other.
use native.Mathlib.Decide.{dec_lt}
use Rattle.std.proofs.Common.{min, ◌≡◌, ℕ, zero, suc, ◌+◌, ◌-◌, ◌*◌, ◌^◌, ◌<◌, ◌≤◌, Bool, true, false, cond, not, ltb, List, [], ◌∷◌, length, sym, refl, ap, ◌∙◌, add-one, arith, ltb-false, le-ltb, lt-ltb}
use lib.Seq.{sets, length-sets}
use borrow.Author.Tests.{not-false}
use Rattle.noting.specs.Stretch.{Store, store, in_stretch}
use Rattle.noting.specs.Noted.{room_of, capped, Noting, noting, entry_of, entered, noted_by, noted_each}

-- so many more, as 64 bits say it
pub plus-counts : (count n : ℕ) → count + n < 2 ^ 64 → count + n ≡ capped (count + n)
plus-counts count n l = sym (ap (λ (t : Bool). cond t (count + n) (2 ^ 64 - 1)) (lt-ltb (count + n) (2 ^ 64) l))

pub saturated : (n : ℕ) {m : ℕ} → m ≡ min n (2 ^ 64 - 1) → m ≡ capped n
saturated n {m} e = go (dec_lt n (2 ^ 64))
  where
    go : Dec (n < 2 ^ 64) → m ≡ capped n
    go (yes h) = (let z : m ≡ n = omega (arith, e, h) in z) ∙ sym (ap (λ (t : Bool). cond t n (2 ^ 64 - 1)) (lt-ltb n (2 ^ 64) h))
    go (no h) = (let z : m ≡ 2 ^ 64 - 1 = omega (arith, e, h) in z) ∙ sym (ap (λ (t : Bool). cond t n (2 ^ 64 - 1)) (le-ltb n (2 ^ 64) (omega (arith, h))))

-- a store outside the stretch; inside it, without room and with room
module _ (first last count pair address before after : ℕ) (list : List ℕ) where
  abbrev due : Noting
  due = noted_by first last (store pair address before after) (noting count list)

  abbrev by_tests : Bool → Bool → Noting
  by_tests t u =
      cond t (noting (capped (count + 1)) (cond u (sets list (4 * count) (pair ∷ address ∷ before ∷ after ∷ [])) list)) (noting count list)

  module _ {b : Bool} (e : b ≡ in_stretch first last address) (h : not b ≡ false) {r : ℕ} (m : r ≡ capped (count + 1)) where
    pub note-room : count < room_of list → {next : List ℕ} → next ≡ sets list (4 * count) (pair ∷ address ∷ before ∷ after ∷ []) → noting r next ≡ due
    note-room l {next} f =
        (λ i. noting (m i) (f i))
        ∙ (λ i. by_tests ((sym (not-false b h) ∙ e) i) (sym (lt-ltb count (room_of list) l) i))

-- the list stays as long as it was
pub entered-long : (x : Store) (n : Noting) → length (entered x n).list ≡ length n.list
entered-long x n = go (ltb n.count (room_of n.list))
  where
    go : (t : Bool) → length (cond t (sets n.list (4 * n.count) (entry_of x)) n.list) ≡ length n.list
    go true = length-sets n.list (4 * n.count) (entry_of x)
    go false = refl

module _ (first last : ℕ) where
  pub notes-none : (f : ℕ → Store) (n : Noting) → n ≡ noted_each first last f 0 n
  unfolding noted_each
  notes-none f n = refl

  pub notes-one : (f : ℕ → Store) (n : Noting) → noted_by first last (f 0) n ≡ noted_each first last f 1 n
  unfolding noted_each
  notes-one f n = refl

  pub notes-more : (f : ℕ → Store) (k : ℕ) (n : Noting) → noted_by first last (f k) (noted_each first last f k n) ≡ noted_each first last f (k + 1) n
  unfolding noted_each
  notes-more f k n = ap (λ (j : ℕ). noted_each first last f j n) (sym (add-one k))

  pub notes-same : (f g : ℕ → Store) (k : ℕ) (n : Noting) → ((j : ℕ) → j < k → f j ≡ g j) → noted_each first last f k n ≡ noted_each first last g k n
  unfolding noted_each
  notes-same f g zero n h = refl
  notes-same f g (suc k) n h = λ i. noted_by first last (h k (omega arith) i) (notes-same f g k n (λ j l. h j (omega arith)) i)

pub capped-least : (n : ℕ) → capped n ≤ n
capped-least n = go (ltb n (2 ^ 64)) refl
  where
    go : (t : Bool) → ltb n (2 ^ 64) ≡ t → cond t n (2 ^ 64 - 1) ≤ n
    go true e = omega arith
    go false e = let l = ltb-false n (2 ^ 64) e in omega (arith, l)

pub capped-more : (n : ℕ) → capped (capped n + 1) ≡ capped (n + 1)
capped-more n = go (ltb n (2 ^ 64)) refl
  where
    go : (t : Bool) → ltb n (2 ^ 64) ≡ t → capped (cond t n (2 ^ 64 - 1) + 1) ≡ capped (n + 1)
    go true e = refl
    go false e =
        let l = ltb-false n (2 ^ 64) e in
        sym (ap (λ (t : Bool). cond t (n + 1) (2 ^ 64 - 1)) (le-ltb (n + 1) (2 ^ 64) (omega (arith, l))))
