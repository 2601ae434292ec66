-- Entries behind one another in the list: what is noted is what was stored.
use Rattle.std.proofs.Common.{◌≡◌, ℕ, zero, suc, ◌+◌, ◌-◌, ◌*◌, ◌/◌, ◌^◌, ◌<◌, ◌≤◌, Bool, true, false, cond, ltb, List, [], ◌∷◌, ◌++◌, length, take, set, sym, refl, ap, ◌∙◌, subst, append_assoc, append-nil, arith, length-append, take_all, ltb-false, ltb-true}
use lib.Seq.{sets, take-nil, take-append-le}
use Rattle.noting.specs.Stretch.{Store, in_stretch, stores_in, store_numbers}
use Rattle.noting.specs.Noted.{room_of, capped, Noting, noting, entry_of, entered, noted_each}
use Rattle.noting.proofs.Notes.{entered-long, capped-least, capped-more}

numbers-append : (a b : List Store) → store_numbers (a ++ b) ≡ store_numbers a ++ store_numbers b
unfolding store_numbers
numbers-append [] b = refl
numbers-append (x ∷ a) b = ap (λ (l : List ℕ). x.pair ∷ x.address ∷ x.before ∷ x.after ∷ l) (numbers-append a b)

pub numbers-length : (a : List Store) → length (store_numbers a) ≡ 4 * length a
unfolding store_numbers
numbers-length [] = refl
numbers-length (x ∷ a) = omega (arith, numbers-length a)

sets-append : (l : List ℕ) (i : ℕ) (a b : List ℕ) → sets l i (a ++ b) ≡ sets (sets l i a) (i + length a) b
sets-append l i [] b = let e : i ≡ i + 0 = omega arith in ap (λ (n : ℕ). sets l n b) e
sets-append l i (x ∷ a) b =
    let e : suc i + length a ≡ i + suc (length a) = omega arith in
    sets-append (set l i x) (suc i) a b ∙ ap (λ (n : ℕ). sets (sets (set l i x) (suc i) a) n b) e

capped-below : (n m : ℕ) → m < 2 ^ 64 - 1 → capped n < m → capped n ≡ n
capped-below n m l h = go (ltb n (2 ^ 64)) h
  where
    go : (t : Bool) → cond t n (2 ^ 64 - 1) < m → cond t n (2 ^ 64 - 1) ≡ n
    go true h = refl
    go false h = absurd (let y : ⊥ = omega arith in y)

-- the list holds the stores, as many as there is room for
pub record Holds (list₀ : List ℕ) (es : List Store) (n : Noting) : Type 0 where
  pub long : length n.list ≡ length list₀
  pub counts : n.count ≡ capped (length es)
  pub lists : n.list ≡ sets list₀ 0 (store_numbers (take (room_of list₀) es))

pub holds-none : (list₀ : List ℕ) → Holds list₀ [] (noting 0 list₀)
unfolding store_numbers
holds-none list₀ =
    record { long = refl; counts = refl; lists = sym (ap (λ (l : List Store). sets list₀ 0 (store_numbers l)) (take-nil (room_of list₀))) }

-- room below 2^64 - 1, which a list's length leaves
module _ (list₀ : List ℕ) (few : room_of list₀ < 2 ^ 64 - 1) where
  module _ (es : List Store) (n : Noting) (k : Holds list₀ es n) (x : Store) where
    room-same : room_of n.list ≡ room_of list₀
    room-same = ap (λ (m : ℕ). m / 4) k.long

    more-stores : length (es ++ (x ∷ [])) ≡ length es + 1
    more-stores = length-append es (x ∷ [])

    behind : (t : Bool) → ltb n.count (room_of n.list) ≡ t
        → cond t (sets n.list (4 * n.count) (entry_of x)) n.list ≡ sets list₀ 0 (store_numbers (take (room_of list₀) (es ++ (x ∷ []))))
    unfolding store_numbers
    behind true e =
        let below : n.count < room_of list₀ = subst (λ (m : ℕ). n.count < m) room-same (ltb-true n.count (room_of n.list) e) in
        let exact : n.count ≡ length es = k.counts ∙ capped-below (length es) (room_of list₀) few (subst (λ (m : ℕ). m < room_of list₀) k.counts below) in
        let place : 4 * n.count ≡ 0 + length (store_numbers es) = omega (arith, exact, numbers-length es) in
        (λ i. sets (k.lists i) (place i) (entry_of x))
        ∙ ap (λ (l : List Store). sets (sets list₀ 0 (store_numbers l)) (0 + length (store_numbers es)) (entry_of x)) (take_all (room_of list₀) es (omega (arith, exact, below)))
        ∙ sym (sets-append list₀ 0 (store_numbers es) (entry_of x))
        ∙ ap (sets list₀ 0) (sym (numbers-append es (x ∷ [])))
        ∙ sym (ap (λ (l : List Store). sets list₀ 0 (store_numbers l)) (take_all (room_of list₀) (es ++ (x ∷ [])) (omega (arith, exact, below, more-stores))))
    behind false e =
        let above : room_of list₀ ≤ n.count = subst (λ (m : ℕ). m ≤ n.count) room-same (ltb-false n.count (room_of n.list) e) in
        let least = capped-least (length es) in
        k.lists
        ∙ sym (ap (λ (l : List Store). sets list₀ 0 (store_numbers l)) (take-append-le (room_of list₀) es (x ∷ []) (omega (arith, above, k.counts, least))))

    holds-entered : Holds list₀ (es ++ (x ∷ [])) (entered x n)
    holds-entered =
        record {
          long = entered-long x n ∙ k.long;
          counts = ap (λ (m : ℕ). capped (m + 1)) k.counts ∙ capped-more (length es) ∙ ap capped (sym more-stores);
          lists = behind (ltb n.count (room_of n.list)) refl;
        }

  holds-noted : (es : List Store) (n : Noting) → Holds list₀ es n → (x : Store) (t : Bool) → Holds list₀ (es ++ cond t (x ∷ []) []) (cond t (entered x n) n)
  holds-noted es n k x true = holds-entered es n k x
  holds-noted es n k x false = subst (λ (l : List Store). Holds list₀ l n) (sym (append-nil es)) k

  -- all that a pair stores
  pub holds-all : (first last : ℕ) (f : ℕ → Store) (j : ℕ) (es : List Store) (n : Noting) → Holds list₀ es n
      → Holds list₀ (es ++ stores_in first last f j) (noted_each first last f j n)
  unfolding stores_in noted_each
  holds-all first last f zero es n k = subst (λ (l : List Store). Holds list₀ l n) (sym (append-nil es)) k
  holds-all first last f (suc j) es n k =
      subst (λ (l : List Store). Holds list₀ l (noted_each first last f (suc j) n))
      (append_assoc es (stores_in first last f j) (cond (in_stretch first last (f j).address) (f j ∷ []) []))
      (holds-noted (es ++ stores_in first last f j) (noted_each first last f j n) (holds-all first last f j es n k) (f j) (in_stretch first last (f j).address))
