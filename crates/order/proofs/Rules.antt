-- The rule in the request's words and the rule as a test are one.
use mathlib.Core.Path.{◌≡◌, refl, sym, ap, ◌∙◌}
use mathlib.Core.Bool.{Bool, true, false, not, ◌&&◌, ◌||◌, true≢false}
use mathlib.Core.Logic.{◌⊎◌, inl, inr}
use Prim.Native.Nat.{ℕ, ◌+◌, ◌<◌, ◌≤◌}
use native.Mathlib.Decide.{dec_le}
use native.Mathlib.Omega.{arith}
use lib.Dec.{ltb, leb}
use borrow.Author.Tests.{ltb-true, leb-true, lt-ltb, le-leb, not-true}
use Rattle.ground.proofs.Tests.{both, both_left, both_right, either}
use Rattle.state.specs.declared.panel.Panel.{Panel}
use Rattle.book.specs.Operation.{Operation}
use Rattle.order.specs.declared.area.Area.{Area}
use Rattle.order.specs.Order.{operation_number, area_of, uses, unlike_numbers, one_plane, Free, unlike, apart, meets, shares, may_of}

-- a stretch of n places from s on has i
abbrev within : ℕ → ℕ → ℕ → Bool
within s n i = leb s i && ltb i (s + n)

-- a place in both stretches is one in common
common : (s m t n i : ℕ) → within s m i ≡ true → within t n i ≡ true → meets s m t n ≡ true
common s m t n i x y =
    let a : s ≤ i = leb-true s i (both_left (leb s i) (ltb i (s + m)) x) in
    let b : i < s + m = ltb-true i (s + m) (both_right (leb s i) (ltb i (s + m)) x) in
    let c : t ≤ i = leb-true t i (both_left (leb t i) (ltb i (t + n)) y) in
    let d : i < t + n = ltb-true i (t + n) (both_right (leb t i) (ltb i (t + n)) y) in
    both (both (lt-ltb 0 m (omega arith)) (lt-ltb 0 n (omega arith))) (both (lt-ltb s (t + n) (omega arith)) (lt-ltb t (s + m) (omega arith)))

-- and where two have one in common, there is a place in both
pub record Common (s m t n : ℕ) : Type 0 where
  pub at : ℕ
  pub first : within s m at ≡ true
  pub second : within t n at ≡ true

in-common : (s m t n : ℕ) → meets s m t n ≡ true → Common s m t n
in-common s m t n e = go (dec_le s t)
  where
    some : (ltb 0 m && ltb 0 n) ≡ true
    some = both_left (ltb 0 m && ltb 0 n) (ltb s (t + n) && ltb t (s + m)) e

    reach : (ltb s (t + n) && ltb t (s + m)) ≡ true
    reach = both_right (ltb 0 m && ltb 0 n) (ltb s (t + n) && ltb t (s + m)) e

    a : 0 < m
    a = ltb-true 0 m (both_left (ltb 0 m) (ltb 0 n) some)

    b : 0 < n
    b = ltb-true 0 n (both_right (ltb 0 m) (ltb 0 n) some)

    c : s < t + n
    c = ltb-true s (t + n) (both_left (ltb s (t + n)) (ltb t (s + m)) reach)

    d : t < s + m
    d = ltb-true t (s + m) (both_right (ltb s (t + n)) (ltb t (s + m)) reach)

    go : Dec (s ≤ t) → Common s m t n
    go (yes l) =
        record {
          at = t;
          first = both (le-leb s t l) (lt-ltb t (s + m) d);
          second = both (le-leb t t (omega arith)) (lt-ltb t (t + n) (omega (arith, b)));
        }
    go (no l) =
        record {
          at = s;
          first = both (le-leb s s (omega arith)) (lt-ltb s (s + m) (omega (arith, a)));
          second = both (le-leb t s (omega arith)) (lt-ltb s (t + n) c);
        }

shared : (a b : Area) (r c : ℕ) → uses a r c ≡ true → uses b r c ≡ true → shares a b ≡ true
shared a b r c x y =
    both
    (common a.top a.height b.top b.height r (both_left (within a.top a.height r) (within a.left a.width c) x) (both_left (within b.top b.height r) (within b.left b.width c) y))
    (common a.left a.width b.left b.width c (both_right (within a.top a.height r) (within a.left a.width c) x) (both_right (within b.top b.height r) (within b.left b.width c) y))

-- no place in common
unshared : (a b : Area) → shares a b ≡ false → (r c : ℕ) → uses a r c ≡ true → uses b r c ≡ false
unshared a b e r c x = go (uses b r c) refl
  where
    go : (t : Bool) → uses b r c ≡ t → uses b r c ≡ false
    go true y = absurd (true≢false (sym (shared a b r c x y) ∙ e))
    go false y = y

not-shared : (a b : Area) → ((r c : ℕ) → uses a r c ≡ true → uses b r c ≡ false) → shares a b ≡ false
not-shared a b h = go (shares a b) refl
  where
    go : (t : Bool) → shares a b ≡ t → shares a b ≡ false
    go false e = e
    go true e =
        let rows = in-common a.top a.height b.top b.height (both_left (meets a.top a.height b.top b.height) (meets a.left a.width b.left b.width) e) in
        let columns = in-common a.left a.width b.left b.width (both_right (meets a.top a.height b.top b.height) (meets a.left a.width b.left b.width) e) in
        absurd (true≢false (sym (both rows.second columns.second) ∙ h rows.at columns.at (both rows.first columns.first)))

is-not : {t : Bool} → t ≡ false → not t ≡ true
is-not e = ap not e

or_right : (a b : Bool) → b ≡ true → (a || b) ≡ true
or_right true b e = refl
or_right false b e = e

or_left : (a b : Bool) → a ≡ true → (a || b) ≡ true
or_left a b e = ap (λ (t : Bool). t || b) e

module _ (p : Panel) (a b : Operation) where
  abbrev m : ℕ
  m = operation_number a

  abbrev n : ℕ
  n = operation_number b

  pub may_free : may_of p a b ≡ true → Free p a b
  may_free e = go (either (unlike_numbers m n) (one_plane m n && not (shares (area_of p a) (area_of p b))) e)
    where
      go : (unlike_numbers (operation_number a) (operation_number b) ≡ true)
          ⊎ ((one_plane (operation_number a) (operation_number b) && not (shares (area_of p a) (area_of p b))) ≡ true) → Free p a b
      go (inl h) = unlike h
      go (inr h) =
          apart (both_left (one_plane m n) (not (shares (area_of p a) (area_of p b))) h)
          (unshared (area_of p a) (area_of p b) (not-true (shares (area_of p a) (area_of p b)) (both_right (one_plane m n) (not (shares (area_of p a) (area_of p b))) h)))

  pub free-may : Free p a b → may_of p a b ≡ true
  free-may (unlike h) = or_left (unlike_numbers m n) (one_plane m n && not (shares (area_of p a) (area_of p b))) h
  free-may (apart h k) =
      or_right (unlike_numbers m n) (one_plane m n && not (shares (area_of p a) (area_of p b))) (both h (is-not (not-shared (area_of p a) (area_of p b) k)))
