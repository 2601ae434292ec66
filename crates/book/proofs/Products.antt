-- Comparisons with a product, by parts.
use mathlib.Core.Path.{◌≡◌, refl, ap, sym, ◌∙◌}
use mathlib.Core.Bool.{Bool, true, false}
use Prim.Native.Nat.{ℕ, suc, ◌-◌, ◌*◌, ◌/◌, ◌<◌}
use native.Mathlib.Nat.{div-lt_iff_lt-mul, le-div_iff_mul-le}
use native.Mathlib.Omega.{arith}
use lib.Dec.{ltb, leb}
use borrow.Author.Tests.{lt-ltb, le-ltb, le-leb, ltb-true, ltb-false}

pub none_below : (x a : ℕ) {b : ℕ} → b ≡ 0 → false ≡ ltb x (a * b)
none_below x a e = sym (le-ltb x _ (rw e (omega arith)))

-- x / b < a just where x < a·b
pub below_parts : (x a : ℕ) {b : ℕ} → (b ≡ 0 → ⊥) → ltb (x / b) a ≡ ltb x (a * b)
below_parts x a {b} h = go (ltb x (a * b)) refl
  where
    some : 0 < b
    some = omega arith

    go : (t : Bool) → ltb x (a * b) ≡ t → ltb (x / b) a ≡ t
    go true e = lt-ltb (x / b) a ((div-lt_iff_lt-mul some).1 (ltb-true x (a * b) e))
    go false e = le-ltb (x / b) a ((le-div_iff_mul-le some).1 (ltb-false x (a * b) e))

pub zero-within : (m : ℕ) {x : ℕ} → x ≡ 0 → true ≡ leb x m
zero-within m e = sym (le-leb _ m (omega arith))

pub within-below : (m : ℕ) {x : ℕ} {r : Bool} → (x ≡ 0 → ⊥) → r ≡ ltb (x - 1) m → r ≡ leb x m
within-below m {x} h e = e ∙ ap (λ (n : ℕ). leb n m) (let k : suc (x - 1) ≡ x = omega arith in k)
