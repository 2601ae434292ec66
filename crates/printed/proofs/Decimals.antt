-- The laws of numbers in decimal.
use mathlib.Core.Path.{◌≡◌, ap, ◌∙◌}
use mathlib.Core.Bool.{cond}
use mathlib.Core.List.{List, [], ◌∷◌, ◌++◌}
use Prim.Native.Nat.{ℕ, zero, suc, ◌+◌, ◌*◌, ◌/◌, ◌%◌, ◌^◌, ◌≤◌, ◌<◌}
use native.Mathlib.Nat.{pow-suc, lt_of_lt_of_le}
use native.Mathlib.Decide.{dec_lt}
use native.Mathlib.Omega.{arith}
use lib.Dec.{ltb, lit<}
use lib.ListN.{length, length-append}
use borrow.Author.Tests.{lt-ltb, le-ltb}
use Rattle.printed.specs.Text.{digits, decimal}

-- the digits do not depend on how many are allowed, where enough are
enough : (j k n : ℕ) → n < j → n < k → digits j n ≡ digits k n
unfolding digits
enough zero k n h l = absurd (omega arith)
enough (suc j) zero n h l = absurd (omega arith)
enough (suc j) (suc k) n h l = go (dec_lt n 10) (λ s. enough j k (n / 10) (omega arith) (omega arith))
  where
    go : Dec (n < 10) → (10 ≤ n → digits j (n / 10) ≡ digits k (n / 10))
        → cond (ltb n 10) [] (digits j (n / 10)) ++ ((48 + n % 10) ∷ []) ≡ cond (ltb n 10) [] (digits k (n / 10)) ++ ((48 + n % 10) ∷ [])
    go (yes s) f = rw (lt-ltb n 10 s)
    go (no s) f = rw (le-ltb n 10 (omega arith)) (ap (λ (l : List ℕ). l ++ ((48 + n % 10) ∷ [])) (f (omega arith)))

pub decimal-one : (n : ℕ) → n < 10 → decimal n ≡ (48 + n % 10) ∷ []
unfolding decimal digits
decimal-one n h = rw (lt-ltb n 10 h)

pub decimal-more : (n : ℕ) → 10 ≤ n → decimal n ≡ decimal (n / 10) ++ ((48 + n % 10) ∷ [])
unfolding decimal digits
decimal-more n h =
    ap (λ t. cond t [] (digits n (n / 10)) ++ ((48 + n % 10) ∷ [])) (le-ltb n 10 h)
    ∙ ap (λ (l : List ℕ). l ++ ((48 + n % 10) ∷ [])) (enough n (suc (n / 10)) (n / 10) (omega arith) (omega arith))

few : (k n : ℕ) → n < 10 ^ suc k → length (decimal n) ≤ suc k
few zero n h = rw (decimal-one n h) (omega arith)
few (suc k) n h = go (dec_lt n 10) (few k (n / 10))
  where
    go : Dec (n < 10) → (n / 10 < 10 ^ suc k → length (decimal (n / 10)) ≤ suc k) → length (decimal n) ≤ suc (suc k)
    go (yes s) f = rw (decimal-one n s) (omega arith)
    go (no s) f =
        let e : 10 ^ suc (suc k) ≡ 10 ^ suc k * 10 = pow-suc 10 (suc k) in
        rw (decimal-more n (omega arith), length-append) (omega (arith, f (omega arith)))

-- a number of 64 bits has at most 20 digits
pub decimal-few : (n : ℕ) → n < 2 ^ 64 → length (decimal n) ≤ 20
decimal-few n h = few 19 n (lt_of_lt_of_le h (lit< tt))
