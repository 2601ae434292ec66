-- Sums and products that go round: the remainder may be taken early.
use Rattle.std.proofs.Common.{◌≡◌, ℕ, ◌+◌, ◌*◌, ◌/◌, ◌%◌, sym, ap, ◌∙◌, mul_assoc, add-mul}
use native.Mathlib.Nat.{add-mod, add-mod-mod, mod-add-div, add-mul-mod_self_left}

mul-mod : (a b m : ℕ) → a % m * b % m ≡ a * b % m
mul-mod a b m =
    sym
    (ap (λ (n : ℕ). n * b % m) (sym (mod-add-div a m)) ∙ ap (λ (n : ℕ). n % m) (add-mul (a % m) (m * (a / m)) b)
    ∙ ap (λ (n : ℕ). (a % m * b + n) % m) (mul_assoc m (a / m) b)
    ∙ add-mul-mod_self_left (a % m * b) m (a / m * b))

-- home + row·area + column, each term taken modulo m before it is added
pub round : (home row area column m : ℕ) → ((home + row % m * area % m) % m + column % m) % m ≡ (home + row * area + column) % m
round home row area column m =
    ap (λ (n : ℕ). ((home + n) % m + column % m) % m) (mul-mod row area m)
    ∙ ap (λ (n : ℕ). (n + column % m) % m) (add-mod-mod home (row * area) m)
    ∙ sym (add-mod (home + row * area) column m)
