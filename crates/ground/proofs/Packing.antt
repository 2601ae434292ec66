-- The laws of packed dots.
use Rattle.std.proofs.Common.{◌≡◌, ℕ, zero, suc, ◌+◌, ◌-◌, ◌*◌, ◌/◌, ◌%◌, ◌^◌, ◌<◌, ◌≤◌, Bool, true, false, cond, ltb, length, refl, ap, ◌∙◌, add-suc, mul_assoc, div-lt_iff_lt-mul, pow-suc, arith, le-ltb, lt-ltb}
use native.Mathlib.Decide.{dec_lt}
use lib.Pow.{high}
use Rattle.ground.specs.Packing.{dot_at, packed, row_bytes, row_from}
use Rattle.ground.proofs.Lists.{build-length, build-cong}

-- over any dots
module _ (dot : ℕ → ℕ) where
  -- dots after dots
  pub packed-add : (s n m : ℕ) → packed dot s (n + m) ≡ packed dot s n * 2 ^ m + packed dot (s + n) m
  unfolding packed
  packed-add s n zero = let e : n + 0 ≡ n = omega arith in rw e (omega arith)
  packed-add s n (suc m) =
      let e : packed dot s (n + m) ≡ packed dot s n * 2 ^ m + packed dot (s + n) m = packed-add s n m in
      let a : s + (n + m) ≡ s + n + m = omega arith in
      let k : packed dot s n * 2 ^ suc m ≡ packed dot s n * 2 ^ m * 2 = rw (pow-suc, mul_assoc) in
      rw (add-suc n m, a, k) (omega arith)

  module _ (h : (x : ℕ) → dot x < 2) where
    -- n dots fit n bits
    pub packed_lt : (s n : ℕ) → packed dot s n < 2 ^ n
    unfolding packed
    packed_lt s zero = omega arith
    packed_lt s (suc n) = let e : packed dot s n < 2 ^ n = packed_lt s n in rw pow-suc (omega (arith, h (s + n)))

    -- a dot out of packed ones
    pub packed-bit : (s n i : ℕ) → i < n → packed dot s n / 2 ^ (n - 1 - i) % 2 ≡ dot (s + i)
    unfolding packed
    packed-bit s n i l =
        let e : n ≡ suc i + (n - 1 - i) = omega arith in
        let a : packed dot s n ≡ packed dot s (suc i) * 2 ^ (n - 1 - i) + packed dot (s + suc i) (n - 1 - i) =
        ap (packed dot s) e ∙ packed-add s (suc i) (n - 1 - i) in
        let b : packed dot s n / 2 ^ (n - 1 - i) ≡ packed dot s i * 2 + dot (s + i) =
        ap (λ (x : ℕ). x / 2 ^ (n - 1 - i)) a ∙ high (packed dot s (suc i)) (n - 1 - i) (packed_lt (s + suc i) (n - 1 - i)) in
        ap (λ (x : ℕ). x % 2) b ∙ (omega (arith, h (s + i)))

pub packed-cong : (f g : ℕ → ℕ) → ((x : ℕ) → f x ≡ g x) → (s n : ℕ) → packed f s n ≡ packed g s n
unfolding packed
packed-cong f g h s zero = refl
packed-cong f g h s (suc n) = λ i. packed-cong f g h s n i * 2 + h (s + n) i

-- over the dots of cells
module _ (C w : ℕ) where
  module _ (cell : ℕ → ℕ) where
    pub dot-lt : (x : ℕ) → dot_at C w cell x < 2
    unfolding dot_at
    dot-lt x = go (ltb x (C * w))
      where
        go : (b : Bool) → cond b (cell (x / w) / 2 ^ (w - 1 - x % w) % 2) 0 < 2
        go true = omega arith
        go false = omega arith

    pub dot-in : (x : ℕ) {b : ℕ} → x < C * w → b ≡ cell (x / w) → b / 2 ^ (w - 1 - x % w) % 2 ≡ dot_at C w cell x
    unfolding dot_at
    dot-in x h e = rw (lt-ltb x (C * w) h, e)

    pub dot-out : (x : ℕ) → C * w ≤ x → dot_at C w cell x ≡ 0
    unfolding dot_at
    dot-out x h = rw (le-ltb x (C * w) h)

    pub row-length : length (row_from C w cell) ≡ row_bytes C w
    unfolding row_from
    row-length = build-length (row_bytes C w) _

  dot-cong : 0 < w → (f g : ℕ → ℕ) → ((c : ℕ) → c < C → f c ≡ g c) → (x : ℕ) → dot_at C w f x ≡ dot_at C w g x
  unfolding dot_at
  dot-cong p f g h x = go (dec_lt x (C * w))
    where
      go : Dec (x < C * w) → cond (ltb x (C * w)) (f (x / w) / 2 ^ (w - 1 - x % w) % 2) 0 ≡ cond (ltb x (C * w)) (g (x / w) / 2 ^ (w - 1 - x % w) % 2) 0
      go (yes l) = ap (λ (y : ℕ). cond (ltb x (C * w)) (y / 2 ^ (w - 1 - x % w) % 2) 0) (h (x / w) ((div-lt_iff_lt-mul p).1 l))
      go (no l) = rw (le-ltb x (C * w) (omega arith))

  -- equal cells make equal rows
  pub row-cong : 0 < w → (f g : ℕ → ℕ) → ((c : ℕ) → c < C → f c ≡ g c) → row_from C w f ≡ row_from C w g
  unfolding row_from
  row-cong p f g h =
      build-cong (row_bytes C w) _ _ (λ j l. packed-cong (dot_at C w f) (dot_at C w g) (λ x. dot-cong p f g h x) (8 * j) 8)
