-- All dots of a cell of six or eight, and the low bits of a byte.
use Rattle.std.proofs.Common.{◌≡◌, ℕ, ◌-◌, ◌%◌, ◌^◌, ◌<◌, ◌≤◌, min, ◌⊎◌, sym, ap, ◌∙◌, ⊎_elim, lt_of_lt_of_le, le_of_lt, mod-eq_of_lt, arith, pow_mono}
use native.Mathlib.Decide.{dec_lt}
use native.Mathlib.Nat.{min-eq_left, min-eq_right}
use Rattle.ground.specs.Bytes.{full_of}

pub full-low : (w : ℕ) → (w ≡ 6) ⊎ (w ≡ 8) → full_of w ≡ 2 ^ w - 1
full-low w h = ⊎_elim (λ (e : w ≡ 6). simp e) (λ (e : w ≡ 8). simp e) h

-- past eight bits the whole byte is low
pub low_byte : (n w : ℕ) → n < 256 → n % 2 ^ min w 8 ≡ n % 2 ^ w
low_byte n w h = go (dec_lt w 8)
  where
    go : Dec (w < 8) → n % 2 ^ min w 8 ≡ n % 2 ^ w
    go (yes l) = ap (λ (m : ℕ). n % 2 ^ m) (min-eq_left (le_of_lt l))
    go (no l) =
        let few : 8 ≤ w = omega arith in
        ap (λ (m : ℕ). n % 2 ^ m) (min-eq_right few) ∙ mod-eq_of_lt h ∙ sym (mod-eq_of_lt (lt_of_lt_of_le h (pow_mono few)))
