-- Rows of cells in a list, a byte at a time: four cells of six dots are three bytes, a cell of eight is one.
use Rattle.std.proofs.Common.{◌≡◌, ℕ, zero, suc, ◌+◌, ◌-◌, ◌*◌, ◌/◌, ◌%◌, ◌^◌, ◌<◌, ◌≤◌, ◌⊎◌, List, length, get_or, set, sym, refl, ap, ◌∙◌, inl, inr, div-lt_iff_lt-mul, add-one, arith, pow_pos, shr-shr}
use native.Mathlib.Decide.{dec_lt}
use lib.Pow.{mod-pow-add}
use lib.ListN.{get_or-eq_default}
use Rattle.ground.specs.Packing.{packed, row_bytes, dot_in, row_in}
use Rattle.ground.proofs.Filling.{Filled, none_yet, as_long, one_more, three-more, at-end}
use Rattle.ground.proofs.Packing.{packed-add, dot-in, dot-out}
use Rattle.ground.proofs.Packs.{byte_in, row-built}

-- dots that are neighbouring bits of a number, packed again
pub bits : (dot : ℕ → ℕ) (v s n m : ℕ) → ((j : ℕ) → j < n → dot (s + j) ≡ v / 2 ^ (m + (n - 1 - j)) % 2) → packed dot s n ≡ v / 2 ^ m % 2 ^ n
unfolding packed
bits dot v s zero m h = omega arith
bits dot v s (suc n) m h =
    let a : packed dot s n ≡ v / 2 ^ (m + 1) % 2 ^ n =
    bits dot v s n (m + 1) (λ j l. h j (omega arith) ∙ ap (λ (x : ℕ). v / 2 ^ x % 2) (omega arith)) in
    let b : dot (s + n) ≡ v / 2 ^ m % 2 = h n (omega arith) ∙ ap (λ (x : ℕ). v / 2 ^ x % 2) (omega arith) in
    (λ i. a i * 2 + b i) ∙ ap (λ (x : ℕ). x % 2 ^ n * 2 + v / 2 ^ m % 2) (sym (shr-shr v m 1))
    ∙ sym (mod-pow-add (v / 2 ^ m) n 1) ∙ ap (λ (x : ℕ). v / 2 ^ m % 2 ^ x) (add-one n)

zero_bit : (k : ℕ) → 0 / 2 ^ k % 2 ≡ 0
zero_bit k = let l : 0 / 2 ^ k < 1 = (div-lt_iff_lt-mul (pow_pos k)).1 (omega (arith, pow_pos k)) in omega arith

module _ (cells : List ℕ) where
  -- a dot is a bit of its cell, and past the last cell 0
  dot-six : (c i x : ℕ) → i < 6 → x ≡ 6 * c + i → dot_in 6 cells x ≡ get_or cells c 0 / 2 ^ (5 - i) % 2
  unfolding dot_in
  dot-six c i x h e = go (dec_lt c (length cells))
    where
      go : Dec (c < length cells) → dot_in 6 cells x ≡ get_or cells c 0 / 2 ^ (5 - i) % 2
      go (yes l) =
          sym (dot-in (length cells) 6 (λ n. get_or cells n 0) x {b = get_or cells c 0} (omega arith) (ap (λ (n : ℕ). get_or cells n 0) (omega arith)))
          ∙ ap (λ (n : ℕ). get_or cells c 0 / 2 ^ n % 2) (omega arith)
      go (no l) =
          dot-out (length cells) 6 (λ n. get_or cells n 0) x (omega arith)
          ∙ sym (ap (λ (n : ℕ). n / 2 ^ (5 - i) % 2) (get_or-eq_default cells 0 {n = c} (omega arith)) ∙ zero_bit (5 - i))

  dot-eight : (c i x : ℕ) → i < 8 → x ≡ 8 * c + i → c < length cells → dot_in 8 cells x ≡ get_or cells c 0 / 2 ^ (7 - i) % 2
  unfolding dot_in
  dot-eight c i x h e l =
      sym (dot-in (length cells) 8 (λ n. get_or cells n 0) x {b = get_or cells c 0} (omega arith) (ap (λ (n : ℕ). get_or cells n 0) (omega arith)))
      ∙ ap (λ (n : ℕ). get_or cells c 0 / 2 ^ n % 2) (omega arith)

  -- n dots of cell c from its dot k on
  part : (s c k n : ℕ) → s ≡ 6 * c + k → k + n ≤ 6 → packed (dot_in 6 cells) s n ≡ get_or cells c 0 / 2 ^ (6 - k - n) % 2 ^ n
  part s c k n e h =
      bits (dot_in 6 cells) (get_or cells c 0) s n (6 - k - n)
      (λ j l. dot-six c (k + j) (s + j) (omega arith) (omega arith) ∙ ap (λ (x : ℕ). get_or cells c 0 / 2 ^ x % 2) (omega arith))

  -- c cells read, `at` bytes written, no dot held: the byte of a cell and the first two dots of the next
  module _ (c at : ℕ) (e : 8 * at ≡ 6 * c) where
    pub byte-of-six : {a b : ℕ} → a ≡ get_or cells c 0 % 64 → b ≡ get_or cells (c + 1) 0 % 64 → a * 4 + b / 16 ≡ packed (dot_in 6 cells) (8 * at) 8
    byte-of-six f g =
        let s = 8 * at in
        omega (arith, f, g, packed-add (dot_in 6 cells) s 6 2, part s c 0 6 (omega arith) (omega arith), part (s + 6) (c + 1) 0 2 (omega arith) (omega arith))

    -- of the four dots held and four of the next
    pub byte-of-four : {a b : ℕ} → a ≡ get_or cells (c + 1) 0 % 64 → b ≡ get_or cells (c + 2) 0 % 64
        → a % 16 * 16 + b / 4 ≡ packed (dot_in 6 cells) (8 * (at + 1)) 8
    byte-of-four f g =
        let s = 8 * (at + 1) in
        omega (arith, f, g, packed-add (dot_in 6 cells) s 4 4, part s (c + 1) 2 4 (omega arith) (omega arith), part (s + 4) (c + 2) 0 4 (omega arith) (omega arith))

    -- of the two dots held and the next cell
    pub byte-of-two : {a b : ℕ} → a ≡ get_or cells (c + 2) 0 % 64 → b ≡ get_or cells (c + 3) 0 % 64
        → a % 4 * 64 + b ≡ packed (dot_in 6 cells) (8 * (at + 2)) 8
    byte-of-two f g =
        let s = 8 * (at + 2) in
        omega (arith, f, g, packed-add (dot_in 6 cells) s 2 6, part s (c + 2) 4 2 (omega arith) (omega arith), part (s + 2) (c + 3) 0 6 (omega arith) (omega arith))

    -- of the two dots held, past the last cell
    pub byte-of-none : {a : ℕ} → a ≡ get_or cells (c + 2) 0 % 64 → length cells ≤ c + 3 → a % 4 * 64 ≡ packed (dot_in 6 cells) (8 * (at + 2)) 8
    byte-of-none {a} f l =
        let z : 0 ≡ get_or cells (c + 3) 0 % 64 = ap (λ (n : ℕ). n % 64) (sym (get_or-eq_default cells 0 {n = c + 3} l)) in
        let k : a % 4 * 64 + 0 ≡ packed (dot_in 6 cells) (8 * (at + 2)) 8 = byte-of-two f z in
        omega (arith, k)

  -- a cell of eight dots
  pub whole-cell : (c : ℕ) → c < length cells → get_or cells c 0 < 256 → get_or cells c 0 ≡ packed (dot_in 8 cells) (8 * c) 8
  whole-cell c l h =
      omega (
        arith,
        h,
        bits (dot_in 8 cells) (get_or cells c 0) (8 * c) 8 0
            (λ j k. dot-eight c j (8 * c + j) (omega arith) (omega arith) l ∙ ap (λ (x : ℕ). get_or cells c 0 / 2 ^ x % 2) (omega arith)),
      )

-- the walk: c cells read, `at` bytes written, as many dots in the one as in the other
pub record Walked (cells out₀ out : List ℕ) (c at : ℕ) : Type 0 where
  pub inside : c ≤ length cells
  pub level : 8 * at ≡ 6 * c
  pub filled : Filled (byte_in 6 cells) out₀ out at

module _ (cells out₀ : List ℕ) where
  pub walk_begins : Walked cells out₀ out₀ 0 0
  walk_begins = record { inside = omega arith; level = refl; filled = none_yet _ _ }

  module _ {out : List ℕ} {c at : ℕ} (k : Walked cells out₀ out c at) (l : length out₀ ≡ row_bytes (length cells) 6) where
    pub sized : length out ≡ row_bytes (length cells) 6
    sized = as_long _ _ k.filled ∙ l

    -- four cells more
    pub walk-on : {a b d e : ℕ} → c + 4 ≤ length cells → a ≡ get_or cells c 0 % 64 → b ≡ get_or cells (c + 1) 0 % 64 → d ≡ get_or cells (c + 2) 0 % 64
        → e ≡ get_or cells (c + 3) 0 % 64
        → Walked cells out₀ (set (set (set out at (a * 4 + b / 16)) (at + 1) (b % 16 * 16 + d / 4)) (at + 2) (d % 4 * 64 + e)) (c + 4) (at + 3)
    walk-on h i j m n =
        record {
          inside = h;
          level = omega (arith, k.level);
          filled =
              three-more _ _ k.filled (omega (arith, k.level, l)) refl (byte-of-six cells c at k.level i j)
              (byte-of-four cells c at k.level j m) (byte-of-two cells c at k.level m n);
        }

    -- what is left over: no byte, one, two or three
    pub walk_ends : length out₀ ≤ at → out ≡ row_in 6 cells
    walk_ends h = at-end _ _ k.filled _ l h ∙ row-built 6 cells

    module _ {a b d : ℕ} (i : a ≡ get_or cells c 0 % 64) (j : b ≡ get_or cells (c + 1) 0 % 64) (m : d ≡ get_or cells (c + 2) 0 % 64) (h : at < length out₀) where
      pub ends-by-one : length out₀ ≤ at + 1 → set out at (a * 4 + b / 16) ≡ row_in 6 cells
      ends-by-one n = at-end _ _ (one_more _ _ k.filled h (byte-of-six cells c at k.level i j)) _ l n ∙ row-built 6 cells

      pub ends-by-two : at + 1 < length out₀ → length out₀ ≤ at + 2 → set (set out at (a * 4 + b / 16)) (at + 1) (b % 16 * 16 + d / 4) ≡ row_in 6 cells
      ends-by-two n e =
          at-end _ _ (one_more _ _ (one_more _ _ k.filled h (byte-of-six cells c at k.level i j)) n (byte-of-four cells c at k.level j m)) _ l (omega arith)
          ∙ row-built 6 cells

      pub ends_by_three : at + 2 < length out₀ → length cells < c + 4
          → set (set (set out at (a * 4 + b / 16)) (at + 1) (b % 16 * 16 + d / 4)) (at + 2) (d % 4 * 64) ≡ row_in 6 cells
      ends_by_three n e =
          at-end _ _
          (three-more _ _ k.filled n refl (byte-of-six cells c at k.level i j) (byte-of-four cells c at k.level j m)
          (byte-of-none cells c at k.level m (omega arith))) _ l (omega (arith, k.level, l))
          ∙ row-built 6 cells

-- a width that is not six
pub eight : {w : ℕ} → (w ≡ 6) ⊎ (w ≡ 8) → (w ≡ 6 → ⊥) → w ≡ 8
eight (inl e) n = absurd (n e)
eight (inr e) n = e
