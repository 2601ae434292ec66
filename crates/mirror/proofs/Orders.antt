-- What a mirrored byte is, the table's rule, and a list mirrored byte by byte.
use mathlib.Core.Path.{◌≡◌, refl, ap, sym, ◌∙◌}
use mathlib.Core.List.{List, map}
use Prim.Native.Nat.{ℕ, ◌+◌, ◌-◌, ◌/◌, ◌%◌, ◌^◌, ◌<◌, ◌≤◌}
use native.Mathlib.Omega.{arith}
use lib.ListN.{length, get_or, set, length-map, get_or-map}
use lib.Seq.{ext_get_or}
use Rattle.ground.specs.Bytes.{bit_of}
use Rattle.ground.specs.Lists.{build}
use Rattle.ground.specs.Packing.{packed}
use Rattle.ground.proofs.Filling.{Filled, one_more, at-end, unwritten}
use Rattle.ground.proofs.Lists.{build-length, build-at}
use Rattle.ground.proofs.Packing.{packed-bit}
use Rattle.ground.proofs.Sixes.{bits}
use Rattle.mirror.specs.Order.{mirrored}

bit-lt : (n k : ℕ) → bit_of n k < 2
bit-lt n k = omega arith

-- bit k of a mirrored byte is bit 7 - k
pub mirror-bit : (n k : ℕ) → k < 8 → bit_of (mirrored n) k ≡ bit_of n (7 - k)
unfolding mirrored
mirror-bit n k h =
    ap (λ (j : ℕ). packed (bit_of n) 0 8 / 2 ^ j % 2) (omega arith)
    ∙ packed-bit (bit_of n) (bit-lt n) 0 8 (7 - k) (omega arith)
    ∙ ap (bit_of n) (omega arith)

again : (n m : ℕ) → ((j : ℕ) → j < 8 → bit_of m (0 + j) ≡ n / 2 ^ (0 + (8 - 1 - j)) % 2) → mirrored m ≡ n / 2 ^ 0 % 2 ^ 8
unfolding mirrored
again n m h = bits (bit_of m) n 0 8 0 h

pub mirror-twice : (n : ℕ) → n < 256 → mirrored (mirrored n) ≡ n
mirror-twice n h =
    again n (mirrored n) (λ j l. ap (bit_of (mirrored n)) (omega arith) ∙ mirror-bit n j l ∙ ap (bit_of n) (omega arith))
    ∙ (omega (arith, h))

-- the table has it at its index
pub in-mirrors : {t : List ℕ} (n : ℕ) → t ≡ build 256 mirrored → n < 256 → get_or t n 0 ≡ mirrored n
in-mirrors n e h = ap (λ (x : List ℕ). get_or x n 0) e ∙ build-at 256 mirrored n 0 h

-- a list of mirrored bytes, by the index
abbrev pub mirror_at : List ℕ → ℕ → ℕ
mirror_at l i = mirrored (get_or l i 0)

mirror-0 : mirrored 0 ≡ 0
unfolding mirrored packed
mirror-0 = refl

pub mirrored-at : (l : List ℕ) (i : ℕ) → get_or (map mirrored l) i 0 ≡ mirror_at l i
mirrored-at l i = ap (get_or (map mirrored l) i) (sym mirror-0) ∙ get_or-map mirrored l i 0

pub mirrored-list : (l : List ℕ) → map mirrored l ≡ build (length l) (mirror_at l)
mirrored-list l =
    ext_get_or 0 (map mirrored l) (build (length l) (mirror_at l)) (length-map l mirrored ∙ sym (build-length (length l) (mirror_at l)))
    (λ i h. mirrored-at l i ∙ sym (build-at (length l) (mirror_at l) i 0 (omega (arith, length-map l mirrored))))

module _ (l₀ : List ℕ) {l : List ℕ} {n : ℕ} (k : Filled (mirror_at l₀) l₀ l n) where
  -- the byte read is as it was, and is written mirrored
  pub mirrors-one : {b v : ℕ} {t : List ℕ} → n < length l₀ → t ≡ build 256 mirrored → b ≡ get_or l n 0 → b < 256 → v ≡ get_or t b 0
      → Filled (mirror_at l₀) l₀ (set l n v) (n + 1)
  mirrors-one {b} h e i s j = one_more _ _ k h (j ∙ in-mirrors b e s ∙ ap mirrored (i ∙ unwritten (mirror_at l₀) l₀ k))

  pub mirrors-all : length l₀ ≤ n → l ≡ map mirrored l₀
  mirrors-all h = at-end _ _ k (length l₀) refl h ∙ sym (mirrored-list l₀)
