-- A line gathered, and stored byte by byte.
use Rattle.std.proofs.Common.{◌≡◌, ℕ, ◌+◌, ◌%◌, ◌<◌, ◌≤◌, List, ◌++◌, length, get_or, take, drop, set, sym, ap, ◌∙◌, add-one, arith, length-set, drop_of_length-le, drop-cons, take_at}
use Rattle.ground.specs.Lists.{build, stored}
use Rattle.ground.proofs.Lists.{build-length}
use Rattle.sight.specs.Types.{Line}
use Rattle.sight.specs.Ready.{Gathered}

-- bytes by a rule in the front of a buffer of 80
pub gathered : {line : Line} (f : ℕ → ℕ) (n m : ℕ) (ys rest : List ℕ) → line.bytes ≡ ys ++ rest → line.count ≡ n → n ≤ 80 → m ≡ n → ys ≡ build m f
    → Gathered line (build n f)
gathered {line} f n m ys rest e c few same h =
    let all : ys ≡ build n f = h ∙ ap (λ (k : ℕ). build k f) same in
    record {
      few = omega (arith, c);
      holds = (λ i. take (c i) (e i)) ∙ take_at ys rest n (ap length all ∙ build-length n f) ∙ all;
    }

-- what is left to store from here comes to the whole
pub record Storing (m₀ : List ℕ) (first : ℕ) (bytes m : List ℕ) (at j : ℕ) : Type 0 where
  pub room : length m ≡ length m₀
  pub low : at < 65536
  pub left : stored m at (drop j bytes) ≡ stored m₀ first bytes

pub store-on : {m₀ : List ℕ} {first : ℕ} {bytes m : List ℕ} {at j : ℕ} → Storing m₀ first bytes m at j → j < length bytes → {v next : ℕ}
    → v ≡ get_or bytes j 0 → next ≡ (at + 1) % 65536 → Storing m₀ first bytes (set m at v) next (j + 1)
unfolding stored
store-on {m₀} {first} {bytes} {m} {at} {j} k h {v} {next} e n =
    record {
      room = length-set m at v ∙ k.room;
      low = omega arith;
      left = (λ i. stored (set m at (e i)) (n i) (drop (add-one j i) bytes)) ∙ sym (ap (stored m at) (drop-cons bytes j 0 h)) ∙ k.left;
    }

pub store-over : {m₀ : List ℕ} {first : ℕ} {bytes m : List ℕ} {at j : ℕ} → Storing m₀ first bytes m at j → length bytes ≤ j
    → m ≡ stored m₀ first bytes
unfolding stored
store-over {m₀} {first} {bytes} {m} {at} {j} k h = sym (ap (stored m at) (drop_of_length-le bytes h)) ∙ k.left
