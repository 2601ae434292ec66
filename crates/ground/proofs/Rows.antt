-- A buffer filled row by row, each into its own stretch: what is known before each row, and that each row keeps it.
use Rattle.std.proofs.Common.{◌≡◌, ℕ, suc, ◌+◌, ◌-◌, ◌*◌, ◌<◌, ◌≤◌, List, ◌++◌, length, take, drop, sym, ap, ◌∙◌, append_assoc, append-nil, mul-le-mul_right, suc-mul, zero-mul, add-one, arith, length-append, length-drop, drop_of_length-le, length-take, drop-drop, take_at, drop_at}
use Rattle.ground.specs.Lists.{joined}
use Rattle.ground.proofs.Lists.{joined_length, joined-more}

-- N rows f 0, f 1, .. of R bytes, of which the first `row` stand in `all`, its rest as in all₀
pub record Rowed (R N : ℕ) (f : ℕ → List ℕ) (all₀ all : List ℕ) (row : ℕ) : Type 0 where
  pub long : length all₀ ≡ N * R
  pub sized : (r : ℕ) → length (f r) ≡ R
  pub inside : row ≤ N
  pub painted : all ≡ joined row f ++ drop (row * R) all₀

pub started : {R N : ℕ} {f : ℕ → List ℕ} {all₀ : List ℕ} → length all₀ ≡ N * R → ((r : ℕ) → length (f r) ≡ R) → Rowed R N f all₀ all₀ 0
unfolding joined
started {R} {N} {f} {all₀} l s =
    record { long = l; sized = s; inside = omega arith; painted = ap (λ (n : ℕ). drop n all₀) (sym (zero-mul R)) }

module _ {R N : ℕ} {f : ℕ → List ℕ} {all₀ all : List ℕ} {row : ℕ} (k : Rowed R N f all₀ all row) where
  filled : length (joined row f) ≡ row * R
  filled = joined_length row R f k.sized

  pub same_length : length all ≡ length all₀
  same_length =
      rw k.painted
      (length-append (joined row f) (drop (row * R) all₀)
      ∙ (omega (arith, filled, length-drop (row * R) all₀, mul-le-mul_right R k.inside, k.long)))

  -- the row's stretch is inside
  pub stretch : row < N → row * R + R ≤ length all
  stretch h =
      let a : suc row * R ≤ N * R = mul-le-mul_right R h in
      let b : suc row * R ≡ row * R + R = suc-mul row R in
      omega (arith, same_length, k.long)

  pub stretch-length : row < N → length (take (row * R + R - row * R) (drop (row * R) all)) ≡ R
  stretch-length h = simp (length-take, length-drop) (omega (arith, stretch h))

  -- the row's stretch has come back
  pub back : {ys : List ℕ} → ys ≡ f row → row < N
      → Rowed R N f all₀ (take (row * R) all ++ (ys ++ drop (row * R + R - row * R) (drop (row * R) all))) (row + 1)
  back {ys} y h =
      let e : row * R + R - row * R ≡ R = omega arith in
      let t : take (row * R) all ≡ joined row f =
      ap (take (row * R)) k.painted ∙ take_at (joined row f) (drop (row * R) all₀) (row * R) filled in
      let d : drop (row * R) all ≡ drop (row * R) all₀ =
      ap (drop (row * R)) k.painted ∙ drop_at (joined row f) (drop (row * R) all₀) (row * R) filled in
      let r : drop (row * R + R - row * R) (drop (row * R) all) ≡ drop ((row + 1) * R) all₀ =
      (λ i. drop (e i) (d i)) ∙ drop-drop R (row * R) all₀
      ∙ ap (λ (m : ℕ). drop m all₀) (sym (suc-mul row R) ∙ ap (λ (m : ℕ). m * R) (sym (add-one row))) in
      record {
        long = k.long;
        sized = k.sized;
        inside = omega arith;
        painted = (λ i. t i ++ (y i ++ r i)) ∙ sym (append_assoc (joined row f) (f row) (drop ((row + 1) * R) all₀))
            ∙ ap (λ (l : List ℕ). l ++ drop ((row + 1) * R) all₀) (sym (joined-more row f));
      }

  pub whole : N ≤ row → all ≡ joined N f
  whole h =
      let e : row ≡ N = omega (arith, k.inside) in
      k.painted ∙ (λ i. joined (e i) f ++ drop (e i * R) all₀)
      ∙ ap (λ (l : List ℕ). joined N f ++ l) (drop_of_length-le all₀ {i = N * R} (omega (arith, k.long))) ∙ append-nil (joined N f)
