-- Rows whose cells stand in a list: their bytes, and what packing them answers.
use Rattle.std.proofs.Common.{◌≡◌, ℕ, ◌*◌, ◌<◌, ◌≤◌, Bool, true, false, cond, ◌||◌, eqb, leb, ◌⊎◌, List, length, get_or, sym, refl, ap, ◌∙◌, inl, inr, ⊎_elim, mul-le-mul, arith, eq-eqb, ne_eqb, eqb-true, le-leb, leb-true}
use Rattle.ground.specs.Lists.{build}
use Rattle.ground.specs.Packing.{packed, row_bytes, row_from, dot_in, row_in, packs, Packable, pack_of}
use Rattle.ground.proofs.Packing.{row-cong}
use Rattle.ground.proofs.Tests.{both, both_left, both_right, either, settled}

module _ {w : ℕ} {cells : List ℕ} (k : Packable w cells) where
  pub wide : (6 ≤ w) × (w ≤ 8)
  wide = ⊎_elim (λ e. omega arith) (λ e. omega arith) k.width

  pub dots-few : length cells * w ≤ 640
  dots-few = mul-le-mul {n₂ = 80} {m₂ = 8} k.few wide.1

module _ (w : ℕ) (cells : List ℕ) where
  -- byte j of the row
  abbrev pub byte_in : ℕ → ℕ
  byte_in j = packed (dot_in w cells) (8 * j) 8

  pub row-built : build (row_bytes (length cells) w) byte_in ≡ row_in w cells
  unfolding row_in row_from dot_in
  row-built = refl

  -- the tests at the door
  pub packable : packs w cells ≡ true → Packable w cells
  packable e =
      record {
        width = widths (either (eqb w 6) (eqb w 8) (both_left _ (leb (length cells) 80) e));
        few = leb-true (length cells) 80 (both_right (eqb w 6 || eqb w 8) _ e);
      }
    where
      widths : (eqb w 6 ≡ true) ⊎ (eqb w 8 ≡ true) → (w ≡ 6) ⊎ (w ≡ 8)
      widths (inl h) = inl (eqb-true w 6 h)
      widths (inr h) = inr (eqb-true w 8 h)

  module _ (out : List ℕ) where
    -- what packing does, by its two tests
    abbrev packs_to : Bool → Bool → List ℕ
    packs_to t u = cond t (cond u (row_in w cells) out) out

    pub pack-shut : packs w cells ≡ false → out ≡ pack_of w cells out
    unfolding pack_of
    pack-shut e = ap (λ (t : Bool). packs_to t (eqb (length out) (row_bytes (length cells) w))) (sym e)

    pub pack-misfit : packs w cells ≡ true → (length out ≡ row_bytes (length cells) w → ⊥) → out ≡ pack_of w cells out
    unfolding pack_of
    pack-misfit e h = λ i. packs_to (sym e i) (sym (ne_eqb (length out) (row_bytes (length cells) w) h) i)

    pub pack-fits : packs w cells ≡ true → length out ≡ row_bytes (length cells) w → row_in w cells ≡ pack_of w cells out
    unfolding pack_of
    pack-fits e h = λ i. packs_to (sym e i) (sym (eq-eqb (length out) (row_bytes (length cells) w) h) i)

-- for callers: cells that are those of a rule, in a buffer of just their bytes, become the row of the rule
module _ (C w : ℕ) (cells : List ℕ) (f : ℕ → ℕ) (e : length cells ≡ C) (same : (c : ℕ) → c < C → get_or cells c 0 ≡ f c) where
  pub row-of-rule : 0 < w → row_in w cells ≡ row_from C w f
  unfolding row_in
  row-of-rule p = ap (λ (n : ℕ). row_from n w (λ c. get_or cells c 0)) e ∙ row-cong C w p (λ c. get_or cells c 0) f same

  pub packed-by-rule : (w ≡ 6) ⊎ (w ≡ 8) → C ≤ 80 → (out : List ℕ) → length out ≡ row_bytes C w → pack_of w cells out ≡ row_from C w f
  packed-by-rule k few out l =
      let some : 0 < w = ⊎_elim (λ i. omega arith) (λ i. omega arith) k in
      let t : packs w cells ≡ true = both (eights k) (le-leb (length cells) 80 (omega arith)) in
      sym (pack-fits w cells out t (l ∙ ap (λ (n : ℕ). row_bytes n w) (sym e))) ∙ row-of-rule some
    where
      eights : (w ≡ 6) ⊎ (w ≡ 8) → (eqb w 6 || eqb w 8) ≡ true
      eights (inl h) = ap (λ (n : ℕ). eqb n 6 || eqb n 8) h
      eights (inr h) = ap (λ (n : ℕ). eqb n 6 || eqb n 8) h

-- two buffers that meet the promise of `pack` are equal
pub pack-settled : {x y : List ℕ} (w : ℕ) (cells out : List ℕ) → x ≡ pack_of w cells out → y ≡ pack_of w cells out → x ≡ y
pack-settled w cells out h k = settled h k
