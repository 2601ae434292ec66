-- Cells shaded, or mixed with the graphic, one after the other, while an address goes on, round.
use Rattle.std.proofs.Common.{◌≡◌, ℕ, ◌+◌, ◌-◌, ◌%◌, ◌^◌, ◌<◌, Bool, true, false, cond, ◌&&◌, eqb, List, length, get_or, set, sym, ap, ◌∙◌, arith, eq-eqb, ne_eqb}
use lib.Bits.{bit_and, bit_or}
use Rattle.ground.specs.Bytes.{full_of}
use Rattle.ground.specs.Lists.{build, round_byte}
use Rattle.ground.proofs.Passes.{Passing, passes_on, still}
use Rattle.state.specs.Types.{Combination}
use Rattle.state.specs.Attribute.{shaded, shaded_at, shaded_round}
use Rattle.state.specs.Combination.{mixed, mixed_round}

module _ (w : ℕ) (mem : List ℕ) (start : ℕ) (table cells : List ℕ) where
  pub shades-on : {l : List ℕ} {at n all next : ℕ} (others : ℕ) → Passing (shaded_at w mem start table cells) start cells l at n → n < length cells
      → all ≡ full_of w → (others + get_or l n 0) % 2 ^ 8 ≡ all → others < 256 → get_or l n 0 < 256 → next ≡ (at + 1) % 2 ^ 16
      → Passing (shaded_at w mem start table cells) start cells
      (set l n (bit_or (bit_and (get_or l n 0) (get_or table (get_or mem at 0 % 16) 0)) (bit_and others (get_or table (get_or mem at 0 % 16 + 16) 0)))) next (n + 1)
  shades-on {l} {at} {n} {all} others k h a e few small f =
      let o : others ≡ (all + 256 - get_or l n 0) % 256 = omega (arith, e) in
      passes_on _ _ _ k h
      ((λ q. bit_or (bit_and (get_or l n 0) (get_or table (get_or mem at 0 % 16) 0)) (bit_and (o q) (get_or table (get_or mem at 0 % 16 + 16) 0)))
      ∙ (λ q. shaded table (a q) (get_or mem (k.place q) 0 % 16) (still _ _ _ k h q))) f

  module _ {t : Bool} (e : t ≡ (eqb (length mem) 65536 && eqb (length table) 32)) where
    pub all-shaded : t ≡ true → shaded_round w mem start table cells ≡ build (length cells) (shaded_at w mem start table cells)
    unfolding shaded_round
    all-shaded h = ap (λ (t : Bool). cond t (build (length cells) (shaded_at w mem start table cells)) cells) (sym e ∙ h)

    pub none-shaded : t ≡ false → shaded_round w mem start table cells ≡ cells
    unfolding shaded_round
    none-shaded h = ap (λ (t : Bool). cond t (build (length cells) (shaded_at w mem start table cells)) cells) (sym e ∙ h)

module _ (text graphic : Bool) (c : Combination) (w : ℕ) (mem : List ℕ) (start : ℕ) (cells : List ℕ) where
  -- a cell of text with the graphic's byte
  abbrev pub mixed_at : ℕ → ℕ
  mixed_at j = mixed text graphic c (get_or cells j 0) (round_byte w mem start j)

  pub mixes-on : {l : List ℕ} {at n dots v next : ℕ} → Passing mixed_at start cells l at n → n < length cells
      → dots ≡ get_or mem at 0 % 2 ^ w → v ≡ mixed text graphic c (get_or l n 0) dots → next ≡ (at + 1) % 2 ^ 16 → Passing mixed_at start cells (set l n v) next (n + 1)
  mixes-on k h d e f =
      passes_on _ _ _ k h (e ∙ (λ q. mixed text graphic c (still _ _ _ k h q) ((d ∙ ap (λ (m : ℕ). get_or mem m 0 % 2 ^ w) k.place) q))) f

  pub all-mixed : length mem ≡ 65536 → mixed_round text graphic c w mem start cells ≡ build (length cells) mixed_at
  unfolding mixed_round
  all-mixed e = ap (λ (t : Bool). cond t (build (length cells) mixed_at) cells) (eq-eqb (length mem) 65536 e)

  pub none-mixed : (length mem ≡ 65536 → ⊥) → mixed_round text graphic c w mem start cells ≡ cells
  unfolding mixed_round
  none-mixed e = ap (λ (t : Bool). cond t (build (length cells) mixed_at) cells) (ne_eqb (length mem) 65536 e)
