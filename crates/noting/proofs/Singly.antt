-- Which codes store one byte, and which none.
use Rattle.std.proofs.Common.{◌≡◌, ℕ, ◌/◌, ◌%◌, ◌<◌, Bool, true, false, cond, eqb, ltb, sym, refl, ap, ◌∙◌, true≢false, arith, ne_eqb}
use Rattle.ground.proofs.Tests.{cond_has}
use Rattle.codes.specs.Command.{transfer_of, sight_code_of, bit_code_of, group_of, decode_of}
use Rattle.controller.specs.Types.{Decoded}
use Rattle.stores.specs.Stores.{code_stores}
use Rattle.noting.specs.Types.{Panel, Registers}
use Rattle.noting.specs.Stretch as stretch
use Rattle.noting.specs.Noted.{Noting, noted_by, noted_each, SingleNoted, Singles}

module _ (p : Panel) (r : Registers) where
  record NoneBy (x : Decoded) : Type 0 where
    stores : code_stores p r x ≡ 0

  nothing : {x : Decoded} → code_stores p r x ≡ 0 → NoneBy x
  nothing e = record { stores = e }

  key : (t : Bool) {x y : Decoded} → NoneBy x → NoneBy y → NoneBy (cond t x y)
  key t h k = cond_has NoneBy t h k

  past : (t : Bool) (x : Decoded) {y : Decoded} → t ≡ false → NoneBy y → NoneBy (cond t x y)
  past true x e k = absurd (true≢false e)
  past false x e k = k

  group-none : (high low : ℕ) → (high ≡ 12 → ⊥) → (high ≡ 14 → ⊥) → (high ≡ 15 → ⊥) → NoneBy (group_of high low)
  group-none high low a b c =
      key (eqb high 2) (key (eqb low 1) (nothing refl) (key (eqb low 2) (nothing refl) (key (eqb low 4) (nothing refl) (nothing refl))))
      (key (eqb high 4) (key (eqb low 0) (nothing refl) (key (eqb low 1) (nothing refl) (key (eqb low 2) (nothing refl) (key (eqb low 3) (nothing refl) (nothing refl)))))
      (key (eqb high 8) (key (eqb (low % 8) 0) (nothing refl) (key (eqb (low % 8) 1) (nothing refl) (key (eqb (low % 8) 3) (nothing refl) (key (eqb (low % 8) 4) (nothing refl) (nothing refl)))))
      (key (eqb high 9) (nothing refl)
      (key (eqb high 10) (key (ltb low 8) (nothing refl) (nothing refl))
      (key (eqb high 11) (key (eqb low 0) (nothing refl) (key (eqb low 1) (nothing refl) (key (eqb low 2) (nothing refl) (nothing refl))))
      (past (eqb high 12) (transfer_of low) (ne_eqb high 12 a)
      (past (eqb high 14) (sight_code_of low) (ne_eqb high 14 b)
      (past (eqb high 15) (bit_code_of low) (ne_eqb high 15 c) (nothing refl)))))))))

-- below C0H
pub none_below : (p : Panel) (r : Registers) (k : ℕ) → k < 0xc0 → code_stores p r (decode_of k) ≡ 0
none_below p r k h = (group-none p r (k / 16) (k % 16) (λ e. omega arith) (λ e. omega arith) (λ e. omega arith)).stores

-- one noted, or none
module _ {first last k : ℕ} (x : stretch.Store) (low : x.address < 65536) (before : Noting) where
  pub one-noted : Singles k 1 → {y : Noting} → y ≡ noted_by first last x before → SingleNoted first last k x before y
  unfolding noted_each
  one-noted s h =
      record {
        low = low;
        notes = λ o p r f i. h ∙ (λ t. noted_by first last (sym i t) before) ∙ ap (λ (j : ℕ). noted_each first last f j before) (sym (s.counts o p r));
      }

  pub none-noted : Singles k 0 → SingleNoted first last k x before before
  unfolding noted_each
  none-noted s = record { low = low; notes = λ o p r f i. ap (λ (j : ℕ). noted_each first last f j before) (sym (s.counts o p r)) }
