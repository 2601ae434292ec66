-- The registers as numbers: from the numbers of their parts, and back.
use mathlib.Core.Path.{◌≡◌, refl, ap, sym, ◌∙◌}
use mathlib.Core.Bool.{Bool, true, false}
use mathlib.Core.List.{List, [], ◌∷◌}
use Prim.Native.Nat.{ℕ, ◌+◌, ◌*◌, ◌/◌, ◌%◌, ◌<◌, ◌≤◌}
use native.Mathlib.Omega.{arith}
use lib.Dec.{eqb}
use lib.ListN.{length, get_or}
use Rattle.ground.proofs.Tests.{both_right}
use Rattle.state.specs.State.{valid_display, valid_bus, valid_registers}
use Rattle.state.proofs.Valid.{bussing}
use Rattle.image.specs.Types.{DisplayBits, Registers}
use Rattle.image.specs.Image.{flag_byte, combination_byte, combination_in, auto_byte, auto_of}
use Rattle.image.proofs.Images.{flag-back, combination-back, auto-back}
use Rattle.image.specs.Registered.{bits_number, pending_number, register_values}

pub values-are : (r : Registers) {k x s a q e f : ℕ} → k ≡ combination_byte r.display.combination → x ≡ flag_byte r.display.external
    → s ≡ bits_number r.display.bits → a ≡ auto_byte r.bus.auto → q ≡ pending_number r.bus.pending → e ≡ flag_byte r.bus.error → f ≡ flag_byte r.display.phase
    → (r.display.cursor.x ∷ r.display.cursor.y ∷ r.display.offset ∷ r.bus.pointer ∷ r.display.text.home ∷ r.display.graphic.home ∷ r.display.text.area
    ∷ r.display.graphic.area ∷ k ∷ x ∷ s ∷ r.display.cursor.height ∷ a ∷ q ∷ r.bus.latch ∷ e ∷ f ∷ []) ≡ register_values r
unfolding register_values
values-are r k x s a q e f =
    λ i. r.display.cursor.x ∷ r.display.cursor.y ∷ r.display.offset ∷ r.bus.pointer ∷ r.display.text.home ∷ r.display.graphic.home ∷ r.display.text.area
    ∷ r.display.graphic.area ∷ k i ∷ x i ∷ s i ∷ r.display.cursor.height ∷ a i ∷ q i ∷ r.bus.latch ∷ e i ∷ f i ∷ []

pub values_length : (r : Registers) → length (register_values r) ≡ 17
unfolding register_values
values_length r = refl

-- numbers back to what they stand for
abbrev bits_back : ℕ → DisplayBits
bits_back n = record { graphic = eqb (n / 8 % 2) 1; text = eqb (n / 4 % 2) 1; cursor = eqb (n / 2 % 2) 1; blink = eqb (n % 2) 1 }

bits_back-bits_number : (b : DisplayBits) → bits_back (bits_number b) ≡ b
bits_back-bits_number b = go b.graphic b.text b.cursor b.blink
  where
    go : (g t c k : Bool) → bits_back (8 * flag_byte g + 4 * flag_byte t + 2 * flag_byte c + flag_byte k) ≡ record { graphic = g; text = t; cursor = c; blink = k }
    go true true true true = refl
    go true true true false = refl
    go true true false true = refl
    go true true false false = refl
    go true false true true = refl
    go true false true false = refl
    go true false false true = refl
    go true false false false = refl
    go false true true true = refl
    go false true true false = refl
    go false true false true = refl
    go false true false false = refl
    go false false true true = refl
    go false false true false = refl
    go false false false true = refl
    go false false false false = refl

-- what comes back from equal numbers is equal
by-back : {A : Type 0} (back : ℕ → A) (number : A → ℕ) → ((x : A) → back (number x) ≡ x) → (x y : A) → number x ≡ number y → x ≡ y
by-back back number h x y e = sym (h x) ∙ ap back e ∙ h y

-- the pending data's count and bytes, out of their number
count-back : (c o n : ℕ) → c ≤ 2 → o < 256 → c ≡ (c + 256 * o + 65536 * n) % 256
count-back c o n h k = omega arith

older-back : (c o n : ℕ) → c ≤ 2 → o < 256 → o ≡ (c + 256 * o + 65536 * n) / 256 % 256
older-back c o n h k = omega arith

newest-back : (c o n : ℕ) → c ≤ 2 → o < 256 → n ≡ (c + 256 * o + 65536 * n) / 65536
newest-back c o n h k = omega arith

module _ (r s : Registers) (v : valid_registers r ≡ true) (w : valid_registers s ≡ true) (h : r.bus.pending.older < 256) (k : s.bus.pending.older < 256)
    (e : register_values r ≡ register_values s) where
  nth : (n : ℕ) → get_or (register_values r) n 0 ≡ get_or (register_values s) n 0
  nth n = ap (λ (l : List ℕ). get_or l n 0) e

  -- valid registers with the same numbers are the same
  pub values_same : r ≡ s
  unfolding register_values
  values_same =
      let c = (bussing r.bus (both_right (valid_display r.display) (valid_bus r.bus) v)).count in
      let d = (bussing s.bus (both_right (valid_display s.display) (valid_bus s.bus) w)).count in
      let q : pending_number r.bus.pending ≡ pending_number s.bus.pending = nth 13 in
      let count : r.bus.pending.count ≡ s.bus.pending.count =
      count-back r.bus.pending.count r.bus.pending.older r.bus.pending.newest c h ∙ ap (λ (n : ℕ). n % 256) q ∙ sym (count-back s.bus.pending.count s.bus.pending.older s.bus.pending.newest d k) in
      let older : r.bus.pending.older ≡ s.bus.pending.older =
      older-back r.bus.pending.count r.bus.pending.older r.bus.pending.newest c h ∙ ap (λ (n : ℕ). n / 256 % 256) q ∙ sym (older-back s.bus.pending.count s.bus.pending.older s.bus.pending.newest d k) in
      let newest : r.bus.pending.newest ≡ s.bus.pending.newest =
      newest-back r.bus.pending.count r.bus.pending.older r.bus.pending.newest c h ∙ ap (λ (n : ℕ). n / 65536) q ∙ sym (newest-back s.bus.pending.count s.bus.pending.older s.bus.pending.newest d k) in
      λ i. record {
        display = record {
          text = record { home = nth 4 i; area = nth 6 i };
          graphic = record { home = nth 5 i; area = nth 7 i };
          offset = nth 2 i;
          combination = by-back combination_in combination_byte combination-back r.display.combination s.display.combination (nth 8) i;
          external = by-back (λ n. eqb n 1) flag_byte flag-back r.display.external s.display.external (nth 9) i;
          bits = by-back bits_back bits_number bits_back-bits_number r.display.bits s.display.bits (nth 10) i;
          cursor = record { x = nth 0 i; y = nth 1 i; height = nth 11 i };
          phase = by-back (λ n. eqb n 1) flag_byte flag-back r.display.phase s.display.phase (nth 16) i;
        };
        bus = record {
          auto = by-back auto_of auto_byte auto-back r.bus.auto s.bus.auto (nth 12) i;
          pointer = nth 3 i;
          pending = record { count = count i; older = older i; newest = newest i };
          latch = nth 14 i;
          error = by-back (λ n. eqb n 1) flag_byte flag-back r.bus.error s.bus.error (nth 15) i;
        };
      }
