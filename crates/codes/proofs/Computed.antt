-- The codes that are computed: a bit's, a height's, those that turn the cursor on.
use mathlib.Core.Path.{◌≡◌, refl, ap, ap₂, ◌∙◌}
use mathlib.Core.Bool.{Bool, true, false, cond}
use Prim.Native.Nat.{ℕ, ◌+◌, ◌-◌, ◌/◌, ◌%◌, ◌≤◌, ◌<◌}
use native.Mathlib.Omega.{arith}
use borrow.Author.Tests.{lt-ltb}
use Rattle.codes.specs.Types.{DisplayMode, Height, Bit, Defined, Undefined}
use Rattle.codes.specs.Command.{has, group_of, decode_of}

-- A0H plus height-1
pub decode-height : (h : ℕ) → 1 ≤ h → h ≤ 8 → decode_of (0xa0 + (h - 1)) ≡ Defined (Height h)
decode-height h l m =
    let high : (0xa0 + (h - 1)) / 16 ≡ 10 = omega arith in
    let low : (0xa0 + (h - 1)) % 16 ≡ h - 1 = omega arith in
    let is : h - 1 + 1 ≡ h = omega arith in
    ap₂ group_of high low
    ∙ ap (λ (t : Bool). cond t (Defined (Height (h - 1 + 1))) Undefined) (lt-ltb (h - 1) 8 (omega arith))
    ∙ ap (λ (n : ℕ). Defined (Height n)) is

-- F0H or F8H plus the bit
pub decode-bit : (on : Bool) (k : ℕ) → k < 8 → decode_of (cond on 0xf8 0xf0 + k) ≡ Defined (Bit on k)
decode-bit true k l =
    let high : (0xf8 + k) / 16 ≡ 15 = omega arith in
    let low : (0xf8 + k) % 16 ≡ 8 + k = omega arith in
    let bit : (8 + k) % 8 ≡ k = omega arith in
    ap₂ group_of high low ∙ ap₂ (λ (b : Bool) (n : ℕ). Defined (Bit b n)) (set-3 k l) bit
  where
    set-3 : (k : ℕ) → k < 8 → has (8 + k) 3 ≡ true
    set-3 k l = let e : (8 + k) / 8 % 2 ≡ 1 = omega arith in cc
decode-bit false k l =
    let high : (0xf0 + k) / 16 ≡ 15 = omega arith in
    let low : (0xf0 + k) % 16 ≡ 0 + k = omega arith in
    let bit : (0 + k) % 8 ≡ k = omega arith in
    ap₂ group_of high low ∙ ap₂ (λ (b : Bool) (n : ℕ). Defined (Bit b n)) (reset-3 k l) bit
  where
    reset-3 : (k : ℕ) → k < 8 → has (0 + k) 3 ≡ false
    reset-3 k l = let e : (0 + k) / 8 % 2 ≡ 0 = omega arith in cc

-- 9EH or 9FH: graphic, text and cursor on, the cursor steady or blinking
pub decode-cursor : (blink : Bool) → decode_of (cond blink 0x9f 0x9e) ≡ Defined (DisplayMode (record { graphic = true; text = true; cursor = true; blink = blink }))
decode-cursor true = refl
decode-cursor false = refl
