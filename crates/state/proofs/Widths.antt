-- What is made of w bits has w bits.
use Rattle.std.proofs.Common.{ℕ, ◌%◌, ◌^◌, ◌<◌, Bool, true, false, cond, not, ◌&&◌, pow_pos}
use lib.Pow.{ones_sub-lt}
use lib.Bits.{or_lt, xor_lt, and_lt}
use Rattle.state.specs.Types.{Combination, Or, Exor, And, Attribute, Manner, Normal, Reverse, Inhibit}
use Rattle.state.specs.Attribute.{look_of, shown_as, attributed}
use Rattle.state.specs.Combination.{combined}

module _ (w : ℕ) where
  pub cond-lt : (b : Bool) (x y : ℕ) → x < 2 ^ w → y < 2 ^ w → cond b x y < 2 ^ w
  cond-lt true x y h k = h
  cond-lt false x y h k = k

  shown-lt : (s : Manner) (n : ℕ) → n < 2 ^ w → shown_as s w n < 2 ^ w
  shown-lt Normal n h = h
  shown-lt Reverse n h = ones_sub-lt w n
  shown-lt Inhibit n h = pow_pos w

  pub combined-lt : (k : Combination) (t g : ℕ) → t < 2 ^ w → g < 2 ^ w → combined k t g < 2 ^ w
  combined-lt Or t g h k = or_lt w t g h k
  combined-lt Exor t g h k = xor_lt w t g h k
  combined-lt And t g h k = and_lt w t g h k
  combined-lt Attribute t g h k = h

  pub attributed-lt : (normal : Bool) (a n : ℕ) → n < 2 ^ w → attributed w normal a n < 2 ^ w
  unfolding attributed
  attributed-lt normal a n h =
      cond-lt ((look_of (a % 16)).blinks && not normal) 0 (shown_as (look_of (a % 16)).shown w n) (pow_pos w) (shown-lt (look_of (a % 16)).shown n h)
