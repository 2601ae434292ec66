-- `ground::bytes::bit` meets its contract: above bit 7 a byte has only 0.
use Rattle.std.proofs.Common.{◌^◌, ◌<◌, lt_of_lt_of_le, arith, pow_mono}
use native.Mathlib.Nat.{div-eq_of_lt}
use Rattle.ground.proofs.bytes.bit.Goals as goal

pub returns-then-at-ge8 : goal.returns-then-at-ge8
returns-then-at-ge8 c = let low : c.args.byte < 2 ^ 8 = omega arith in
    rw (div-eq_of_lt (lt_of_lt_of_le low (pow_mono {i = 8} c.if-at-ge8.true)))
