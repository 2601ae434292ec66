-- `low` meets its contract: a mask of ones is the remainder by their power.
use Rattle.std.proofs.Common.{ℕ, min, ap, ◌∙◌, arith}
use lib.Bits.{bit_and, and_mask}
use Rattle.ground.proofs.Lows.{low_byte}
use Rattle.ground.proofs.bytes.low.Goals as goal

pub returns : goal.returns
returns c = ap (λ (m : ℕ). bit_and c.args.byte m) c.full.ensures
    ∙ and_mask c.args.byte (min c.args.width 8)
    ∙ low_byte c.args.byte c.args.width (omega arith)
