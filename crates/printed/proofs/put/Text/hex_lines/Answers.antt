-- `hex_lines` meets its contract: the lines so far, one more at each turn.
use mathlib.Core.Path.{◌≡◌, refl, ap}
use Prim.Native.Nat.{ℕ}
use lib.ListN.{length}
use native.Mathlib.Omega.{arith}
use Rattle.ground.specs.Lists.{joined}
use Rattle.ground.proofs.Lists.{joined-more}
use Rattle.printed.specs.Text.{hex_line_at, hex_lines}
use Rattle.printed.proofs.Puts.{starts, goes, puts_same}
use Rattle.printed.proofs.put.Text.hex_lines.Goals as goal

pub loop-byte-init : goal.loop-byte-init
unfolding joined
loop-byte-init c = starts _ refl refl

pub loop-byte-preserved : goal.loop-byte-preserved
loop-byte-preserved c = let k = c.loop-byte in
    goes k.invariant c.hex_line.ensures (joined-more k.byte-index (hex_line_at c.args.answers.now)) (omega arith)

pub returns : goal.returns
unfolding hex_lines
returns c = let e : c.loop-byte.byte-index ≡ length c.args.answers.now = omega arith in
    puts_same (ap (λ (n : ℕ). joined n (hex_line_at c.args.answers.now)) e) c.loop-byte.invariant.puts
