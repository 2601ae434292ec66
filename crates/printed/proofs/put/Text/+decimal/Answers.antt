-- `decimal` meets its contract: the digits before the last, then the last.
use mathlib.Core.Path.{ap, sym}
use native.Mathlib.Omega.{arith}
use lib.ListN.{length, length-append}
use Rattle.printed.proofs.Puts.{puts_both, puts_same}
use Rattle.printed.proofs.Decimals.{decimal-one, decimal-more}
use Rattle.printed.proofs.put.Text.+decimal.Goals as goal

pub byte-requires : goal.byte-requires
byte-requires t c = omega (arith, c.requires, ap length (decimal-one c.args.n c.if-n-lt10.true))

pub returns-then-n-lt10 : goal.returns-then-n-lt10
returns-then-n-lt10 t c = puts_same (sym (decimal-one c.args.n c.if-n-lt10.true)) c.byte.ensures

pub decimal-requires : goal.decimal-requires
decimal-requires t c =
    (omega (arith, c.decreases, c.if-n-lt10.false), omega (arith, c.requires, simp length-append at (ap length (decimal-more c.args.n c.if-n-lt10.false))))

pub byte-requires-2 : goal.byte-requires-2
byte-requires-2 t c =
    omega (arith, c.requires, c.decimal.ensures.put.ends, c.decimal.ensures.kept, simp length-append at (ap length (decimal-more c.args.n c.if-n-lt10.false)))

pub returns : goal.returns
returns t c =
    puts_same (sym (decimal-more c.args.n c.if-n-lt10.false)) (puts_both c.decimal.ensures c.byte-2.ensures)
