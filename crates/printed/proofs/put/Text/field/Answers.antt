-- `field` meets its contract: the word, then the number.
use native.Mathlib.Omega.{arith}
use Rattle.printed.proofs.Puts.{puts_both}
use Rattle.printed.proofs.Decimals.{decimal-few}
use borrow.Author.Rules.{rules}
use Rattle.printed.proofs.put.Text.field.Goals as goal

pub decimal-requires : goal.decimal-requires
decimal-requires c = omega (arith, decimal-few c.args.n (search rules))

pub returns : goal.returns
returns c = record { puts = puts_both c.bytes.ensures c.decimal.ensures; upper_bound = omega (arith, decimal-few c.args.n (search rules)) }
