-- The number falls to its tenth at each call.
use Rattle.printed.proofs.put.Text.+decimal.Given as goal

abbrev pub decreases-decimal : goal.decreases-decimal
decreases-decimal l = l.n
