-- `hits` meets its contract.
use Rattle.std.proofs.Common.{arith}
use Rattle.touch.proofs.Meets.{code_meets_lem}
use Rattle.touch.proofs.touch.hits.Goals as goal

pub returns : goal.returns
returns c = let a = c.args in
    code_meets_lem a.display a.code a.v a.at a.n (omega arith) (omega arith) (omega (arith, c.requires)) (omega arith)
