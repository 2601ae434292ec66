-- `give` meets its contract: byte by byte, up to the shorter one's end.
use Rattle.std.proofs.Common.{refl, arith}
use lib.Seq.{length-take-le}
use Rattle.ground.proofs.Filling.{none_yet, one_more, at-end}
use Rattle.ground.proofs.Passes.{given-over}
use Rattle.ground.proofs.stretches.give.Goals as goal

pub loop-j-init : goal.loop-j-init
loop-j-init c = none_yet _ _

pub loop-j-preserved : goal.loop-j-preserved
loop-j-preserved c = one_more _ _ c.loop-j.invariant c.loop-j-test.true refl

pub returns : goal.returns
returns c = let a = c.args in
    let e = c.lesser-both.ensures in
    let part = length-take-le c.lesser-both.result a.to.now (omega (arith, e)) in
    given-over _ _ e (at-end _ _ c.loop-j.invariant _ (omega (arith, part)) c.loop-j-test.false)
