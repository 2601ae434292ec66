-- `run_all` meets its contract: an odd log is refused whole, any other is played part by part.
use mathlib.Core.Path.{refl, ◌∙◌}
use native.Mathlib.Omega.{arith}
use Rattle.whole.proofs.Wholes.{playing, plays-on, played-whole, odd-whole}
use Rattle.whole.proofs.all.run_all.Goals as goal

pub returns-then-log-ne0 : goal.returns-then-log-ne0
returns-then-log-ne0 c = odd-whole _ _ _ _ _ _ c.if-log-ne0.true c.run_stopping.ensures

pub loop-part-init : goal.loop-part-init
loop-part-init c = rw (c.into_iter-part-iterator.ensures.into_iter_gives, c.chunks-part-items.ensures.rest, c.chunks-part-items.ensures.size) (playing _ _ _ _ _, refl, refl)

pub loop-part-preserved : goal.loop-part-preserved
loop-part-preserved c = let k = c.in-Some.ensures.steps in (
  plays-on _ _ _ _ _ c.loop-part.invariant.0 c.in-Some.part.now k.1.2 c.loop-part.invariant.2 k.1.0 k.1.1 c.play_part-ran-in-loop-part.ensures,
  omega (arith, c.loop-part.invariant.1, c.play_part-ran-in-loop-part.auto.mem),
  k.0 ∙ c.loop-part.invariant.2,
)

pub returns : goal.returns
returns c = played-whole _ _ _ _ _ c.loop-part.invariant.0 _ _ c.begin.ensures c.play_part-ran.ensures c.in-None.ensures.steps.1.0 c.if-log-ne0.false (omega (arith, c.well_formed))
