-- `count_dots` meets its contract: dot by dot.
use native.Mathlib.Omega.{arith}
use Rattle.comparison.proofs.Aparts.{many-few, unlike, many-begins, many-on, bit_in}
use Rattle.comparison.proofs.dots.count_dots.Goals as goal

pub loop-x-init : goal.loop-x-init
loop-x-init c = (many-begins _, omega arith)

pub overflow_add-count : goal.overflow_add-count
overflow_add-count c = omega (arith, c.differ-count.ensures.upper_bound, c.loop-x.invariant.0, many-few c.loop-x.x (unlike (bit_in c.args.one.now) (bit_in c.args.two.now)), c.loop-x-test.true, c.well_formed, c.requires)

pub loop-x-preserved : goal.loop-x-preserved
loop-x-preserved c = (many-on (bit_in c.args.one.now) (bit_in c.args.two.now) c.loop-x.invariant.0 c.dot.ensures c.dot-in-loop-x.ensures c.differ-count.ensures.value, omega (arith, c.loop-x-test.true))
