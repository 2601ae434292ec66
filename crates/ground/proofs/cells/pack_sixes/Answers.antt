-- `pack_sixes` meets its contract: four cells a turn, then the rest.
use Rattle.std.proofs.Common.{refl, arith}
use Rattle.ground.proofs.Filling.{as_long}
use Rattle.ground.proofs.Sixes.{walk_begins, walk-on, walk_ends, ends-by-one, ends-by-two, ends_by_three}
use Rattle.ground.proofs.cells.pack_sixes.Goals as goal

pub loop-c-init : goal.loop-c-init
loop-c-init c = walk_begins _ _

pub loop-c-preserved : goal.loop-c-preserved
loop-c-preserved c = walk-on _ _ c.loop-c.invariant c.requires.out_len (omega arith) refl refl refl refl

pub returns-then-at-end-3 : goal.returns-then-at-end-3
returns-then-at-end-3 c = let w = c.loop-c.invariant in ends_by_three _ _ w c.requires.out_len c.six-one.ensures c.six-two.ensures c.six-three.ensures (omega (arith, as_long _ _ w.filled)) (omega (arith, as_long _ _ w.filled)) (omega arith)

pub returns-else-at-end-3 : goal.returns-else-at-end-3
returns-else-at-end-3 c = let w = c.loop-c.invariant in ends-by-two _ _ w c.requires.out_len c.six-one.ensures c.six-two.ensures c.six-three.ensures (omega (arith, as_long _ _ w.filled)) (omega (arith, as_long _ _ w.filled)) (omega (arith, as_long _ _ w.filled))

pub returns-else-at-end-2 : goal.returns-else-at-end-2
returns-else-at-end-2 c = let w = c.loop-c.invariant in ends-by-one _ _ w c.requires.out_len c.six-one.ensures c.six-two.ensures c.six-three.ensures (omega (arith, as_long _ _ w.filled)) (omega (arith, as_long _ _ w.filled))

pub returns-else-at-end : goal.returns-else-at-end
returns-else-at-end c = let w = c.loop-c.invariant in walk_ends _ _ w c.requires.out_len (omega (arith, as_long _ _ w.filled))
