-- `mark_planes` meets its contract: row by row.
use Rattle.std.proofs.Common.{refl, arith}
use Rattle.ground.proofs.Filling.{none_yet}
use Rattle.touch.proofs.Marks.{planes-one}
use Rattle.touch.proofs.touch.Stored.mark_planes.Goals as goal

pub loop-row-init : goal.loop-row-init
loop-row-init c = none_yet _ _

pub loop-row-preserved : goal.loop-row-preserved
loop-row-preserved c = let s = c.args.self.now in
    planes-one s.display s.panel.columns s.at s.n c.args.altered c.args.flags.now c.loop-row.invariant c.loop-row-test.true (c.args.self.now.marking.wide, c.args.self.now.marking.columns) (omega arith) (omega arith)
    (omega arith) c.span-places.ensures refl c.reaches-text.ensures c.plane_row.ensures c.reaches-graphic.ensures c.kept.ensures
