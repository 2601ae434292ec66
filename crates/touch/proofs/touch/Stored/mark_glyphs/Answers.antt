-- `mark_glyphs` meets its contract: row by row.
use Rattle.ground.proofs.Filling.{none_yet}
use Rattle.touch.specs.Ready.{glyph_meets}
use Rattle.touch.proofs.Marks.{marks-one}
use Rattle.touch.proofs.touch.Stored.mark_glyphs.Goals as goal

pub loop-row-init : goal.loop-row-init
loop-row-init c = none_yet _ _

pub loop-row-preserved : goal.loop-row-preserved
loop-row-preserved c = let s = c.args.self.now in
    marks-one (λ r. glyph_meets s.panel s.display s.memory.now r s.at s.n) c.args.flags.now c.loop-row.invariant c.loop-row-test.true c.glyph_flag.ensures
