-- `paint_row` meets its contract: the cells gathered, then packed.
use Rattle.std.proofs.Common.{◌∙◌, arith}
use Rattle.ground.proofs.Packs.{packed-by-rule}
use Rattle.state.proofs.Valid.{panelled}
use Rattle.painter.proofs.scene.Scene.paint_row.Goals as goal

pub returns : goal.returns
returns c = let s = c.args.self.now in
    let q = panelled s.panel s.valid in
    let k = c.loop-column.invariant in
    c.pack.ensures ∙ packed-by-rule s.panel.columns s.panel.width _ _ k.long (λ i h. k.gathered i (omega (arith, k.long))) q.width q.columns c.args.out.now c.requires.room
