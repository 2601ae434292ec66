-- `graphic_dots` meets its contract: the graphic byte, masked.
use Rattle.std.proofs.Common.{◌*◌, arith}
use Rattle.book.proofs.Places.{stretch-inside}
use Rattle.painter.proofs.scene.Scene.graphic_dots.Goals as goal

pub bounds-self-at : goal.bounds-self-at
bounds-self-at c = let p = c.args.self.now.panel in
    omega (arith, stretch-inside p.columns (8 * p.lines) c.args.row c.args.column 1 c.requires.down (omega (arith, c.requires.across)), c.args.self.now.rows)
