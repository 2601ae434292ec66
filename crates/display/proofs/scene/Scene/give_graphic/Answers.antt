-- `give_graphic` meets its contract: the graphic's bytes, or no dots.
use Rattle.display.proofs.Passes.{lit-graphic, blank-graphic}
use Rattle.display.proofs.scene.Scene.give_graphic.Goals as goal

pub returns-then-has_dots : goal.returns-then-has_dots
returns-then-has_dots c = let s = c.args.self.now in
    lit-graphic s.panel s.display s.mem.now _ _ _ c.has_dots.ensures c.if-has_dots.true c.address-at.ensures s.memory c.read_round.ensures

pub returns : goal.returns
returns c = let s = c.args.self.now in blank-graphic s.panel s.display s.mem.now _ _ _ c.has_dots.ensures c.if-has_dots.false c.clear.ensures
