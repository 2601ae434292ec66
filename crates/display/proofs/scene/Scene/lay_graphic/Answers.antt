-- `lay_graphic` meets its contract: mixed with the text that stands there, or the text alone.
use Rattle.display.proofs.Passes.{over-text, text-alone}
use Rattle.display.proofs.scene.Scene.lay_graphic.Goals as goal

pub returns-then-has_dots : goal.returns-then-has_dots
returns-then-has_dots c = let s = c.args.self.now in
    over-text s.panel s.display s.mem.now _ _ _ c.has_dots.ensures c.if-has_dots.true c.address-at.ensures s.memory c.mix_round.ensures

pub returns-else-has_dots : goal.returns-else-has_dots
returns-else-has_dots c = λ rom h. text-alone _ _ _ rom _ _ c.has_dots.ensures c.if-has_dots.false h
