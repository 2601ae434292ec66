-- `lay_glyphs` meets its contract: the line's codes, then their glyph rows.
use Rattle.display.proofs.Fonts.{looked-up}
use Rattle.display.proofs.scene.Scene.lay_glyphs.Goals as goal

pub returns : goal.returns
returns c = let a = c.args in
    let s = a.self.now in
    looked-up s.panel s.display s.mem.now s.font.now a.row a.column a.cells.now c.address-at.ensures s.glyphs s.memory s.bytes c.read_round.ensures c.look_up.ensures
