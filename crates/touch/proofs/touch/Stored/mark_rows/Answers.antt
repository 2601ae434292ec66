-- `mark_rows` meets its contract: text and graphic, then glyphs where they are near.
use Rattle.touch.proofs.Marks.{marks-both, marks-far}
use Rattle.touch.proofs.touch.Stored.mark_rows.Goals as goal

pub returns-then-near : goal.returns-then-near
returns-then-near c = let s = c.args.self.now in
    marks-both s.panel s.display s.memory.now s.at s.n c.args.altered c.args.flags.now c.mark_planes.ensures c.mark_glyphs.ensures

pub returns-else-near : goal.returns-else-near
returns-else-near c = let s = c.args.self.now in
    marks-far s.panel s.display s.memory.now s.at s.n c.args.altered c.args.flags.now c.mark_planes.ensures c.args.self.now.low c.args.self.now.marking.offset c.args.self.now.bytes c.near.ensures c.if-near.false
