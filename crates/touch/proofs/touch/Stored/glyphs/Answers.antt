-- `glyphs` meets its contract: looked for, or not there.
use Rattle.std.proofs.Common.{◌∙◌, arith}
use Rattle.touch.specs.Ready.{line_meets}
use Rattle.touch.proofs.Meets.{line-glyphs, none-next}
use Rattle.touch.proofs.touch.Stored.glyphs.Goals as goal

pub returns-then-next-self : goal.returns-then-next-self
returns-then-next-self c = let s = c.args.self.now in
    ◌∙◌ {b = line_meets s.panel s.display s.memory.now c.args.row s.at s.n} c.search.ensures (line-glyphs s.panel s.display s.memory.now c.args.row s.at s.n)

pub returns : goal.returns
returns c = let s = c.args.self.now in
    none-next s.panel s.display s.memory.now c.args.row s.at s.n (omega arith) c.args.self.now.marking.offset c.args.self.now.bytes c.if-next-self.false
