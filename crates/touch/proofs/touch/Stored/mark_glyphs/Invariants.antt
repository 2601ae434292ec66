-- `mark_glyphs` meets its contract: row by row.
use Rattle.ground.proofs.Filling.{Filled}
use Rattle.touch.specs.Ready.{glyph_meets}
use Rattle.touch.proofs.Marks.{mark_at}
use Rattle.touch.proofs.touch.Stored.mark_glyphs.Given as goal

abbrev pub invariant-loop-row : goal.invariant-loop-row
invariant-loop-row l = Filled (mark_at (λ r. glyph_meets l.self.panel l.self.display l.self.memory.now r l.self.at l.self.n) l.initial.flags) l.initial.flags l.flags l.row
