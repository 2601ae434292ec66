-- `paint` meets its contract: every row is flagged.
use Rattle.display.proofs.Flagged.{painted-all}
use Rattle.display.proofs.frame.paint.Goals as goal

pub returns-clause-answer : goal.returns-clause-answer
returns-clause-answer c = let a = c.args in
    painted-all a.panel a.registers a.mem.now a.rom.now a.frame.now c.min-rows.result c.min-rows.ensures c.paint_flagged.ensures.answer
