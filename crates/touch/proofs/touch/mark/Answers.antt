-- `mark` meets its contract: the tests at the door, then the rows.
use Rattle.touch.proofs.Marks.{door-idle}
use Rattle.touch.proofs.touch.mark.Goals as goal

pub returns-else-fits-altered : goal.returns-else-fits-altered
returns-else-fits-altered c = let s = c.args in
    door-idle s.panel s.display s.memory.now s.at s.n s.altered s.flags.now c.valid.ensures c.if-valid.true c.valid-then-valid.ensures c.if-fits-altered.false
