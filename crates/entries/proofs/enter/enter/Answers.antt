-- `enter` meets its contract: cut where the shorter ends.
use Rattle.entries.proofs.Enterings.{enters_cut}
use Rattle.entries.proofs.enter.enter.Goals as goal

pub returns-clause-answer : goal.returns-clause-answer
returns-clause-answer c = let a = c.args in
    enters_cut a.list.now a.one.now a.two.now a.a.now a.b.now c.min-m.ensures c.min-n.ensures c.enter_alike.ensures.answer
