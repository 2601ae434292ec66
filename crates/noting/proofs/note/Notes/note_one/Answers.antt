-- `note_one` meets its contract.
use Rattle.std.proofs.Common.{arith}
use Rattle.noting.specs.Stretch.{store}
use Rattle.noting.specs.Notes.{noting_of}
use Rattle.noting.proofs.Singly.{one-noted, none-noted}
use Rattle.noting.proofs.note.Notes.note_one.Goals as goal

pub returns-then-stores_one-clause-noted : goal.returns-then-stores_one-clause-noted
returns-then-stores_one-clause-noted c = let a = c.args in
    one-noted (store a.pair a.at a.was a.after) (omega arith) (noting_of a.self.now) (rw c.if-stores_one.true at c.stores_one.ensures) c.note.ensures.noted

pub returns-else-stores_one-clause-noted : goal.returns-else-stores_one-clause-noted
returns-else-stores_one-clause-noted c = let a = c.args in
    none-noted (store a.pair a.at a.was a.after) (omega arith) (noting_of a.self.now) (rw c.if-stores_one.false at c.stores_one.ensures)
