-- `compare` meets its contract: past the tests at the door both machines paint, and what differs in them is few.
use Rattle.comparison.proofs.Verdicts.{both-paint, few}
use Rattle.comparison.proofs.compare.compare.Goals as goal

pub invariant_of-pictures : goal.invariant_of-pictures
invariant_of-pictures c = let a = c.args in record {
  pictured =
      both-paint a.panel a.one.now a.two.now a.rom.now a.log_one.now a.log_two.now a.list.now c.valid-valid.ensures c.if-not-valid.false c.if-not-fits.false c.copy_from_slice.ensures.after c.in_ok-first.ensures c.in_ok-second.ensures;
}

pub told-requires : goal.told-requires
told-requires c = let a = c.args in
    few c.in_ok-first.first c.in_ok-second.second a.list.now c.register_values-b.result
    (both-paint a.panel a.one.now a.two.now a.rom.now a.log_one.now a.log_two.now a.list.now c.valid-valid.ensures c.if-not-valid.false c.if-not-fits.false c.copy_from_slice.ensures.after c.in_ok-first.ensures c.in_ok-second.ensures)
    c.register_values-a.ensures c.enter.ensures.answer
