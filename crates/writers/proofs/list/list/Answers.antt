-- `list` meets its contract: past the tests at the door, the pairs.
use Rattle.std.proofs.Common.{rules}
use Rattle.writers.proofs.Follows.{given-back, list-0}
use Rattle.writers.proofs.list.list.Goals as goal

pub returns : goal.returns
returns c =
    list-0 c.args.panel c.args.registers c.args.memory.now c.args.rom.now c.args.log.now c.args.first c.args.last c.args.list.now c.valid.ensures c.valid-2.ensures (c.if-not-valid.false) (c.if-not-fits.false) c.if-log-ne0.false (given-back c.follow.ensures.listed (search rules))
