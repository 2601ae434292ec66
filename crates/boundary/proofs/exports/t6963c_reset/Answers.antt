-- `t6963c_reset` meets its contract.
use Rattle.boundary.proofs.Ends.{reset-done}
use Rattle.boundary.proofs.exports.t6963c_reset.Goals as goal

pub returns : goal.returns
returns c = reset-done c.args.registers.now c.if-registers-ne25.false c.reset.ensures.value c.encode.ensures
