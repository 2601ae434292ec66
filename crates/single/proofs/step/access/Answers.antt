-- `access` meets its contract: whoever is past the door is ready.
use Rattle.std.proofs.Common.{rules}
use Rattle.sight.proofs.Readied.{ready-past}
use Rattle.single.proofs.step.access.Goals as goal

pub step-requires : goal.step-requires
step-requires c = ready-past c.args.panel c.args.registers.now c.args.memory.now c.args.rom.now c.valid.ensures c.valid-2.ensures (search rules) (search rules)
