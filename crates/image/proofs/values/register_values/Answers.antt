-- `register_values` meets its contract: number by number.
use Rattle.std.proofs.Common.{◌∙◌}
use Rattle.image.proofs.Images.{flagged}
use Rattle.image.proofs.Registries.{values-are}
use Rattle.image.proofs.values.register_values.Goals as goal

pub returns : goal.returns
returns c = values-are c.args.registers (c.from-combination.ensures ∙ c.from.ensures) (flagged _ c.from-external.ensures) c.bits_number-bits.ensures (c.from-auto.ensures ∙ c.from-2.ensures) c.pending_number-pending.ensures (flagged _ c.from-error.ensures) (flagged _ c.from-phase.ensures)
