-- `copy` meets its contract: whoever is let through at the door is ready.
use Rattle.sight.proofs.Readied.{ready-sighted}
use Rattle.sight.proofs.copy.copy.Goals as goal

pub copy_row-requires : goal.copy_row-requires
copy_row-requires c = ready-sighted _ _ _ _ c.sees.ensures c.if-sees.true
