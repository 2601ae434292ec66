-- `peek` meets its contract: whoever is let through at the door is ready.
use Rattle.sight.proofs.Readied.{ready-sighted}
use Rattle.sight.proofs.peek.peek.Goals as goal

pub look-requires : goal.look-requires
look-requires c = ready-sighted _ _ _ _ c.sees.ensures c.if-sees.true
