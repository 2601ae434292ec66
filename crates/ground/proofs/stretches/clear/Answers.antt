-- `clear` meets its contract.
use Rattle.std.proofs.Common.{◌∙◌}
use Rattle.ground.proofs.Passes.{replicate-built}
use Rattle.ground.proofs.stretches.clear.Goals as goal

pub returns : goal.returns
returns c = c.fill.ensures.after (λ y e. e) ∙ replicate-built _ _
