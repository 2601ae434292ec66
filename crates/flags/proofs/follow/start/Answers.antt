-- `start` meets its contract.
use Rattle.std.proofs.Common.{◌∙◌}
use Rattle.ground.proofs.Passes.{replicate-built}
use Rattle.flags.proofs.follow.start.Goals as goal

pub returns : goal.returns
returns c = c.fill.ensures.after (λ y e. e) ∙ replicate-built _ _
