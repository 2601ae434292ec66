-- `mix` meets its contract.
use Rattle.std.proofs.Common.{◌∙◌}
use Rattle.state.proofs.combination.mix.Goals as goal

pub returns-then-graphic_on : goal.returns-then-graphic_on
returns-then-graphic_on c = c.combine.ensures ∙ (rw (c.if-text_on.true, c.if-graphic_on.true))
