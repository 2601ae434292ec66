-- `text_home` meets its contract: by the panel's kind.
use mathlib.Core.Path.{ap, sym}
use mathlib.Core.Bool.{Bool, cond}
use Rattle.writer.specs.Homes.{text_home}
use Rattle.writer.proofs.homes.text_home.Goals as goal

pub returns-then-panel : goal.returns-then-panel
unfolding text_home
returns-then-panel c = sym (ap (λ (t : Bool). cond t 0x8000 0x4000) c.if-panel.true)

pub returns-else-panel : goal.returns-else-panel
unfolding text_home
returns-else-panel c = sym (ap (λ (t : Bool). cond t 0x8000 0x4000) c.if-panel.false)
