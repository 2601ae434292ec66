-- `run_stopping` meets its contract: it is entered with no list and skipping off.
use mathlib.Core.Path.{ap, ◌∙◌}
use Rattle.controller.specs.Skip.{RanOnAll}
use Rattle.controller.proofs.Runs.{off-stops}
use Rattle.controller.proofs.run.run_stopping.Goals as goal

pub returns : goal.returns
returns c = let s = c.args in
    ap (λ (x : RanOnAll). x.all) c.enter-gone.ensures
    ∙ off-stops s.panel s.registers s.mem.now s.rom.now s.log.now s.limit s.answers.now _
