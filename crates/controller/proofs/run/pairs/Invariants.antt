-- `pairs` meets its contract: what is left from here always comes to the whole.
use Prim.Native.Nat.{◌-◌}
use Rattle.controller.specs.Ready.{standing, standing_on}
use Rattle.controller.proofs.Pairwise.{Running}
use Rattle.controller.proofs.run.pairs.Given as goal

abbrev pub invariant-loop-i : goal.invariant-loop-i
invariant-loop-i l = Running l.panel l.skipping l.rom l.log l.total (standing_on (standing (record { display = l.initial.display; bus = l.initial.bus }) l.initial.mem l.initial.answers l.initial.given) l.initial.skips l.initial.listed l.initial.i) (standing (record { display = l.display; bus = l.bus }) l.mem l.answers l.given) l.skips l.listed l.i

abbrev pub decreases-loop-i : goal.decreases-loop-i
decreases-loop-i l = l.total - l.i
