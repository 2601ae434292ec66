-- `follow` meets its contract: what is left from here always comes to the whole.
use Rattle.std.proofs.Common.{◌-◌}
use Rattle.writers.specs.Listing.{begun_list}
use Rattle.writers.proofs.Follows.{Followed}
use Rattle.writers.proofs.list.follow.Given as goal

abbrev pub invariant-loop-i : goal.invariant-loop-i
invariant-loop-i l = Followed l.panel l.rom l.log l.total (begun_list (record { display = l.initial.display; bus = l.initial.bus }) l.initial.memory) l.fn.notes (record { display = l.display; bus = l.bus }) l.memory l.notes l.i

abbrev pub decreases-loop-i : goal.decreases-loop-i
decreases-loop-i l = l.total - l.i
