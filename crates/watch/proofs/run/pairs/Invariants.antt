-- `pairs` meets its contract: what is left from each pair on comes to the whole.
use Rattle.std.proofs.Common.{◌-◌}
use Rattle.watch.specs.Runs.{standing_flags}
use Rattle.watch.proofs.Stretches.{on_skips}
use Rattle.watch.proofs.Turning.{Flagging}
use Rattle.watch.proofs.run.pairs.Given as goal

abbrev pub invariant-loop-i : goal.invariant-loop-i
invariant-loop-i l = Flagging l.panel l.rom l.log l.total (on_skips (standing_flags l.initial.state l.initial.memory l.initial.flags l.initial.answers 0) l.initial.skips 0 0) l.state l.memory l.flags l.answers l.given l.skips l.listed l.i

abbrev pub decreases-loop-i : goal.decreases-loop-i
decreases-loop-i l = l.total - l.i
