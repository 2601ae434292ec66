-- `follow` meets its contract: what is left from here always comes to the whole.
use Prim.Native.Nat.{◌/◌}
use lib.ListN.{length}
use Rattle.inspection.specs.Inspected.{begun_watch}
use Rattle.inspection.specs.Named.{looked}
use Rattle.inspection.proofs.Watches.{Watching}
use Rattle.inspection.proofs.inspect.follow.Given as goal

abbrev pub invariant-loop-i : goal.invariant-loop-i
invariant-loop-i l = Watching l.panel l.rom l.recorded l.log (length l.log / 2) (begun_watch l.initial.registers l.initial.memory) l.registers l.memory (looked l.seen) l.given l.i-counter
