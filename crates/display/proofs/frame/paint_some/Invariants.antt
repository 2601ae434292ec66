-- `paint_some` meets its contract: row by row, each that is flagged comes back in its own stretch.
use mathlib.Core.Path.{◌≡◌}
use Prim.Native.Nat.{◌-◌}
use lib.ListN.{length}
use Rattle.display.proofs.Flagged.{Flagging}
use Rattle.display.proofs.frame.paint_some.Given as goal

abbrev pub invariant-loop-i : goal.invariant-loop-i
invariant-loop-i l = (length l.cells ≡ 80) × Flagging l.fn.panel l.fn.display l.mem l.rom l.first l.bytes l.flags l.initial.out l.out l.i

abbrev pub decreases-loop-i : goal.decreases-loop-i
decreases-loop-i l = length l.flags - l.i
