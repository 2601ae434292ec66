-- The dots so far, one more at each turn.
use Prim.Native.Nat.{◌≤◌}
use Rattle.ground.specs.Lists.{build}
use Rattle.printed.specs.Text.{dot_mark_at}
use Rattle.printed.proofs.Puts.{Putting}
use Rattle.printed.proofs.put.Text.dot_line.Given as goal

abbrev pub invariant-loop-x : goal.invariant-loop-x
invariant-loop-x l = (l.x ≤ l.dots) × Putting l.fn.self (build l.x (dot_mark_at l.frame l.from)) l.x l.self
