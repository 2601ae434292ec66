-- The rows so far, one more at each turn.
use Prim.Native.Nat.{◌≤◌, ◌+◌, ◌*◌}
use Rattle.ground.specs.Lists.{joined}
use Rattle.ground.specs.Packing.{row_bytes}
use Rattle.printed.specs.Text.{dot_line}
use Rattle.printed.proofs.Puts.{Putting}
use Rattle.printed.proofs.put.Text.frame_lines.Given as goal

abbrev pub invariant-loop-row : goal.invariant-loop-row
invariant-loop-row l = (l.row ≤ l.rows) × Putting l.fn.self (joined l.row (λ r. dot_line l.frame (r * row_bytes l.fn.panel.columns l.fn.panel.width) l.dots)) (l.row * (l.dots + 1)) l.self
