-- `dots_apart` meets its contract: row by row.
use Prim.Native.Nat.{◌-◌, ◌≤◌}
use Rattle.comparison.proofs.Aparts.{Adding}
use Rattle.comparison.proofs.dots.Pictures.dots_apart.Given as goal

abbrev pub invariant-loop-row : goal.invariant-loop-row
invariant-loop-row l = Adding l.self.panel l.self.first l.self.one.now l.self.second l.self.two.now l.self.rom.now l.count l.row × (l.row ≤ l.rows)

abbrev pub decreases-loop-row : goal.decreases-loop-row
decreases-loop-row l = l.rows - l.row
