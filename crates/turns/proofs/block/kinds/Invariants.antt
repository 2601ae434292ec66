-- `kinds` meets its contract: what is or-ed to 0 is 0.
use Rattle.std.proofs.Common.{◌≡◌, ◌≤◌}
use Rattle.turns.specs.Blocked.{AllData}
use Rattle.turns.proofs.block.kinds.Given as goal

abbrev pub invariant-loop-j : goal.invariant-loop-j
invariant-loop-j l = (l.j ≤ 16) × (l.any ≡ 0 → AllData l.log l.from l.j)
