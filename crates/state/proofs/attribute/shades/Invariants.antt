-- `shades` meets its contract: code by code, twice, the table read once.
use Rattle.std.proofs.Common.{◌≡◌, ◌-◌, ◌^◌, min, cond, ltb, length}
use Rattle.ground.proofs.Filling.{Filled}
use Rattle.state.specs.Attribute.{attributed}
use Rattle.state.proofs.attribute.shades.Given as goal

abbrev pub invariant-loop-n : goal.invariant-loop-n
invariant-loop-n l = (length l.shade-items ≡ 32) × Filled (λ k. attributed (min l.width 8) l.normal k (cond (ltb k 16) (2 ^ min l.width 8 - 1) 0)) l.initial.shade-items l.shade-items l.n

abbrev pub decreases-loop-n : goal.decreases-loop-n
decreases-loop-n l = 32 - l.n
