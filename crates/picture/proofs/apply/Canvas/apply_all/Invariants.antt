-- `apply_all` meets its contract: what is left of the body is still to be applied.
use Prim.Native.Nat.{◌-◌}
use Rattle.picture.specs.Drawn.{drawn, SamePlanes}
use Rattle.picture.proofs.Bodies.{Drawing}
use Rattle.picture.proofs.apply.Canvas.apply_all.Given as goal

abbrev pub invariant-loop-standing : goal.invariant-loop-standing
invariant-loop-standing l = record { same : SamePlanes l.initial.self l.self; left : Drawing l.self.panel l.book l.start l.end (drawn l.initial.self) (drawn l.self) l.next }

abbrev pub decreases-loop-standing : goal.decreases-loop-standing
decreases-loop-standing l = l.end - l.next
