-- What a run under way gives.
use mathlib.Core.Path.{◌≡◌}
use mathlib.Core.Bool.{cond}
use mathlib.Core.List.{List}
use Prim.Native.Nat.{ℕ}
use lib.Dec.{eqb}
use lib.ListN.{length}
use borrow.Author.Tests.{eqb-true}
use Rattle.ground.proofs.Tests.{both, both_left, both_right}
use Rattle.effects.specs.Machine.{machine}
use Rattle.single.specs.Outcome.{entered_of}
use Rattle.controller.specs.Types.{Panel, Registers}
use Rattle.controller.specs.Access.{Pair, refused, step_of, accessed, acted_of, access_of}
use Rattle.controller.specs.Ready.{Runs}

pub runs-lengths : {p : Panel} {r : Registers} {mem rom : List ℕ} → Runs p r mem rom → (length mem ≡ 65536) × (length rom ≡ 1024)
runs-lengths {p} {r} {mem} {rom} k =
    (eqb-true (length mem) 65536 (both_left _ (eqb (length rom) 1024) k.lent), eqb-true (length rom) 1024 (both_right (eqb (length mem) 65536) _ k.lent))

-- inside a run an access is its step
pub access-runs : {p : Panel} {r : Registers} {mem rom : List ℕ} → Runs p r mem rom → (q : Pair) → access_of p r mem rom q ≡ acted_of r mem (step_of p rom (machine r mem) q)
unfolding access_of
access-runs {p} {r} {mem} {rom} k q =
    λ i. cond (both k.panel k.state i) (cond (k.lent i) (acted_of r mem (step_of p rom (machine r mem) q)) (accessed 2 r 0 mem)) (accessed 1 r 0 mem)

-- and so is what comes of it
pub entered-runs : {p : Panel} {r : Registers} {mem rom : List ℕ} → Runs p r mem rom → (q : Pair) → entered_of p r mem rom q ≡ step_of p rom (machine r mem) q
unfolding entered_of
entered-runs {p} {r} {mem} {rom} k q =
    λ i. cond (both k.panel k.state i) (cond (k.lent i) (step_of p rom (machine r mem) q) (refused 2)) (refused 1)
