-- `fill` meets its contract.
use Rattle.std.proofs.Common.{ℕ, ◌+◌, ◌-◌, replicate, drop, ap, ◌∙◌, arith, length-drop, length-take}
use Rattle.std.proofs.lemmas.List.{length-replicate}
use Rattle.ground.proofs.Mids.{mid-sets}
use Rattle.picture.proofs.plane.fill.Goals as goal

pub returns : goal.returns
returns c = let a = c.args in
    mid-sets a.at a.n a.plane.now (replicate a.n a.value)
    (c.fill.ensures.after (λ y e. e) ∙ ap (λ (m : ℕ). replicate m a.value) (omega (arith, c.requires, length-take (a.at + a.n - a.at) (drop a.at a.plane.now), length-drop a.at a.plane.now)))
    (length-replicate _ _) c.requires
