-- What an access comes to as a reply, and that the promise of an access settles it.
use Rattle.std.proofs.Common.{◌≡◌, ℕ, Bool, true, false, cond, ◌&&◌, List, Option, Some, None, Ok, refl, ap, ◌∙◌, unwrap_or}
use Rattle.ground.proofs.Tests.{settled}
use Rattle.state.specs.State.{valid_panel, valid_registers}
use Rattle.display.specs.Frame.{lent_lengths}
use Rattle.single.specs.Types.{Panel, Registers, Acted}
use Rattle.sight.specs.Steps.{Pair, Step, refused, step_of}
use Rattle.single.specs.Access.{Accessed, replied, accessed, acted_of, access_of}
use Rattle.single.specs.Outcome.{outcome, entered_of}
use Rattle.effects.specs.Machine.{Machine, machine}

-- the door, in steps and in replies
acted-door : (r : Registers) (mem : List ℕ) (a b : Bool) (s : Step Machine)
    → acted_of r mem (cond a (cond b s (refused 2)) (refused 1)) ≡ cond a (cond b (acted_of r mem s) (accessed 2 r 0 mem)) (accessed 1 r 0 mem)
acted-door r mem true true s = refl
acted-door r mem true false s = refl
acted-door r mem false b s = refl

module _ (p : Panel) (r : Registers) (mem rom : List ℕ) (q : Pair) where
  pub acted-entered : {s : Step Machine} → s ≡ entered_of p r mem rom q → acted_of r mem s ≡ access_of p r mem rom q
  unfolding entered_of access_of
  acted-entered e = ap (acted_of r mem) e ∙ acted-door r mem (valid_panel p && valid_registers r) (lent_lengths mem rom) (step_of p rom (machine r mem) q)

  -- what an access answers, as a reply
  pub acted-ok : (answer : Option ℕ) {s : Registers} {m : List ℕ} → outcome (Ok answer) s m ≡ entered_of p r mem rom q
      → replied (record { number = 0; place = 0; registers = s; answer = unwrap_or answer 0 }) m ≡ access_of p r mem rom q
  acted-ok None e = acted-entered e
  acted-ok (Some b) e = acted-entered e

-- two replies that meet the promise are equal
pub access-settled : {x y : Acted} {m n : List ℕ} (p : Panel) (r : Registers) (mem rom : List ℕ) (q : Pair)
    → replied x m ≡ access_of p r mem rom q → replied y n ≡ access_of p r mem rom q → (x ≡ y) × (m ≡ n)
access-settled p r mem rom q h k =
    (ap (λ (o : Accessed). o.acted) (settled h k), ap (λ (o : Accessed). o.memory) (settled h k))
