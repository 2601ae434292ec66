-- What peek and copy come to, case by case, from what their calls give.
use Rattle.std.proofs.Common.{◌≡◌, ℕ, ◌+◌, ◌-◌, ◌*◌, ◌<◌, Bool, true, false, cond, ◌||◌, List, sym, ap, ◌∙◌, subst}
use Rattle.ground.specs.Lists.{build, stored}
use Rattle.ground.proofs.Tests.{settled}
use Rattle.state.specs.Combination.{is_attribute}
use Rattle.state.specs.Address.{address_of}
use Rattle.display.specs.Displayed.{displayed_byte}
use Rattle.effects.specs.Machine.{Machine, machine}
use Rattle.effects.specs.Effect.{with_bus, with_latch, with_error}
use Rattle.sight.specs.Types.{Panel, Plane, Registers, Bus, Position, At, Nowhere}
use Rattle.sight.specs.Position.{position_of}
use Rattle.sight.specs.Sight.{peek_of, copied_of, copy_of, position, sighted, peeked_of, copied_all}
use Rattle.sight.proofs.Positions.{Within, position-within}

-- a position found is on the panel, where the pointer is
pub found_within : (p : Panel) (q : Plane) (pointer : ℕ) {x : Position} {r c : ℕ} → x ≡ position_of p q pointer → x ≡ At r c
    → (r < 8 * p.lines) × (c < p.columns) × (pointer ≡ address_of q r c)
found_within p q pointer e f = subst (Within p q pointer) (sym e ∙ f) (position-within p q pointer)

module _ (p : Panel) (rom : List ℕ) (s : Registers) (mem : List ℕ) {x : Position} (e : x ≡ position_of p s.display.graphic s.bus.pointer) where
  pub peek_found : {r c v : ℕ} → x ≡ At r c → v ≡ displayed_byte p s.display mem rom r c
      → with_error (with_latch s.bus v) false ≡ peek_of p rom (machine s mem) (position_of p s.display.graphic s.bus.pointer)
  peek_found f h = (λ i. with_error (with_latch s.bus (h i)) false) ∙ sym (ap (peek_of p rom (machine s mem)) (sym e ∙ f))

  pub peek-nowhere : x ≡ Nowhere → with_error s.bus true ≡ peek_of p rom (machine s mem) (position_of p s.display.graphic s.bus.pointer)
  peek-nowhere f = sym (ap (peek_of p rom (machine s mem)) (sym e ∙ f))

  pub copy-nowhere : {q : Registers} → x ≡ Nowhere → q ≡ with_bus s (with_error s.bus true)
      → machine q mem ≡ copy_of p rom (machine s mem) (position_of p s.display.graphic s.bus.pointer)
  copy-nowhere f h = ap (λ (q : Registers). machine q mem) h ∙ sym (ap (copy_of p rom (machine s mem)) (sym e ∙ f))

  module _ {r c : ℕ} (f : x ≡ At r c) {b : Bool} (i : b ≡ is_attribute s.display.combination) where
    copied-by : (v : Bool) → (p.dual || b) ≡ v
        → cond v (machine (with_bus s (with_error s.bus true)) mem) (machine (with_bus s (with_error s.bus false)) (copied_of p rom (machine s mem) r c))
        ≡ copy_of p rom (machine s mem) (position_of p s.display.graphic s.bus.pointer)
    copied-by v g =
        ap (λ (t : Bool). cond t (machine (with_bus s (with_error s.bus true)) mem) (machine (with_bus s (with_error s.bus false)) (copied_of p rom (machine s mem) r c))) (sym g ∙ (λ k. p.dual || i k))
        ∙ sym (ap (copy_of p rom (machine s mem)) (sym e ∙ f))

    pub copy-invalid : {q : Registers} → (p.dual || b) ≡ true → q ≡ with_bus s (with_error s.bus true)
        → machine q mem ≡ copy_of p rom (machine s mem) (position_of p s.display.graphic s.bus.pointer)
    copy-invalid g h = ap (λ (q : Registers). machine q mem) h ∙ copied-by true g

    pub copy-found : {q : Registers} {m line : List ℕ} → (p.dual || b) ≡ false → q ≡ with_bus s (with_error s.bus false)
        → line ≡ build (p.columns - c) (λ j. displayed_byte p s.display mem rom r (c + j)) → m ≡ stored mem s.bus.pointer line
        → machine q m ≡ copy_of p rom (machine s mem) (position_of p s.display.graphic s.bus.pointer)
    unfolding copied_of
    copy-found g h l k =
        (λ t. machine (h t) ((k ∙ (λ u. stored mem ((found_within p s.display.graphic s.bus.pointer e f).2 u) (l u))) t)) ∙ copied-by false g

-- past the door, and at it
module _ (p : Panel) (r : Registers) (mem rom : List ℕ) {b : Bool} (i : b ≡ sighted p r.display mem rom) where
  peeked : (v : Bool) → b ≡ v → cond v (peek_of p rom (machine r mem) (position p r)) r.bus ≡ peeked_of p r mem rom
  unfolding peeked_of
  peeked v e = ap (λ (t : Bool). cond t (peek_of p rom (machine r mem) (position p r)) r.bus) (sym e ∙ i)

  pub peeked-on : {x : Bus} → b ≡ true → x ≡ peek_of p rom (machine r mem) (position p r) → x ≡ peeked_of p r mem rom
  peeked-on e h = h ∙ peeked true e

  pub peeked-off : b ≡ false → r.bus ≡ peeked_of p r mem rom
  peeked-off e = peeked false e

  copied : (v : Bool) → b ≡ v → cond v (copy_of p rom (machine r mem) (position p r)) (machine r mem) ≡ copied_all p r mem rom
  unfolding copied_all
  copied v e = ap (λ (t : Bool). cond t (copy_of p rom (machine r mem) (position p r)) (machine r mem)) (sym e ∙ i)

  pub copied_on : {x : Machine} → b ≡ true → x ≡ copy_of p rom (machine r mem) (position p r) → x ≡ copied_all p r mem rom
  copied_on e h = h ∙ copied true e

  pub copied-off : b ≡ false → machine r mem ≡ copied_all p r mem rom
  copied-off e = copied false e

-- two replies that meet a promise are equal
pub peek-settled : {x y : Bus} (p : Panel) (r : Registers) (mem rom : List ℕ) → x ≡ peeked_of p r mem rom → y ≡ peeked_of p r mem rom → x ≡ y
peek-settled p r mem rom h k = settled h k

pub copy-settled : {x y : Registers} {m n : List ℕ} (p : Panel) (r : Registers) (mem rom : List ℕ)
    → machine x m ≡ copied_all p r mem rom → machine y n ≡ copied_all p r mem rom → (x ≡ y) × (m ≡ n)
copy-settled p r mem rom h k =
    (ap (λ (s : Machine). s.registers) (settled h k), ap (λ (s : Machine). s.memory) (settled h k))
