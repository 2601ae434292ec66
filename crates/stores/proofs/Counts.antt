-- How many bytes a copy stores, from where the pointer was found.
use mathlib.Core.Path.{◌≡◌, ap, sym, subst, ◌∙◌}
use mathlib.Core.Bool.{Bool, true, cond, ◌||◌}
use Prim.Native.Nat.{ℕ, ◌-◌, ◌<◌}
use lib.Dec.{eqb}
use Rattle.state.specs.State.{valid_panel}
use Rattle.state.specs.Combination.{is_attribute}
use Rattle.codes.specs.Command.{decode_of}
use Rattle.effects.specs.Effect.{is_write}
use Rattle.sight.specs.Position.{position_of, located_of}
use Rattle.sight.specs.Sight.{position}
use Rattle.sight.proofs.Positions.{Within, position-within}
use Rattle.stores.specs.Stores.{copy_stores, code_stores, stores_asked}
use Rattle.controller.specs.Types.{Panel, Registers, Position, At, Nowhere}

module _ (p : Panel) (r : Registers) (v : valid_panel p ≡ true) {x : Position} (e : x ≡ located_of p r.display.graphic r.bus.pointer) where
  stands : x ≡ position p r
  stands = e ∙ ap (λ (t : Bool). cond t (position_of p r.display.graphic r.bus.pointer) Nowhere) v

  pub copy-inside : {i c : ℕ} → x ≡ At i c → c < p.columns
  copy-inside {i} {c} h =
      (subst (Within p r.display.graphic r.bus.pointer) (sym stands ∙ h) (position-within p r.display.graphic r.bus.pointer)).1

  pub copy-nowhere : x ≡ Nowhere → 0 ≡ copy_stores p r.display (position p r)
  copy-nowhere h = sym (ap (copy_stores p r.display) (sym stands ∙ h))

  pub copy_at : {i c : ℕ} → x ≡ At i c → {b t : Bool} → b ≡ is_attribute r.display.combination → (p.dual || b) ≡ t
      → cond t 0 (p.columns - c) ≡ copy_stores p r.display (position p r)
  copy_at {i} {c} h {b} {t} j k =
      ap (λ (u : Bool). cond u 0 (p.columns - c)) (sym k ∙ (λ m. p.dual || j m)) ∙ sym (ap (copy_stores p r.display) (sym stands ∙ h))

-- a pair's, by its kind
module _ (p : Panel) (r : Registers) (k b : ℕ) where
  abbrev counted : Bool → Bool → Bool → ℕ
  counted v i j = cond v (cond i (cond (is_write r.bus.auto) 1 0) (cond j (code_stores p r (decode_of b)) 0)) 0

  pub counts : {v i j : Bool} → valid_panel p ≡ v → eqb k 0 ≡ i → eqb k 1 ≡ j → {n : ℕ} → n ≡ counted v i j → n ≡ stores_asked p r (record { kind = k; byte = b })
  counts e f g h = h ∙ sym (λ t. counted (e t) (f t) (g t))
