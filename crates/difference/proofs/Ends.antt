-- The end of a short stream: the mode, then 9CH or the cursor.
use mathlib.Core.Path.{◌≡◌, subst, sym}
use mathlib.Core.Bool.{Bool}
use mathlib.Core.List.{[], ◌∷◌}
use Prim.Native.Nat.{ℕ, ◌≤◌}
use native.Mathlib.Omega.{arith}
use Rattle.state.specs.declared.panel.Panel.{Panel}
use Rattle.state.specs.declared.registers.Combination.{Combination}
use Rattle.state.specs.declared.registers.Cursor.{Cursor}
use Rattle.book.specs.Operation.{cursor}
use Rattle.book.specs.Range.{CursorRange}
use Rattle.writer.specs.Stream.{code, combination_code, operation_pairs}
use Rattle.writer.specs.declared.put.Stream.{Stream}
use Rattle.writer.specs.Put.{Puts, RoomFor, Roomy}
use Rattle.writer.proofs.Puts.{put_both, put_as}
use Rattle.picture.specs.Laid.{Laid, Nowhere, Over}
use Rattle.difference.specs.Short.{end_pairs, end_count}
use Rattle.difference.specs.Differing.{Ending}

pub end-few : (laid : Laid) → (2 ≤ end_count laid) × (end_count laid ≤ 6)
end-few Nowhere = (omega arith, omega arith)
end-few (Over k blink) = (omega arith, omega arith)

module _ {p : Panel} {laid : Laid} {a : Stream} (k : Ending p laid a) where
  pub ending-first : RoomFor 1 a
  ending-first = omega (arith, k.fits, (end-few laid).0)

  module _ {m : ℕ} {b : Stream} (x : Puts a (code m ∷ []) b) where
    pub ending-none : RoomFor 1 b
    ending-none = omega (arith, k.fits, (end-few laid).0, x.ends, x.kept)

    pub ending-over : {at : Cursor} {blink : Bool} → laid ≡ Over at blink → Roomy p (CursorRange p at.y at.x at.height) 5 b
    ending-over {at} {blink} e =
        let l : Ending p (Over at blink) a = subst (λ (y : Laid). Ending p y a) e k in
        record { valid = l.valid; range = l.range; fits = omega (arith, l.fits, x.ends, x.kept) }

    module _ (c : Combination) (h : m ≡ combination_code c) {d : Stream} where
      pub end_none : laid ≡ Nowhere → Puts b (code 0x9c ∷ []) d → Puts a (code (combination_code c) ∷ end_pairs p laid) d
      end_none l y = subst (λ (z : Laid). Puts a (code (combination_code c) ∷ end_pairs p z) d) (sym l) (put_both (put_as h x) y)

      pub end-over : {at : Cursor} {blink : Bool} → laid ≡ Over at blink → Puts b (operation_pairs p (cursor at.y at.x at.height blink)) d
          → Puts a (code (combination_code c) ∷ end_pairs p laid) d
      end-over l y = subst (λ (z : Laid). Puts a (code (combination_code c) ∷ end_pairs p z) d) (sym l) (put_both (put_as h x) y)
