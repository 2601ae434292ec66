-- Commands done apart from the others where auto is off: of the bus and the memory, and of the display.
use mathlib.Core.Path.{◌≡◌, ap, sym, subst, ◌∙◌}
use Rattle.std.proofs.Common.{Option, Some}
use Rattle.usual.specs.Done.{drawn}
use mathlib.Core.Bool.{Bool, true, cond}
use mathlib.Core.List.{List}
use Prim.Native.Nat.{ℕ}
use native.Mathlib.Omega.{arith}
use borrow.Author.Tests.{le-leb}
use Rattle.state.specs.State.{none}
use Rattle.codes.specs.Command.{decode_of}
use Rattle.usual.specs.Types.{Panel, Display, Off, Bus, Run}
use Rattle.effects.specs.Effect.{with_auto, with_pending}
use Rattle.sight.specs.Steps.{code, done, refused, effect_of, dropped, command_of, step_of}
use Rattle.effects.specs.Machine.{machine}
use Rattle.usual.specs.Ready.{Draws}

-- B2H, whatever auto is and whatever is pending
pub leaves : (p : Panel) (rom mem : List ℕ) (d : Display) (b : Bus) (k : ℕ) → k ≡ 0xb2 → {next : Bus} → next ≡ with_auto b Off
    → step_of p rom (machine (record { display = d; bus = b }) mem) (code k) ≡ done (machine (record { display = d; bus = with_pending next none }) mem)
leaves p rom mem d b k e h =
    ap (λ (j : ℕ). command_of p rom (machine (record { display = d; bus = b }) mem) (decode_of j)) e
    ∙ ap (λ (t : Bool). cond t (done (dropped (effect_of p rom (machine (record { display = d; bus = b }) mem) (Run Off)))) (refused 6))
    (le-leb 0 b.pending.count (omega arith))
    ∙ (λ t. done (machine (record { display = d; bus = with_pending (sym h t) none }) mem))

module _ {d : Display} {still : Bool} {k : ℕ} where
  -- a command drawn
  pub draws-some : {o : Option Display} {next : Display} → Draws d still k (drawn d o) → o ≡ Some next → Draws d still k (record { display = next; done = true })
  draws-some t e = subst (λ (o : Option Display). Draws d still k (drawn d o)) e t
