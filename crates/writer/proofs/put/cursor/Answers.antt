-- `cursor` meets its contract: in range the Y and the height are bytes.
use mathlib.Core.Path.{◌≡◌, ap, ◌∙◌}
use mathlib.Core.List.{[], ◌∷◌}
use Prim.Native.Nat.{◌+◌, ◌-◌, ◌%◌}
use native.Mathlib.Omega.{arith}
use Rattle.state.specs.Halves.{cursor_y}
use Rattle.state.proofs.Halves.{y-few}
use Rattle.writer.specs.Stream.{datum, code, operation_pairs}
use Rattle.writer.proofs.put.cursor.Goals as goal

pub returns : goal.returns
unfolding operation_pairs
returns c v k =
    let a = c.args in
    let y : c.cursor_y.result % 256 ≡ cursor_y a.panel a.line = omega (arith, c.cursor_y.ensures, y-few a.panel v a.line k.down) in
    let h : (0xa0 + (a.height + 255) % 256) % 256 ≡ 0xa0 + (a.height - 1) = omega (arith, k.some, k.few) in
    λ i. c.datum.ensures i
    ∷ (c.datum-2.ensures ∙ ap datum y) i
    ∷ c.command.ensures i
    ∷ (c.command-2.ensures ∙ ap code h) i
    ∷ (c.command-3.ensures ∙ ap code c.cursor_code.ensures) i
    ∷ []
