-- `put_text` meets its contract: one block.
use mathlib.Core.Path.{ap}
use Prim.Native.Nat.{ℕ, ◌+◌, ◌*◌}
use Rattle.writer.specs.Stream.{operation_pairs}
use Rattle.writer.proofs.Apart.{text-place}
use Rattle.writer.proofs.Puts.{put-block-as}
use native.Mathlib.Omega.{arith}
use Rattle.writer.proofs.stream.put_text.Goals as goal

pub overflow_add-text_home : goal.overflow_add-text_home
overflow_add-text_home c = omega (arith, text-place c.args.panel c.requires.valid c.requires.range, c.text_home.ensures)

pub returns : goal.returns
unfolding operation_pairs
returns c = let a = c.args in put-block-as _ (ap (λ (n : ℕ). n + (a.line * a.panel.columns + a.column)) c.text_home.ensures) c.block.ensures
