-- `put_change` meets its contract: pointer set, the byte, C4H.
use mathlib.Core.Path.{◌≡◌, ap, ◌∙◌}
use mathlib.Core.List.{[], ◌∷◌}
use Prim.Native.Nat.{◌%◌, ◌/◌}
use lib.ListN.{get_or}
use Rattle.std.proofs.Common.{rules}
use Rattle.writer.specs.Stream.{datum, point_to}
use Rattle.writer.proofs.Puts.{put-pairs-as}
use Rattle.difference.specs.Short.{change_at}
use Rattle.difference.proofs.put.put_change.Goals as goal

pub returns : goal.returns
unfolding change_at point_to
returns c =
    let low : get_or c.to_le_bytes.result 0 0 ≡ c.args.address % 256 = search rules in
    let high : get_or c.to_le_bytes.result 1 0 ≡ c.args.address / 256 = search rules in
    put-pairs-as
    (λ i. (c.datum.ensures ∙ ap datum low) i ∷ (c.datum-2.ensures ∙ ap datum high) i ∷ c.command.ensures i ∷ c.datum-3.ensures i ∷ c.command-2.ensures i ∷ [])
    (c.add.ensures.room c.requires)
