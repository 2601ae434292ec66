-- `put_end` meets its contract: the mode, then the end by whether there is a cursor.
use mathlib.Core.Path.{ap}
use mathlib.Core.List.{[], ◌∷◌}
use native.Mathlib.Omega.{arith}
use Rattle.picture.specs.Laid.{laid}
use Rattle.writer.proofs.Puts.{put-pairs-as}
use Rattle.difference.proofs.Ends.{ending-first, ending-none, ending-over, end_none, end-over}
use Rattle.difference.proofs.put.put_end.Goals as goal

pub returns-in-None : goal.returns-in-None
returns-in-None c =
    let mode = put-pairs-as (λ i. c.command.ensures i ∷ []) (c.add.ensures.room (ending-first c.requires)) in
    end_none c.requires mode c.args.style.combination c.combination_code.ensures (ap laid c.in-None.is)
    (put-pairs-as (λ i. c.command-in-None.ensures i ∷ []) (c.add-in-None.ensures.room (ending-none c.requires mode)))

pub returns-in-Some : goal.returns-in-Some
returns-in-Some c =
    let mode = put-pairs-as (λ i. c.command.ensures i ∷ []) (c.add.ensures.room (ending-first c.requires)) in
    let k = ending-over c.requires mode (ap laid c.in-Some.is) in
    end-over c.requires mode c.args.style.combination c.combination_code.ensures (ap laid c.in-Some.is)
    (put-pairs-as (c.cursor.ensures k.valid k.range) (c.add-in-Some.ensures.room (omega (arith, k.fits, c.cursor.type_inv))))
