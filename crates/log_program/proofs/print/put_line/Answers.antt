-- `put_line` meets its contract: the line in the room's first bytes.
use mathlib.Core.Path.{refl}
use native.Mathlib.Omega.{arith}
use lib.Seq.{length-take-le}
use Rattle.printed.proofs.Pieces.{line-within}
use Rattle.log_program.proofs.Prints.{line-put}
use Rattle.log_program.proofs.print.put_line.Goals as goal

pub returns : goal.returns
returns c = let k = c.print_line.auto.out in
    let h = line-within _ _ _ _ _ c.print_line.ensures in
    record { text_put = line-put 112 c.args.ran refl c.requires c.print_line.ensures k; upper_bound = omega (arith, h, k, length-take-le 112 c.args.out.now c.requires) }
