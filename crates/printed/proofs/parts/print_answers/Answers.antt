-- `print_answers` meets its contract: past the door there is room for every line.
use mathlib.Core.Bool.{◌&&◌}
use Prim.Native.Nat.{◌/◌}
use native.Mathlib.Omega.{arith}
use borrow.Author.Rules.{rules}
use lib.Dec.{leb}
use lib.ListN.{length}
use borrow.Author.Tests.{leb-true}
use Rattle.ground.proofs.Tests.{both_left, both_right}
use Rattle.printed.specs.Text.{hex_lines}
use Rattle.printed.specs.Parts.{print_answers_of}
use Rattle.printed.proofs.Prints.{hex-lines-length, hex-lines-first}
use Rattle.printed.proofs.Puts.{put_same}
use Rattle.printed.proofs.Texts.{printed-none, printed-over}
use Rattle.printed.proofs.parts.print_answers.Goals as goal

pub returns-then-fits : goal.returns-then-fits
unfolding print_answers_of
returns-then-fits c = let s = c.args in
    let h = c.if-fits.true in
    let a = leb-true s.given (length s.answers.now) (both_left _ (leb s.given (length s.out.now / 3)) h) in
    let b = leb-true s.given (length s.out.now / 3) (both_right (leb s.given (length s.answers.now)) _ h) in
    let put = put_same (hex-lines-first s.given s.answers.now a) c.hex_lines.ensures.put in
    printed-over _ _ s.out.now h put (omega (arith, put.ends, hex-lines-length s.given s.answers.now)) (search rules)

pub returns-else-fits : goal.returns-else-fits
unfolding print_answers_of
returns-else-fits c = let s = c.args in
    printed-none (leb s.given (length s.answers.now) && leb s.given (length s.out.now / 3)) (hex_lines s.given s.answers.now) s.out.now c.if-fits.false
