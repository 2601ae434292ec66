-- `print_refusal` meets its contract.
use native.Mathlib.Omega.{arith}
use borrow.Author.Rules.{rules}
use lib.Dec.{leb}
use lib.ListN.{length}
use borrow.Author.Tests.{le-leb, lt-leb}
use Rattle.printed.specs.Printed.{refusal_line}
use Rattle.printed.specs.Parts.{print_refusal_of}
use Rattle.printed.proofs.Texts.{printed-none, printed-over}
use Rattle.printed.proofs.parts.print_refusal.Goals as goal

pub returns-then-fits : goal.returns-then-fits
unfolding print_refusal_of
returns-then-fits c = let s = c.args in
    let line = c.refusal.ensures in
    printed-over _ _ s.out.now (le-leb 56 (length s.out.now) c.if-fits.true) line.puts.put (omega (arith, line.upper_bound)) (search rules)

pub returns-else-fits : goal.returns-else-fits
unfolding print_refusal_of
returns-else-fits c = let s = c.args in
    printed-none (leb 56 (length s.out.now)) (refusal_line s.number s.place) s.out.now (lt-leb 56 (length s.out.now) c.if-fits.false)
