-- `read_here` meets its contract: the code names the reader.
use native.Mathlib.Omega.{arith}
use Rattle.std.proofs.lemmas.Bool.Decides.{nat_tests}
use Rattle.book.specs.Operation.{found_here}
use Rattle.book.proofs.operation.read_here.Goals as goal

pub returns-in-1 : goal.returns-in-1
unfolding found_here
returns-in-1 c = rw (← c.byte_at-code.ensures, c.in-1.is) c.read_text.ensures

pub returns-in-2 : goal.returns-in-2
unfolding found_here
returns-in-2 c = rw (← c.byte_at-code.ensures, c.in-2.is) c.read_rectangle.ensures

pub returns-in-3 : goal.returns-in-3
unfolding found_here
returns-in-3 c = rw (← c.byte_at-code.ensures, c.in-3.is) c.read_dot.ensures

pub returns-in-4 : goal.returns-in-4
unfolding found_here
returns-in-4 c = rw (← c.byte_at-code.ensures, c.in-4.is) c.read_glyph.ensures

pub returns-in-5 : goal.returns-in-5
unfolding found_here
returns-in-5 c = rw (← c.byte_at-code.ensures, c.in-5.is) c.read_cursor.ensures

pub returns-in-6 : goal.returns-in-6
unfolding found_here
returns-in-6 c = rw (← c.byte_at-code.ensures, c.in-6.is) c.read_combine.ensures

pub returns-in_default : goal.returns-in_default
unfolding found_here
returns-in_default c = rw (← c.byte_at-code.ensures) (grind (arith, nat_tests))
