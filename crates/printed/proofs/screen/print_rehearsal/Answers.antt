-- `print_rehearsal` meets its contract: past the door a line, and the rows behind it.
use borrow.Author.Rules.{rules}
use Rattle.printed.specs.Printed.{first_line}
use Rattle.printed.specs.Screen.{print_rehearsal_of, rehearsal_text}
use Rattle.printed.proofs.Screens.{screen-none, screen-all}
use Rattle.printed.proofs.screen.print_rehearsal.Goals as goal

pub returns-then-fits : goal.returns-then-fits
unfolding print_rehearsal_of rehearsal_text
returns-then-fits c = let s = c.args in
    let line = first_line s.pairs 0 s.number s.place in
    screen-all s.panel s.number s.frame.now s.out.now line c.is_framed.ensures c.if-fits.true c.first_line.ensures.puts.put c.put_screen.ensures.puts.put c.put_screen.ensures.upper_bound (search rules)

pub returns-else-fits : goal.returns-else-fits
unfolding print_rehearsal_of rehearsal_text
returns-else-fits c = let s = c.args in
    let line = first_line s.pairs 0 s.number s.place in
    screen-none s.panel s.number s.frame.now s.out.now line c.is_framed.ensures c.if-fits.false
