-- `print_picture` meets its contract: past the door a line, and the rows behind it.
use borrow.Author.Rules.{rules}
use Rattle.printed.specs.Printed.{refusal_line}
use Rattle.printed.specs.Screen.{print_picture_of, picture_text}
use Rattle.printed.proofs.Screens.{screen-none, screen-all}
use Rattle.printed.proofs.screen.print_picture.Goals as goal

pub returns-then-fits : goal.returns-then-fits
unfolding print_picture_of picture_text
returns-then-fits c = let s = c.args in
    let line = refusal_line s.number s.place in
    screen-all s.panel s.number s.frame.now s.out.now line c.is_framed.ensures c.if-fits.true c.refusal.ensures.puts.put c.put_screen.ensures.puts.put c.put_screen.ensures.upper_bound (search rules)

pub returns-else-fits : goal.returns-else-fits
unfolding print_picture_of picture_text
returns-else-fits c = let s = c.args in
    let line = refusal_line s.number s.place in
    screen-none s.panel s.number s.frame.now s.out.now line c.is_framed.ensures c.if-fits.false
