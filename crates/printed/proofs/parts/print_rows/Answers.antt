-- `print_rows` meets its contract: past the door the rows.
use native.Mathlib.Omega.{arith}
use borrow.Author.Rules.{rules}
use Rattle.printed.proofs.Screens.{rows-unprinted, rows-room, rows-printed}
use Rattle.printed.proofs.parts.print_rows.Goals as goal

pub frame_lines-requires-clause-room_for : goal.frame_lines-requires-clause-room_for
frame_lines-requires-clause-room_for c = let s = c.args in
    omega (arith, rows-room s.panel s.frame.now s.out.now c.is_framed.ensures c.if-fits.true)

pub returns-then-fits : goal.returns-then-fits
returns-then-fits c = let s = c.args in
    rows-printed s.panel s.frame.now s.out.now c.is_framed.ensures c.if-fits.true c.frame_lines.ensures.put (search rules)

pub returns-else-fits : goal.returns-else-fits
returns-else-fits c = let s = c.args in
    rows-unprinted s.panel s.frame.now s.out.now c.is_framed.ensures c.if-fits.false
