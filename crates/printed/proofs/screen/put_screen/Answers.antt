-- `put_screen` meets its contract: room for every row.
use native.Mathlib.Omega.{arith}
use Rattle.printed.proofs.Prints.{lines-few, frame-lines-length}
use Rattle.printed.proofs.Screens.{framed-panel}
use Rattle.printed.proofs.screen.put_screen.Goals as goal

pub frame_lines-requires-clause-room_for : goal.frame_lines-requires-clause-room_for
frame_lines-requires-clause-room_for c = let s = c.args in
    omega (arith, lines-few s.panel (framed-panel s.panel s.number s.frame.now c.if-number-ne0.false c.requires.framed), c.requires.behind, c.requires.roomy)

pub returns-clause-upper_bound : goal.returns-clause-upper_bound
returns-clause-upper_bound c = let s = c.args in
    omega (arith, c.frame_lines.ensures.put.ends, frame-lines-length s.panel s.frame.now, lines-few s.panel (framed-panel s.panel s.number s.frame.now c.if-number-ne0.false c.requires.framed), c.requires.behind)
