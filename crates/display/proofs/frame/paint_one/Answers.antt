-- `paint_one` meets its contract: the tests at the door, then the row.
use Rattle.std.proofs.lemmas.Result.{err_from_is_err_and}
use lib.ListN.{get_or-replicate}
use Rattle.display.proofs.Dots.{one-row}
use Rattle.display.proofs.Flagged.{all-flagged, ones}
use Rattle.display.proofs.Doors.{let-in}
use Rattle.display.proofs.OneRows.{one-0, one-no}
use Rattle.display.proofs.frame.paint_one.Goals as goal

pub returns-clause-answer : goal.returns-clause-answer
returns-clause-answer c = let a = c.args in
    let i = c.valid.ensures in
    let j = c.valid-2.ensures in
    let m = c.row_size-bytes.ensures in
    let o = let-in _ _ c.in_ok-admit.ensures in
    one-0 a.panel a.display a.mem.now a.rom.now a.at a.out.now i j o.0 m o.1
    (one-row a.panel a.display a.mem.now a.rom.now a.at
    (all-flagged a.panel a.display a.mem.now a.rom.now a.at c.row_size-bytes.result (ones 1) a.out.now (λ q h. get_or-replicate 1 q 1 0 h) c.paint_some.ensures))

pub returns-in_err-admit-clause-answer : goal.returns-in_err-admit-clause-answer
returns-in_err-admit-clause-answer c = let a = c.args in
    let p = err_from_is_err_and c.from_residual.result c.from_residual.ensures.1 in
    rw (p.1, p.2) (one-no a.panel a.display a.mem.now a.rom.now a.at a.out.now c.valid.ensures c.valid-2.ensures _ c.row_size-bytes.ensures c.in_err-admit.ensures)
