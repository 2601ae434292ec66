-- `refresh` meets its contract: the flagged rows, then the flags.
use mathlib.Core.Path.{refl}
use Rattle.std.proofs.lemmas.Result.{err_from_is_err_and}
use Rattle.state.proofs.RefusalNumbers.{not_zero}
use Rattle.flags.proofs.Refreshes.{refresh-0, refresh-no}
use Rattle.flags.proofs.refresh.refresh.Goals as goal

pub returns-in_err-paint_flagged-clause-answer : goal.returns-in_err-paint_flagged-clause-answer
returns-in_err-paint_flagged-clause-answer c = let s = c.args in
    let p = err_from_is_err_and c.from_residual.result c.from_residual.ensures.1 in
    rw (p.1, p.2)
    (refresh-no s.panel s.registers s.mem.now s.rom.now s.frame.now s.flags.now c.in_err-paint_flagged.ensures.answer (not_zero _))

pub returns-clause-answer : goal.returns-clause-answer
returns-clause-answer c = let s = c.args in
    refresh-0 s.panel s.registers s.mem.now s.rom.now s.frame.now s.flags.now c.in_ok-paint_flagged.ensures.answer refl c.clear.ensures
