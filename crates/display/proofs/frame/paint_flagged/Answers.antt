-- `paint_flagged` meets its contract: the tests at the door, then the rows.
use Rattle.std.proofs.lemmas.Result.{err_from_is_err_and}
use native.Mathlib.Omega.{arith}
use mathlib.Core.Path.{◌≡◌, sym, ◌∙◌}
use mathlib.Core.Bool.{true}
use Rattle.ground.proofs.Tests.{both_left, both_right}
use Rattle.state.specs.State.{valid_panel, valid_bus, valid_registers}
use Rattle.display.proofs.Doors.{let-in}
use Rattle.display.proofs.Flagged.{flagged-0, flagged-no, flagged-drawable, flagged-rom, flagged-few, flagged-row, flagged-long}
use Rattle.display.proofs.frame.paint_flagged.Goals as goal

pub paint_some-requires : goal.paint_some-requires
paint_some-requires c = let a = c.args in
    let i = c.valid.ensures in
    let j = c.valid-2.ensures in
    let m = c.frame_size-size.ensures.value in
    let n = c.row_size-bytes.ensures in
    let o = let-in _ _ c.in_ok-admit.ensures in
    let v : valid_panel a.panel ≡ true = sym i ∙ both_left _ _ o.0 in
    let r : valid_registers a.registers ≡ true = sym j ∙ both_right c.valid.result _ o.0 in
    record { valid = (v, both_left _ (valid_bus a.registers.bus) r); lent = ((flagged-drawable a.panel a.registers a.mem.now a.rom.now a.flags.now a.frame.now i j o.0 m o.1).memory, flagged-rom a.panel a.registers a.mem.now a.rom.now a.flags.now a.frame.now i j o.0 m o.1); bytes_value = (flagged-row a.panel a.registers a.mem.now a.rom.now a.flags.now a.frame.now i j o.0 m o.1 n, flagged-long a.panel a.registers a.mem.now a.rom.now a.flags.now a.frame.now i j o.0 m o.1 n, omega (arith, flagged-few a.panel a.registers a.mem.now a.rom.now a.flags.now a.frame.now i j o.0 m o.1)) }

pub returns-clause-answer : goal.returns-clause-answer
returns-clause-answer c = let a = c.args in
    let o = let-in _ _ c.in_ok-admit.ensures in
    flagged-0 a.panel a.registers a.mem.now a.rom.now a.flags.now a.frame.now c.valid.ensures c.valid-2.ensures o.0 c.frame_size-size.ensures.value o.1 c.row_size-bytes.ensures c.paint_some.ensures

pub returns-in_err-admit-clause-answer : goal.returns-in_err-admit-clause-answer
returns-in_err-admit-clause-answer c = let a = c.args in
    let p = err_from_is_err_and c.from_residual.result c.from_residual.ensures.1 in
    rw (p.1, p.2) (flagged-no a.panel a.registers a.mem.now a.rom.now a.flags.now a.frame.now c.valid.ensures c.valid-2.ensures _ c.frame_size-size.ensures.value c.in_err-admit.ensures)
