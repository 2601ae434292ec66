-- `enter` meets its contract: the tests at the door, in order, then the pairs.
use mathlib.Core.Path.{ap, sym, ◌∙◌}
use Prim.Native.Nat.{ℕ}
use native.Mathlib.Omega.{arith}
use Rattle.ground.proofs.Tests.{both_left, both_right}
use Rattle.controller.proofs.Runs.{run-0, run-1, run-2, run-8}
use Rattle.controller.specs.Types.{Registers, RanOn}
use Rattle.controller.proofs.run.enter.Goals as goal

-- what a run answers that takes no pair
abbrev untaken : ℕ → Registers → ℕ → RanOn
untaken place r number = record { ran = record { number = number; place = place; taken = 0; answers = 0; registers = r }; skipped = 0 }

pub returns-then-not-valid : goal.returns-then-not-valid
returns-then-not-valid c = let s = c.args in
    run-1 s.skipping s.panel s.registers s.mem.now s.rom.now s.log.now s.limit s.answers.now s.skips.now c.valid.ensures c.valid-2.ensures c.if-not-valid.true (c.ended.ensures ∙ ap (untaken 0 s.registers) c.number.ensures)

pub returns-then-not-fits : goal.returns-then-not-fits
returns-then-not-fits c = let s = c.args in
    run-2 s.skipping s.panel s.registers s.mem.now s.rom.now s.log.now s.limit s.answers.now s.skips.now c.valid.ensures c.valid-2.ensures c.if-not-valid.false c.if-not-fits.true (c.ended-then-not-fits.ensures ∙ ap (untaken 0 s.registers) c.number-then-not-fits.ensures)

pub returns-then-log-ne0 : goal.returns-then-log-ne0
returns-then-log-ne0 c = let s = c.args in
    run-8 s.skipping s.panel s.registers s.mem.now s.rom.now s.log.now s.limit s.answers.now s.skips.now c.valid.ensures c.valid-2.ensures c.if-not-valid.false c.if-not-fits.false c.if-log-ne0.true (c.ended-then-log-ne0.ensures ∙ ap (untaken _ s.registers) c.number-then-log-ne0.ensures)

pub returns : goal.returns
returns c = let s = c.args in
    run-0 s.skipping s.panel s.registers s.mem.now s.rom.now s.log.now s.limit s.answers.now s.skips.now c.valid.ensures c.valid-2.ensures c.if-not-valid.false c.if-not-fits.false c.if-log-ne0.false c.min-total.ensures c.pairs.ensures
