-- `pairs` meets its contract: what is left from here always comes to the whole.
use borrow.Author.Tests.{eqb-true}
use native.Mathlib.Omega.{arith}
use mathlib.Core.Path.{refl, ◌∙◌}
use Rattle.ground.proofs.Tests.{both_left}
use Rattle.controller.specs.Ready.{standing}
use Rattle.controller.proofs.Blocks.{block-moves}
use Rattle.controller.proofs.Pairwise.{running, running-ends, going-runs, going_on, going-stops, turned-here, unlisted, going-block, going-kept, going-held, going-pushes, going-tells, going-draws, going-leaves, going-asks, going-ticks}
use Rattle.controller.proofs.Laws.{sounds}
use Rattle.controller.proofs.Readied.{runs-lengths}
use Rattle.controller.proofs.run.pairs.Goals.{then-kind+else-told+in_default+else-byte, else-kind}
use Rattle.controller.proofs.run.pairs.Goals as goal

pub loop-i-init : goal.loop-i-init
loop-i-init c = running c.args.panel c.args.skipping c.args.rom.now c.args.log.now c.args.total (standing c.args.registers c.args.mem.now c.args.answers.now 0) c.args.skips.now
    (sounds c.args.registers c.args.mem.now c.requires.runs.state (runs-lengths c.requires.runs).0)

pub loop-i-smaller-then-kind-is_write : goal.loop-i-smaller-then-kind-is_write
loop-i-smaller-then-kind-is_write c = let b = (c.block-end.ensures c.loop-i.invariant.goes_on.sound.sound.memory c.requires.total_in_bounds c.loop-i.invariant.goes_on.inside) in let h = block-moves b c.loop-i-test.true c.requires.total_in_bounds (eqb-true _ 0 (both_left _ c.is_write.result c.if-kind-is_write.true)) in omega (arith, b.inside, h)

pub loop-i-preserved-then-kind-is_write : goal.loop-i-preserved-then-kind-is_write
loop-i-preserved-then-kind-is_write c = going-block c.loop-i.invariant c.is_write.ensures c.if-kind-is_write.true (c.block-end.ensures c.loop-i.invariant.goes_on.sound.sound.memory c.requires.total_in_bounds c.loop-i.invariant.goes_on.inside) c.passed-bus.ensures

pub loop-i-preserved-then-kind-off : goal.loop-i-preserved-then-kind-off
loop-i-preserved-then-kind-off c = going-pushes c.loop-i.invariant c.loop-i-test.true c.requires.total_in_bounds c.is_off-off.ensures c.if-kind-off.true c.datum-bus.ensures

pub loop-i-preserved-then-told : goal.loop-i-preserved-then-told
loop-i-preserved-then-told c = going-tells c.loop-i.invariant c.loop-i-test.true c.requires.total_in_bounds c.is_off-off.ensures c.if-kind.true c.tell-told.ensures c.if-told.true

pub loop-i-preserved-in-Some : goal.loop-i-preserved-in-Some
loop-i-preserved-in-Some c = going-draws (going-kept c.loop-i.invariant (c.tell-told.ensures.keeps c.if-told.false)) c.loop-i-test.true c.requires.total_in_bounds c.is_off-off.ensures c.if-kind.true c.draw.ensures c.in-Some.is c.emptied-bus.ensures

pub loop-i-preserved-then-byte : goal.loop-i-preserved-then-byte
loop-i-preserved-then-byte c = going-leaves (going-kept c.loop-i.invariant (c.tell-told.ensures.keeps c.if-told.false)) c.loop-i-test.true c.requires.total_in_bounds c.if-kind.true c.if-byte.true c.freed-bus.ensures

pub loop-i-preserved-in-Some-ask : goal.loop-i-preserved-in-Some-ask
loop-i-preserved-in-Some-ask c = going-asks (going-kept c.loop-i.invariant (elim c.if-kind.branch [ then-kind+else-told+in_default+else-byte w ↦ w.mem-is ∙ w.tell-told.ensures.keeps w.if-told.false | else-kind w ↦ w.mem-is ])) c.loop-i-test.true c.requires.total_in_bounds c.ask.ensures c.in-Some-ask.is

pub loop-i-preserved-then-kind-2 : goal.loop-i-preserved-then-kind-2
loop-i-preserved-then-kind-2 c = going-ticks (going-held (going-kept c.loop-i.invariant (elim c.if-kind.branch [ then-kind+else-told+in_default+else-byte w ↦ w.mem-is ∙ w.tell-told.ensures.keeps w.if-told.false | else-kind w ↦ w.mem-is ])) c.ask.ensures c.in_default-ask.is) c.loop-i-test.true c.requires.total_in_bounds c.if-kind-2.true c.ticked-display.ensures

pub returns-then-number-ne0 : goal.returns-then-number-ne0
returns-then-number-ne0 c = let g = going-held (going-kept c.loop-i.invariant (elim c.if-kind.branch [ then-kind+else-told+in_default+else-byte w ↦ w.mem-is ∙ w.tell-told.ensures.keeps w.if-told.false | else-kind w ↦ w.mem-is ])) c.ask.ensures c.in_default-ask.is in
    let k = going-runs g _ _ refl c.requires.runs.panel (runs-lengths c.requires.runs).1 in
    let e = c.in-Err.ensures ∙ turned-here g c.loop-i-test.true c.requires.total_in_bounds k in
    going-stops g c.loop-i-test.true c.requires.total_in_bounds e c.number.ensures c.note-noted.ensures c.if-number-ne0.true c.ended.ensures

pub loop-i-preserved-in-Ok : goal.loop-i-preserved-in-Ok
loop-i-preserved-in-Ok c = let g = going-held (going-kept c.loop-i.invariant (elim c.if-kind.branch [ then-kind+else-told+in_default+else-byte w ↦ w.mem-is ∙ w.tell-told.ensures.keeps w.if-told.false | else-kind w ↦ w.mem-is ])) c.ask.ensures c.in_default-ask.is in
    let k = going-runs g _ _ refl c.requires.runs.panel (runs-lengths c.requires.runs).1 in
    let e = c.in-Ok.ensures ∙ turned-here g c.loop-i-test.true c.requires.total_in_bounds k in
    going_on g c.loop-i-test.true c.requires.total_in_bounds {x = record { listed = c.loop-i.listed; number = 0 }} e refl (unlisted c.args.skipping c.loop-i.i c.loop-i.listed c.loop-i.skips) refl

pub loop-i-preserved : goal.loop-i-preserved
loop-i-preserved c = let g = going-held (going-kept c.loop-i.invariant (elim c.if-kind.branch [ then-kind+else-told+in_default+else-byte w ↦ w.mem-is ∙ w.tell-told.ensures.keeps w.if-told.false | else-kind w ↦ w.mem-is ])) c.ask.ensures c.in_default-ask.is in
    let k = going-runs g _ _ refl c.requires.runs.panel (runs-lengths c.requires.runs).1 in
    let e = c.in-Err.ensures ∙ turned-here g c.loop-i-test.true c.requires.total_in_bounds k in
    going_on g c.loop-i-test.true c.requires.total_in_bounds e c.number.ensures c.note-noted.ensures c.if-number-ne0.false

pub returns : goal.returns
returns c = running-ends c.loop-i.invariant c.loop-i-test.false c.ended-2.ensures
