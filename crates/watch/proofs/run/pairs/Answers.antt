-- `pairs` meets its contract: what is left from each pair on comes to the whole.
use Rattle.std.proofs.Common.{arith, eqb-true}
use Rattle.std.proofs.Common.{ap}
use Rattle.effects.specs.Effect.{with_bus}
use Rattle.ground.proofs.Tests.{both_left}
use Rattle.controller.proofs.Laws.{sounds}
use Rattle.controller.proofs.Blocks.{block-moves}
use Rattle.flags.proofs.Follows.{whole-memory}
use Rattle.watch.proofs.Turning.{flagging, flagging-ends, flagging-taken, flagging-listed, flagging-stops, flagging-quick, flagging-block, may-follow}
use Rattle.watch.proofs.run.pairs.Goals as goal
use Rattle.watch.proofs.run.pairs.Goals.{in-Ok, in-Err+else-number-ne0}

pub loop-i-init : goal.loop-i-init
loop-i-init c = let s = c.args in
    flagging s.panel s.rom.now s.log.now s.total s.registers s.memory.now s.flags.now s.answers.now s.skips.now (sounds s.registers s.memory.now c.requires.following.state (whole-memory s.panel s.registers s.memory.now s.rom.now s.flags.now (record { kind = 0; byte = 0 }) c.requires.following)) c.requires.following.rows

pub loop-i-smaller-then-kind-is_write : goal.loop-i-smaller-then-kind-is_write
loop-i-smaller-then-kind-is_write c = let on = block-moves c.stretch-end.ensures.blocked c.loop-i-test.true c.requires.total_in_bounds (eqb-true _ 0 (both_left _ _ c.if-kind-is_write.true)) in
    omega (arith, on, c.loop-i-test.true)

pub loop-i-preserved-then-kind-is_write : goal.loop-i-preserved-then-kind-is_write
loop-i-preserved-then-kind-is_write c =
    flagging-block c.loop-i.invariant c.is_write.ensures c.if-kind-is_write.true (may-follow c.loop-i.invariant c.requires.following) c.stretch-end.ensures (ap (with_bus c.loop-i.state) c.passed-state.ensures)

pub loop-i-preserved-in-Some : goal.loop-i-preserved-in-Some
loop-i-preserved-in-Some c = flagging-quick c.loop-i.invariant c.loop-i-test.true c.requires.total_in_bounds c.in-Some.ensures

pub returns-then-number-ne0 : goal.returns-then-number-ne0
returns-then-number-ne0 c =
    flagging-stops c.loop-i.invariant (may-follow c.loop-i.invariant c.requires.following) c.loop-i-test.true c.requires.total_in_bounds c.in-Err.ensures.step c.in-Err.ensures.err c.number.ensures c.note-noted.ensures c.if-number-ne0.true c.ended.ensures

pub loop-i-preserved : goal.loop-i-preserved
loop-i-preserved c =
    let may = may-follow c.loop-i.invariant c.requires.following in
    elim c.match-turn.branch [
      | in-Ok w ↦ rw (w.skips-is, w.state-is, w.given-is, w.listed-is) (flagging-taken c.loop-i.invariant may c.loop-i-test.true c.requires.total_in_bounds w.in-Ok.ensures.step)
      | in-Err+else-number-ne0 w ↦ rw (w.skips-is, w.state-is, w.given-is, w.listed-is)
          (flagging-listed c.loop-i.invariant may c.loop-i-test.true c.requires.total_in_bounds w.in-Err.ensures.step w.in-Err.ensures.err w.number.ensures w.note-noted.ensures w.if-number-ne0.false)
    ]

pub returns : goal.returns
returns c = flagging-ends c.loop-i.invariant c.loop-i-test.false c.ended-2.ensures
