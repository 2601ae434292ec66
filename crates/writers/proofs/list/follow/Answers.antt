-- `follow` meets its contract: what is left from here always comes to the whole.
use Rattle.std.proofs.Common.{refl, arith}
use Rattle.controller.proofs.Blocks.{nearly}
use Rattle.usual.proofs.Tells.{draws-some}
use Rattle.writers.proofs.Follows.{followed, memory-long, data-goes, followed-data, follows-push, follows-idle, followed-said, left-as, follows-draw, follows-leave, follows-read, follows-tick, followed-through, ends}
use Rattle.writers.proofs.list.follow.Goals as goal

pub loop-i-init : goal.loop-i-init
loop-i-init c = followed c.args.panel c.args.rom.now c.args.log.now _ c.args.notes.now (record { display = c.args.display; bus = c.args.bus }) c.args.memory.now c.requires.runs c.requires.none (omega (arith, c.well_formed))

pub loop-i-smaller-then-kind-is_write : goal.loop-i-smaller-then-kind-is_write
loop-i-smaller-then-kind-is_write c = let b = (c.lay-laid.ensures.lays (memory-long c.loop-i.invariant.following) (omega arith) (nearly c.loop-i-test.true)) in let h = data-goes b c.is_write.result c.if-kind-is_write.true (omega (arith, c.loop-i-test.true)) in omega (arith, h, b.blocks.few, c.loop-i-test.true)

pub loop-i-preserved-then-kind-is_write : goal.loop-i-preserved-then-kind-is_write
loop-i-preserved-then-kind-is_write c = followed-data c.loop-i.invariant (omega arith) c.is_write.ensures c.if-kind-is_write.true (omega (arith, c.loop-i-test.true)) (c.lay-laid.ensures.lays (memory-long c.loop-i.invariant.following) (omega arith) (nearly c.loop-i-test.true)) c.lay-laid.ensures.stays c.passed-bus.ensures

pub loop-i-preserved-then-kind-off : goal.loop-i-preserved-then-kind-off
loop-i-preserved-then-kind-off c = let g = c.loop-i.invariant in record { following = follows-push g.following c.loop-i-test.true (omega arith) c.is_off-off.ensures c.if-kind-off.true c.datum-bus.ensures; stays = g.stays }

pub loop-i-preserved-then-kind-off-2 : goal.loop-i-preserved-then-kind-off-2
loop-i-preserved-then-kind-off-2 c = let g = c.loop-i.invariant in record { following = follows-idle g.following c.loop-i-test.true (omega arith) c.is_off-off.ensures c.if-kind-off-2.true; stays = g.stays }

pub loop-i-preserved-in-Some : goal.loop-i-preserved-in-Some
loop-i-preserved-in-Some c = followed-said c.loop-i.invariant c.loop-i-test.true (omega arith) c.is_off-off.ensures c.in-Some.is c.say.ensures.says c.say.ensures.stays

pub loop-i-preserved-in-Some-draw : goal.loop-i-preserved-in-Some-draw
loop-i-preserved-in-Some-draw c = let g = left-as c.loop-i.invariant c.in_default.is c.say.ensures.says c.say.ensures.left c.say.ensures.stays in
    record { following = follows-draw g.following c.loop-i-test.true (omega arith) c.is_off-off.ensures (draws-some c.draw.ensures c.in-Some-draw.is) refl c.emptied-bus.ensures; stays = g.stays }

pub loop-i-preserved-then-kind-byte : goal.loop-i-preserved-then-kind-byte
loop-i-preserved-then-kind-byte c = let g = left-as c.loop-i.invariant c.in_default.is c.say.ensures.says c.say.ensures.left c.say.ensures.stays in
    record { following = follows-leave g.following c.loop-i-test.true (omega arith) c.if-kind-byte.true c.freed-bus.ensures; stays = g.stays }

pub loop-i-preserved-then-kind-is_read : goal.loop-i-preserved-then-kind-is_read
loop-i-preserved-then-kind-is_read c = let g = left-as c.loop-i.invariant c.in_default.is c.say.ensures.says c.say.ensures.left c.say.ensures.stays in
    record { following = follows-read g.following c.loop-i-test.true (omega arith) c.is_read.ensures c.if-kind-is_read.true refl; stays = g.stays }

pub loop-i-preserved-then-kind : goal.loop-i-preserved-then-kind
loop-i-preserved-then-kind c = let g = left-as c.loop-i.invariant c.in_default.is c.say.ensures.says c.say.ensures.left c.say.ensures.stays in
    record { following = follows-tick g.following c.loop-i-test.true (omega arith) c.if-kind.true c.ticked-display.ensures; stays = g.stays }

pub loop-i-preserved : goal.loop-i-preserved
loop-i-preserved c = followed-through (left-as c.loop-i.invariant c.in_default.is c.say.ensures.says c.say.ensures.left c.say.ensures.stays) c.loop-i-test.true (omega arith) c.through-next.ensures.behind c.through-next.ensures.stays

pub returns-clause-listed : goal.returns-clause-listed
returns-clause-listed c = ends c.loop-i.invariant.following c.loop-i-test.false (omega arith) c.ended.ensures
