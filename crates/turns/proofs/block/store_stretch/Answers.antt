-- `store_stretch` meets its contract: byte after byte.
use Rattle.std.proofs.Common.{◌+◌, ◌-◌, refl, sym, ◌∙◌, arith, drop, length-drop}
use lib.Seq.{length-take-le}
use Rattle.ground.proofs.Filling.{none_yet, one_more, at-end}
use Rattle.ground.proofs.Mids.{mid-sets}
use Rattle.ground.proofs.Stores.{stored-sets}
use Rattle.turns.specs.Blocked.{bytes_from}
use Rattle.turns.proofs.Blocks.{bytes-length}
use Rattle.turns.proofs.block.store_stretch.Goals as goal

pub loop-j-init : goal.loop-j-init
loop-j-init c = none_yet _ _

pub loop-j-preserved : goal.loop-j-preserved
loop-j-preserved c = one_more _ _ c.loop-j.invariant c.loop-j-test.true refl

pub returns : goal.returns
returns c = let a = c.args in
    let m = c.requires.mem_len in
    let bytes = bytes_from a.log.now a.from a.n in
    let long = bytes-length a.log.now a.from a.n in
    let part = length-take-le (a.at + a.n - a.at) (drop a.at a.mem.now) (omega (arith, m, length-drop a.at a.mem.now)) in
    mid-sets a.at a.n a.mem.now bytes (at-end _ _ c.loop-j.invariant a.n (omega (arith, part)) c.loop-j-test.false) long (omega (arith, m))
    ∙ sym (stored-sets bytes a.mem.now a.at (omega (arith, m, long)))
