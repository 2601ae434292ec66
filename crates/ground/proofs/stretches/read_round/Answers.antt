-- `read_round` meets its contract: byte by byte, the address going on, or nothing.
use Rattle.std.proofs.Common.{ℕ, ◌%◌, ◌^◌, get_or, sym, refl, ap, ◌∙◌, arith}
use Rattle.ground.proofs.Filling.{at-end}
use Rattle.ground.proofs.Passes.{passes-from, passes_on, round-read, round-unread}
use Rattle.ground.proofs.stretches.read_round.Goals as goal

pub loop-byte-init : goal.loop-byte-init
loop-byte-init c = passes-from _ _ _ (omega arith)

pub loop-byte-preserved : goal.loop-byte-preserved
loop-byte-preserved c = let a = c.args in
    let w = c.loop-byte.invariant in
    passes_on _ _ _ w c.loop-byte-test.true (c.low.ensures ∙ ap (λ (m : ℕ). get_or a.mem.now m 0 % 2 ^ a.width) w.place) refl

pub returns-after-loop-byte : goal.returns-after-loop-byte
returns-after-loop-byte c = at-end _ _ c.loop-byte.invariant.filled _ refl c.loop-byte-test.false ∙ sym (round-read _ _ _ _ c.if-mem-eq65536.true)

pub returns-else-mem-eq65536 : goal.returns-else-mem-eq65536
returns-else-mem-eq65536 c = sym (round-unread _ _ _ _ c.if-mem-eq65536.false)
