-- `look_up` meets its contract: code by code, over those that stand there, or nothing.
use Rattle.std.proofs.Common.{ℕ, ◌+◌, ◌*◌, ◌%◌, ◌^◌, get_or, sym, refl, ap, ◌∙◌}
use Rattle.ground.proofs.Filling.{none_yet, one_more, at-end, unwritten}
use Rattle.ground.proofs.Passes.{code-found, code-left}
use Rattle.ground.proofs.stretches.look_up.Goals as goal

pub loop-code-init : goal.loop-code-init
loop-code-init c = none_yet _ _

pub loop-code-preserved : goal.loop-code-preserved
loop-code-preserved c = let a = c.args in
    let w = c.loop-code.invariant in
    one_more _ _ w c.loop-code-test.true (c.low.ensures ∙ ap (λ (n : ℕ). get_or a.table.now (8 * n + a.v) 0 % 2 ^ a.width) (unwritten _ _ w))

pub returns-after-loop-code : goal.returns-after-loop-code
returns-after-loop-code c = at-end _ _ c.loop-code.invariant _ refl c.loop-code-test.false ∙ sym (code-found _ _ _ _ refl c.if-table-v.true)

pub returns-else-table-v : goal.returns-else-table-v
returns-else-table-v c = sym (code-left _ _ _ _ refl c.if-table-v.false)
