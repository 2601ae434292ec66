-- `shades` meets its contract: code by code, twice, the table read once.
use Rattle.std.proofs.Common.{◌%◌, refl, ◌∙◌, arith, length-set}
use Rattle.ground.proofs.Filling.{none_yet, as_long, one_more}
use Rattle.state.proofs.Tables.{in_table, by-table}
use Rattle.state.proofs.attribute.shades.Goals as goal

pub loop-n-init : goal.loop-n-init
loop-n-init c = (refl, none_yet _ _)

pub loop-n-preserved : goal.loop-n-preserved
loop-n-preserved c = let k = c.loop-n in
    let t = c.loop-n-test.true in
    let n = k.n in
    (length-set k.shade-items n _ ∙ k.invariant.0, one_more _ _ k.invariant.1 (omega (arith, as_long _ _ k.invariant.1, k.invariant.0)) (by-table _ _ n _ (in_table (n % 16) _ c.looks-table.ensures (omega arith)) c.look_shows.ensures c.all_or_none.ensures))
