-- `may_swap` meets its contract: the screen checked, then its two operations found.
use Rattle.std.proofs.Common.{◌≡◌, Err, rules}
use Rattle.order.proofs.Seeks.{swap-refused, swap-body, swap-found}
use Rattle.order.proofs.swap.may_swap.Goals as goal

pub returns-in_err-body : goal.returns-in_err-body
returns-in_err-body c =
    let e : c.from_residual.result ≡ Err c.in_err-body.field-0.0 = search rules in
    rw e (swap-refused _ _ _ _ _ c.in_err-body.ensures)

pub find-requires : goal.find-requires
find-requires c = swap-body _ _ c.args.key c.args.i c.in_ok-body.ensures

pub returns : goal.returns
returns c = swap-found _ _ _ _ c.in_ok-body.ensures c.find.ensures
