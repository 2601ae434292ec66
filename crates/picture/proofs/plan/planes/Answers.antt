-- `planes` meets its contract: the screen checked, then its operations laid over three cleared planes.
use Rattle.std.proofs.Common.{◌≡◌, Err, sym, ◌∙◌, rules}
use Rattle.picture.proofs.Bodies.{blank-is, screen-applied}
use Rattle.picture.proofs.Plannings.{plan-refused, plan-body, plan-0}
use Rattle.picture.proofs.plan.planes.Goals as goal

pub returns-in_err-body-clause-planned : goal.returns-in_err-body-clause-planned
returns-in_err-body-clause-planned c =
    let e : c.from_residual.result ≡ Err c.in_err-body.field-0.0 = search rules in
    rw e (plan-refused _ _ _ (sym c.valid.ensures ∙ c.if-not-valid.false) _ _ _ c.if-not-fits.false _ c.in_err-body.ensures)

pub apply_all-requires : goal.apply_all-requires
apply_all-requires c = plan-body _ _ _ (sym c.valid.ensures ∙ c.if-not-valid.false) c.in_ok-body.ensures

pub returns-clause-planned : goal.returns-clause-planned
returns-clause-planned c =
    plan-0 _ _ _ (sym c.valid.ensures ∙ c.if-not-valid.false) _ _ _ c.if-not-fits.false c.in_ok-body.ensures _
    (screen-applied _ _ _ (search rules) (search rules) (search rules) c.apply_all.ensures.made (blank-is _ (search rules) c.clear.ensures c.clear-2.ensures c.clear-3.ensures))
