-- `turn` meets its contract: data read in auto write, refused without an access.
use Rattle.std.proofs.Common.{sym, ap, ◌∙◌, eqb-true}
use Rattle.ground.proofs.Tests.{both_left, both_right}
use Rattle.controller.specs.Access.{Step}
use Rattle.controller.specs.Run.{turn_of}
use Rattle.flags.specs.Flags.{Flagged}
use Rattle.watch.specs.Runs.{standing_flags}
use Rattle.watch.proofs.Turning.{read-against}
use Rattle.watch.proofs.run.turn.Goals as goal

pub returns-then-kind-is_write-clause-step : goal.returns-then-kind-is_write-clause-step
returns-then-kind-is_write-clause-step c = let a = c.args in
    ap (λ (o : Step Flagged). turn_of (standing_flags a.registers a.memory.now a.flags.now a.answers.now a.given) o)
    (sym (read-against a.byte c.requires (eqb-true _ _ (both_left _ _ c.if-kind-is_write.true)) (sym c.is_write.ensures ∙ both_right _ _ c.if-kind-is_write.true)))
