-- `locate` meets its contract: the first position of a valid panel, none of another.
use Rattle.std.proofs.Common.{sym, ◌∙◌}
use Rattle.state.proofs.Valid.{panelled}
use Rattle.sight.proofs.Positions.{located-on, located-off}
use Rattle.sight.proofs.position.locate.Goals as goal

pub returns : goal.returns
returns c = let a = c.args in
    located-off a.panel a.graphic a.pointer (sym c.valid.ensures ∙ c.if-valid.false)
