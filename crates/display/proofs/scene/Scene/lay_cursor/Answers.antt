-- `lay_cursor` meets its contract: one cell, or none.
use mathlib.Core.Path.{◌∙◌}
use Rattle.ground.proofs.Lows.{full-low}
use Rattle.state.proofs.Valid.{panelled}
use Rattle.display.proofs.Passes.{laid, unlaid}
use Rattle.display.proofs.scene.Scene.lay_cursor.Goals as goal

pub returns-then-lit-covers : goal.returns-then-lit-covers
returns-then-lit-covers c = λ mem rom h. laid _ _ mem rom _ c.cursor_lit-lit.ensures c.cursor_covers-covers.ensures c.if-lit-covers.true h (c.full.ensures ∙ full-low _ (panelled c.args.self.now.panel c.args.self.now.valid_panel).width)

pub returns-else-lit-covers : goal.returns-else-lit-covers
returns-else-lit-covers c = λ mem rom h. unlaid _ _ mem rom _ c.cursor_lit-lit.ensures c.cursor_covers-covers.ensures c.if-lit-covers.false h
