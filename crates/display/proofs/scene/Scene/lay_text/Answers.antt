-- `lay_text` meets its contract: none, glyphs under attributes, or glyphs.
use mathlib.Core.Path.{◌≡◌, sym, ◌∙◌}
use mathlib.Core.Bool.{true}
use lib.ListN.{length}
use Rattle.ground.proofs.Tests.{both_left}
use Rattle.state.specs.Combination.{is_attribute}
use Rattle.state.proofs.Valid.{panelled}
use Rattle.display.proofs.Passes.{attributes-laid, blank-text, shown-text, plain-text}
use Rattle.display.proofs.scene.Scene.lay_text.Goals as goal

pub returns-then-not-display : goal.returns-then-not-display
returns-then-not-display c = blank-text _ _ _ _ _ _ _ c.if-not-display.true c.clear.ensures

pub returns-then-is_attribute-display : goal.returns-then-is_attribute-display
returns-then-is_attribute-display c = let a = c.args in
    let s = a.self.now in
    let e : is_attribute s.display.combination ≡ true = sym c.is_attribute.ensures ∙ both_left _ s.display.bits.graphic c.if-is_attribute-display.true in
    shown-text s.panel s.display s.mem.now s.font.now a.row a.column (length a.cells.now) c.if-not-display.false c.is_attribute.ensures c.if-is_attribute-display.true (attributes-laid s.panel s.display s.mem.now s.font.now a.row a.column a.cells.now _ s.shades.now (panelled s.panel s.valid_panel).width (s.shaded e) c.address-at.ensures c.lay_glyphs.ensures s.memory c.shade.ensures)

pub returns-else-is_attribute-display : goal.returns-else-is_attribute-display
returns-else-is_attribute-display c = plain-text _ _ _ _ _ _ _ c.if-not-display.false c.is_attribute.ensures c.if-is_attribute-display.false c.lay_glyphs.ensures
