-- `row_layers` meets its contract: the tests at the door, then the layers.
use Rattle.std.proofs.lemmas.Result.{err_from_is_err_and}
use mathlib.Core.Path.{sym, ◌∙◌}
use lib.ListN.{length}
use Rattle.ground.proofs.Tests.{both_left, both_right}
use Rattle.display.proofs.Doors.{let-in}
use Rattle.display.proofs.Fonts.{is-font, text-by-font, shown-by-font}
use Rattle.display.proofs.Asked.{asked-0, asked-no, asked-drawable}
use Rattle.display.proofs.seen.row_layers.Goals as goal

pub invariant_of-scene : goal.invariant_of-scene
invariant_of-scene c = let a = c.args in
    let i = c.valid.ensures in
    let j = c.valid-2.ensures in
    let o = let-in _ _ c.in_ok-admit.ensures in
    let d = asked-drawable a.panel a.display a.mem.now a.rom.now a.row a.column a.text.now a.graphic.now a.shown.now i j o.0 o.1 in
    record { valid_panel = sym i ∙ both_left _ _ o.0; valid_display = sym j ∙ both_right c.valid.result _ o.0; memory = d.memory; bytes = λ k. (c.type_inv.mem k).fits; glyphs = is-font a.display a.mem.now a.rom.now c.font.ensures; shaded = c.tables-shades.ensures.shaded.made }

pub returns-clause-answer : goal.returns-clause-answer
returns-clause-answer c = let a = c.args in
    let i = c.valid.ensures in
    let j = c.valid-2.ensures in
    let o = let-in _ _ c.in_ok-admit.ensures in
    let l = c.lay in
    let f = c.font.ensures in
    asked-0 a.panel a.display a.mem.now a.rom.now a.row a.column a.text.now a.graphic.now a.shown.now i j o.0 o.1 {t = l.new.text} (text-by-font a.panel a.display a.mem.now a.rom.now a.row f a.column (length a.text.now) l.ensures.text_after) l.ensures.graphic_after (shown-by-font a.panel a.display a.mem.now a.rom.now a.row f a.column (length a.shown.now) l.ensures.shown_after)

pub returns-in_err-admit-clause-answer : goal.returns-in_err-admit-clause-answer
returns-in_err-admit-clause-answer c = let a = c.args in
    let p = err_from_is_err_and c.from_residual.result c.from_residual.ensures.1 in
    rw (p.1, p.2) (asked-no a.panel a.display a.mem.now a.rom.now a.row a.column a.text.now a.graphic.now a.shown.now c.valid.ensures c.valid-2.ensures _ c.in_err-admit.ensures)
