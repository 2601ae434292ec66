-- `lay` meets its contract: the text, given out, the graphic, given out, and both mixed.
use mathlib.Core.Path.{refl}
use Prim.Native.Nat.{ℕ, ◌+◌}
use lib.ListN.{length}
use Rattle.display.specs.Displayed.{text_dots, displayed_byte}
use Rattle.display.proofs.Passes.{own-count, same_count, front_of}
use Rattle.display.proofs.scene.Scene.lay.Goals as goal

pub returns : goal.returns
returns c = let a = c.args in
    let s = a.self.now in
    let text : ℕ → ℕ = λ j. text_dots s.panel s.display s.mem.now s.font.now a.row (a.column + j) in
    let shown : ℕ → ℕ = λ j. displayed_byte s.panel s.display s.mem.now s.font.now a.row (a.column + j) in
    record { text_after = front_of text (length a.shown.now) _ a.text.now c.lay_text.ensures c.requires.text_in_bounds c.give.ensures; graphic_after = c.give_graphic.ensures; shown_after = same_count text shown a.shown.now c.lay_text.new.cells refl c.lay_text.ensures (c.lay_graphic.ensures s.font.now (own-count text (length a.shown.now) c.lay_text.ensures)) }
