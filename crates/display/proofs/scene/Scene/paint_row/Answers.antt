-- `paint_row` meets its contract: the layers laid, the cursor over them, then packed.
use Prim.Native.Nat.{ℕ}
use Rattle.state.proofs.Valid.{panelled}
use Rattle.display.specs.Displayed.{displayed_byte, cell_byte}
use Rattle.display.specs.Frame.{row_of}
use Rattle.display.proofs.Passes.{whole_row, packed-row}
use Rattle.display.proofs.scene.Scene.paint_row.Goals as goal

pub returns : goal.returns
unfolding row_of
returns c = let a = c.args in
    let s = a.self.now in
    let p = panelled s.panel s.valid_panel in
    let shown : ℕ → ℕ = displayed_byte s.panel s.display s.mem.now s.font.now a.row in
    let row = c.lay_cursor.ensures s.mem.now s.font.now (whole_row shown _ c.requires.cells_len c.lay.ensures.shown_after) in
    packed-row s.panel.columns s.panel.width (cell_byte s.panel s.display s.mem.now s.font.now a.row) _ _ _ row p.width p.columns c.requires.out_len c.pack.ensures
