-- `paint` meets its contract: each row comes back in its own stretch.
use Rattle.std.proofs.Common.{ℕ, ◌*◌, ◌∙◌, sym, ap}
use Rattle.ground.proofs.Packing.{row-length}
use Rattle.ground.proofs.Rows.{started, stretch, back}
use Rattle.state.proofs.Sizes.{is-size}
use Rattle.painter.proofs.scene.Scene.paint.Goals as goal

pub loop-row-init : goal.loop-row-init
loop-row-init c = let s = c.args.self.now in
    let b = is-size s.panel s.valid c.row_size-bytes.ensures in
    started (c.requires ∙ ap (λ (n : ℕ). 8 * s.panel.lines * n) (sym b)) (λ r. row-length _ _ _ ∙ sym b)

pub slice_bounds-paint_row-end : goal.slice_bounds-paint_row-end
slice_bounds-paint_row-end c = stretch c.loop-row.invariant c.loop-row-test.true

pub loop-row-preserved : goal.loop-row-preserved
loop-row-preserved c = back c.loop-row.invariant c.paint_row.ensures c.loop-row-test.true
