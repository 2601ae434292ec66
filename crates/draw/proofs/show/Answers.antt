-- `show` meets its contract: the text stands in its room, so that much of it can be lent.
use mathlib.Core.Path.{sym}
use lib.Seq.{length-take-le}
use Rattle.draw.proofs.Drawings.{draw-within}
use Rattle.draw.proofs.show.Goals as goal

pub slice_bounds-out-end : goal.slice_bounds-out-end
slice_bounds-out-end c = draw-within _ _ _ _ c.draw_text-told.ensures

pub slice_bounds-write_all-end : goal.slice_bounds-write_all-end
slice_bounds-write_all-end c = sym (length-take-le _ _ (draw-within _ _ _ _ c.draw_text-told.ensures))
