-- `show` meets its contract: the text stands in its room, so that much of it can be lent.
use mathlib.Core.Path.{sym}
use lib.Seq.{length-take-le}
use Rattle.rehearse.proofs.Rehearsings.{rehearse-within}
use Rattle.rehearse.proofs.show.Goals as goal

pub slice_bounds-out-end : goal.slice_bounds-out-end
slice_bounds-out-end c = rehearse-within _ _ _ _ c.rehearse_text-told.ensures

pub slice_bounds-write_all-end : goal.slice_bounds-write_all-end
slice_bounds-write_all-end c = sym (length-take-le _ _ (rehearse-within _ _ _ _ c.rehearse_text-told.ensures))
