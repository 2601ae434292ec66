-- `write_screen` meets its contract: what is given stands in its rooms, so that much of them can be lent.
use mathlib.Core.Path.{sym}
use lib.Seq.{length-take-le}
use Rattle.write.proofs.Writings.{output-within, error-within}
use Rattle.write.proofs.write_screen.Goals as goal

pub slice_bounds-out-end : goal.slice_bounds-out-end
slice_bounds-out-end c = output-within _ _ _ _ c.in-Ok.ensures

pub slice_bounds-write_all-end : goal.slice_bounds-write_all-end
slice_bounds-write_all-end c = sym (length-take-le _ _ (output-within _ _ _ _ c.in-Ok.ensures))

pub slice_bounds-error-end : goal.slice_bounds-error-end
slice_bounds-error-end c = error-within _ _ _ _ c.in-Err.ensures

pub slice_bounds-write_all-end-in-Err : goal.slice_bounds-write_all-end-in-Err
slice_bounds-write_all-end-in-Err c = sym (length-take-le _ _ (error-within _ _ _ _ c.in-Err.ensures))
