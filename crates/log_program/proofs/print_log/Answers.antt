-- `print_log` meets its contract: the text stands in its room, so that much of it can be lent.
use mathlib.Core.Path.{sym}
use lib.Seq.{length-take-le}
use Rattle.log_program.proofs.Prints.{print-within}
use Rattle.log_program.proofs.print_log.Goals as goal

pub slice_bounds-out-end : goal.slice_bounds-out-end
slice_bounds-out-end c = print-within _ _ c.print-told.ensures

pub slice_bounds-write_all-end : goal.slice_bounds-write_all-end
slice_bounds-write_all-end c = sym (length-take-le _ _ (print-within _ _ c.print-told.ensures))
