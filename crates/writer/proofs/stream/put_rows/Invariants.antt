-- `put_rows` meets its contract: one block for each row.
use Prim.Native.Nat.{◌+◌}
use Rattle.writer.proofs.Loops.{Looping, rows_left}
use Rattle.writer.proofs.stream.put_rows.Given as goal

abbrev pub invariant-loop-i : goal.invariant-loop-i
invariant-loop-i l = Looping l.fn.stream l.height (l.width + 5) (rows_left l.panel l.top l.column l.height l.width l.value) l.stream l.i
