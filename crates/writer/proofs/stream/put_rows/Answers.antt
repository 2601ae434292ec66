-- `put_rows` meets its contract: one block for each row.
use Prim.Native.Nat.{◌+◌, ◌*◌}
use Rattle.writer.specs.Stream.{graphic_home}
use Rattle.writer.proofs.Lengths.{run_length}
use Rattle.writer.proofs.Loops.{looping, loop-room, loop-on, loop-over, rows_left, rows_next, rows_none, rows_all}
use Rattle.state.proofs.Sizes.{graphic-few}
use Rattle.book.proofs.Places.{row-place}
use native.Mathlib.Omega.{arith}
use Rattle.writer.proofs.stream.put_rows.Goals as goal

pub run-requires : goal.run-requires
run-requires c = loop-room c.loop-i.invariant (omega arith) c.requires.fits

pub loop-i-preserved : goal.loop-i-preserved
loop-i-preserved c = let a = c.args in
    let i = c.loop-i.i in
    loop-on c.loop-i.invariant (rows_next a.panel a.top a.column a.height a.width a.value i (omega arith)) (run_length (graphic_home + ((a.top + i) * a.panel.columns + a.column)) a.width a.value) c.run.ensures

pub returns : goal.returns
returns c = let a = c.args in loop-over c.loop-i.invariant (omega arith) (rows_none a.panel a.top a.column a.height a.width a.value) (rows_all a.panel a.top a.column a.height a.width a.value)
