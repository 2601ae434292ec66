-- `run_all` meets its contract: an odd log is refused whole, any other is played part by part.
use mathlib.Core.Path.{◌≡◌}
use lib.ListN.{length}
use Rattle.std.specs.Slice.Iter.{chunks_rest, chunks_size}
use Rattle.whole.proofs.Wholes.{Playing}
use Rattle.whole.proofs.all.run_all.Given as goal

abbrev pub invariant-loop-part : goal.invariant-loop-part
invariant-loop-part l = Playing l.panel l.rom l.log l.initial.ran l.initial.mem l.ran l.mem (chunks_rest l.part-iterator) × (length l.mem ≡ length l.initial.mem) × (chunks_size l.part-iterator ≡ 8192)
