-- `write_short` meets its contract: the pairs counted first, then put.
use mathlib.Core.Path.{refl}
use Rattle.std.proofs.Common.{rules}
use native.Mathlib.Omega.{arith}
use Rattle.difference.proofs.Shorts.{changes-few, total-few, short-12, short-roomy, short-0}
use Rattle.difference.proofs.changes.write_short.Goals as goal

pub overflow_add-pairs : goal.overflow_add-pairs
overflow_add-pairs c = omega (arith, changes-few c.requires c.count_changes-dots.ensures c.count_changes-letters.ensures c.count_changes-shapes.ensures)

pub overflow_add-pairs-2 : goal.overflow_add-pairs-2
overflow_add-pairs-2 c = omega (arith, changes-few c.requires c.count_changes-dots.ensures c.count_changes-letters.ensures c.count_changes-shapes.ensures)

pub overflow_mul-pairs : goal.overflow_mul-pairs
overflow_mul-pairs c = omega (arith, changes-few c.requires c.count_changes-dots.ensures c.count_changes-letters.ensures c.count_changes-shapes.ensures)

pub overflow_add-pairs-3 : goal.overflow_add-pairs-3
overflow_add-pairs-3 c = omega (arith, total-few c.requires c.count_changes-dots.ensures c.count_changes-letters.ensures c.count_changes-shapes.ensures c.end_count.ensures)

pub overflow_mul-pairs-2 : goal.overflow_mul-pairs-2
overflow_mul-pairs-2 c = omega (arith, total-few c.requires c.count_changes-dots.ensures c.count_changes-letters.ensures c.count_changes-shapes.ensures c.end_count.ensures)

pub returns-then-room-pairs-clause-value : goal.returns-then-room-pairs-clause-value
returns-then-room-pairs-clause-value c = short-12 c.requires c.count_changes-dots.ensures c.count_changes-letters.ensures c.count_changes-shapes.ensures c.end_count.ensures c.args.room.now c.if-room-pairs.true

pub put_short-requires : goal.put_short-requires
put_short-requires c = short-roomy c.requires c.count_changes-dots.ensures c.count_changes-letters.ensures c.count_changes-shapes.ensures c.end_count.ensures c.args.room.now c.if-room-pairs.false refl refl

pub returns-clause-value : goal.returns-clause-value
returns-clause-value c = short-0 c.requires c.count_changes-dots.ensures c.count_changes-letters.ensures c.count_changes-shapes.ensures c.end_count.ensures c.args.room.now c.if-room-pairs.false refl refl c.put_short.ensures (search rules)
