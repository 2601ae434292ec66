-- `lay_alike` meets its contract: in the stretch without room, and outside it.
use Rattle.std.proofs.Common.{◌+◌, ◌*◌, ◌≤◌, length, refl, arith}
use Rattle.noting.proofs.Notes.{saturated}
use Rattle.noting.proofs.Laying.{puts-taken, lays-counted, lays-passed}
use Rattle.noting.proofs.block.lay_alike.Goals as goal

pub returns-then-inside-clause-lays : goal.returns-then-inside-clause-lays
returns-then-inside-clause-lays c = let near = c.min-near in
    let h : 2 * (c.args.from + near.result) ≤ length c.args.log.now = omega (arith, near.ensures, c.requires.left_in_bounds) in
    let b = puts-taken near.result h (c.block.ensures c.requires.mem_len h (omega arith)) in
    lays-counted c.args.left near.result c.holds-inside.ensures c.span.ensures near.ensures refl (omega arith) c.if-inside-notes.false c.if-inside.true b (saturated _ c.saturating_add-notes.ensures)

pub returns-else-inside-clause-lays : goal.returns-else-inside-clause-lays
returns-else-inside-clause-lays c = let near = c.min-near in
    let h : 2 * (c.args.from + near.result) ≤ length c.args.log.now = omega (arith, near.ensures, c.requires.left_in_bounds) in
    let b = puts-taken near.result h (c.block.ensures c.requires.mem_len h (omega arith)) in
    lays-passed c.args.left near.result c.holds-inside.ensures c.span.ensures near.ensures c.if-inside.false b
