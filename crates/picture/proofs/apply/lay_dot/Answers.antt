-- `lay_dot` meets its contract: one bit of one byte.
use Rattle.std.proofs.Common.{arith}
use Rattle.book.proofs.Places.{dot-place}
use Rattle.picture.proofs.apply.lay_dot.Goals as goal

pub bounds-graphic-at : goal.bounds-graphic-at
bounds-graphic-at c = omega (arith, dot-place c.args.panel c.requires.valid c.requires.range, c.requires.sized)

pub bounds-graphic-at-2 : goal.bounds-graphic-at-2
bounds-graphic-at-2 c = omega (arith, dot-place c.args.panel c.requires.valid c.requires.range, c.requires.sized)
