-- The lines so far, one more at each turn.
use Prim.Native.Nat.{◌*◌}
use Rattle.ground.specs.Lists.{joined}
use Rattle.printed.specs.Text.{hex_line_at}
use Rattle.printed.proofs.Puts.{Putting}
use Rattle.printed.proofs.put.Text.hex_lines.Given as goal

abbrev pub invariant-loop-byte : goal.invariant-loop-byte
invariant-loop-byte l = Putting l.fn.self (joined l.byte-index (hex_line_at l.answers)) (3 * l.byte-index) l.self
