-- A faulty operation is refused with its first byte.
use mathlib.Core.Path.{◌≡◌}
use Rattle.layout.proofs.reading.fn.read_body.map_err.Given as goal

abbrev pub ensures : goal.ensures
ensures l r = r ≡ record { refusal = l.refusal; place = l.at }
