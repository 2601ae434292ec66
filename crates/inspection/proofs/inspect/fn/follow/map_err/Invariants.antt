-- A refused pair is told with its place.
use mathlib.Core.Path.{◌≡◌}
use Rattle.inspection.proofs.inspect.fn.follow.map_err.Given as goal

abbrev pub ensures : goal.ensures
ensures l r = r ≡ record { refusal = l.refusal; place = l.i }
