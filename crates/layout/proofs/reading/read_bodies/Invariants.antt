-- `read_bodies` meets its contract: what is left of the bodies, behind the first screen that uses AND, is read as the whole.
use lib.ListN.{drop}
use Rattle.contents.specs.Replies.{bodies}
use Rattle.layout.proofs.Uses.{BodiesReading}
use Rattle.layout.proofs.reading.read_bodies.Given as goal

abbrev pub invariant-loop-screen : goal.invariant-loop-screen
invariant-loop-screen l = BodiesReading l.panel l.book (bodies l.spans) l.screen (bodies (drop l.screen l.spans)) l.first
