-- `entries` meets its contract: what is left of the entries is taken as the whole.
use mathlib.Core.Path.{◌≡◌}
use lib.ListN.{length, take}
use Rattle.contents.proofs.Opening.{Opening}
use Rattle.contents.proofs.open.entries.Given as goal

abbrev pub invariant-loop-i : goal.invariant-loop-i
invariant-loop-i l = (length l.span-items ≡ l.n) × Opening l.two l.book l.n (take l.i l.span-items) l.at l.start l.least l.i
