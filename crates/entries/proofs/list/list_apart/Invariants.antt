-- `list_apart` meets its contract: place by place, an entry where they differ.
use Rattle.std.proofs.Common.{map}
use Rattle.entries.proofs.Listings.{Listing}
use Rattle.entries.proofs.list.list_apart.Given as goal

abbrev pub invariant-loop-place : goal.invariant-loop-place
invariant-loop-place g l = Listing (map g.T.Number.value l.one) (map g.T.Number.value l.two) l.initial.list l.from l.list l.at l.place
