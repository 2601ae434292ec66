-- `count_apart` meets its contract: place by place.
use Rattle.std.proofs.Common.{map}
use Rattle.entries.proofs.Listings.{Counting}
use Rattle.entries.proofs.list.count_apart.Given as goal

abbrev pub invariant-loop-i : goal.invariant-loop-i
invariant-loop-i g l = Counting (map g.T.Number.value l.one) (map g.T.Number.value l.two) l.count l.i
