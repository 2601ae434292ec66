-- `count_apart` meets its contract: place by place.
use Rattle.std.proofs.Common.{arith}
use Rattle.std.proofs.lemmas.List.{length-map}
use Rattle.entries.proofs.Listings.{counts_on, counted-all, value-at}
use Rattle.entries.proofs.list.count_apart.Goals as goal

pub loop-i-preserved : goal.loop-i-preserved
loop-i-preserved g c = let f = g.T.Number.value in
    let one = c.args.one.now in
    let two = c.args.two.now in
    counts_on c.loop-i.invariant (omega (arith, c.loop-i-test.true, length-map one f)) (omega (arith, c.requires, length-map one f, length-map two f))
    (value-at f one c.loop-i.i c.loop-i-test.true c.index-one-i.is c.value.ensures)
    (value-at f two c.loop-i.i (omega (arith, c.requires, c.loop-i-test.true)) c.index-two-i.is c.value-in-loop-i.ensures)
    c.differ-count.ensures.value

pub returns : goal.returns
returns g c = counted-all c.loop-i.invariant (omega (arith, c.loop-i-test.false, length-map c.args.one.now g.T.Number.value))
