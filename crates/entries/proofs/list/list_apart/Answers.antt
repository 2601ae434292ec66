-- `list_apart` meets its contract: place by place, an entry where they differ.
use Rattle.std.proofs.Common.{◌≡◌, ◌<◌, map, arith, length}
use Rattle.std.proofs.lemmas.List.{length-map}
use Rattle.entries.proofs.Listings.{lists-over, entry-room, lists-entry, listed-all, value-at}
use Rattle.entries.proofs.list.list_apart.Goals as goal
use Rattle.entries.proofs.list.list_apart.Goals.{then-x-y, else-x-y}

pub put_entry-requires : goal.put_entry-requires
put_entry-requires g c = let f = g.T.Number.value in
    let one = c.args.one.now in
    let two = c.args.two.now in
    entry-room c.loop-place.invariant (omega (arith, c.loop-place-test.true, length-map one f)) (omega (arith, c.requires.one_len, length-map one f, length-map two f))
    (value-at f one c.loop-place.place c.loop-place-test.true c.index-one-place.is c.value-x.ensures)
    (value-at f two c.loop-place.place (omega (arith, c.requires.one_len, c.loop-place-test.true)) c.index-two-place.is c.value-y.ensures)
    c.if-x-y.true

pub loop-place-preserved : goal.loop-place-preserved
loop-place-preserved g c = let f = g.T.Number.value in
    let one = c.args.one.now in
    let two = c.args.two.now in
    let h : c.loop-place.place < length (map f one) = omega (arith, c.loop-place-test.true, length-map one f) in
    let e : length (map f one) ≡ length (map f two) = omega (arith, c.requires.one_len, length-map one f, length-map two f) in
    let x = value-at f one c.loop-place.place c.loop-place-test.true c.index-one-place.is c.value-x.ensures in
    let y = value-at f two c.loop-place.place (omega (arith, c.requires.one_len, c.loop-place-test.true)) c.index-two-place.is c.value-y.ensures in
    elim c.if-x-y.branch [
      | then-x-y w ↦ rw (w.list-is, w.at-is) (lists-entry c.loop-place.invariant h e x y w.if-x-y.true w.put_entry.ensures)
      | else-x-y w ↦ rw (w.list-is, w.at-is) (lists-over c.loop-place.invariant h e x y w.if-x-y.false)
    ]

pub returns : goal.returns
returns g c = listed-all c.loop-place.invariant (omega (arith, c.loop-place-test.false, length-map c.args.one.now g.T.Number.value))
