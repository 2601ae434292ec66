-- `through` meets its contract: accepted, or refused.
use Rattle.std.proofs.Common.{sym, arith, length-take-le}
use Rattle.controller.proofs.Readied.{runs-lengths}
use Rattle.writers.proofs.Throughs.{asked-few, through-accepted, through-refused}
use Rattle.writers.proofs.pair.through.Goals as goal

pub hold-before-requires : goal.hold-before-requires
hold-before-requires c = ((runs-lengths c.requires).0, asked-few c.requires (record { kind = c.args.kind; byte = c.args.byte }) c.stores-all.ensures)

pub slice_bounds-before-end : goal.slice_bounds-before-end
slice_bounds-before-end c = let few = asked-few c.requires (record { kind = c.args.kind; byte = c.args.byte }) c.stores-all.ensures in omega (arith, few, c.hold-before.ensures.value)

pub slice_bounds-note_all-end : goal.slice_bounds-note_all-end
slice_bounds-note_all-end c = let few = asked-few c.requires (record { kind = c.args.kind; byte = c.args.byte }) c.stores-all.ensures in sym (length-take-le _ _ (omega (arith, few, c.hold-before.ensures.value)))

pub note_all-requires : goal.note_all-requires
note_all-requires c = let few = asked-few c.requires (record { kind = c.args.kind; byte = c.args.byte }) c.stores-all.ensures in
    let e = (runs-lengths c.requires).0 in
    let long = length-take-le c.stores-all.result c.hold-before.result (omega (arith, few, c.hold-before.ensures.value)) in
    (omega (arith, e, c.accessed-done.auto), omega (arith, few, long))

pub returns-in-Ok-clause-behind : goal.returns-in-Ok-clause-behind
returns-in-Ok-clause-behind c = let a = c.args in
    let few = asked-few c.requires (record { kind = a.kind; byte = a.byte }) c.stores-all.ensures in
    through-accepted c.requires (record { kind = a.kind; byte = a.byte }) a.notes.now.stretch.first a.notes.now.stretch.last a.pair a.notes.now.count a.notes.now.list.now c.in-Ok.field-0 (rw c.in-Ok.is at c.accessed-done.ensures.step) c.stores-all.ensures c.hold-before.ensures.held (omega (arith, few, c.hold-before.ensures.value)) c.note_all.ensures.noted

pub returns-in-Err-clause-behind : goal.returns-in-Err-clause-behind
returns-in-Err-clause-behind c = let a = c.args in
    through-refused c.requires (record { kind = a.kind; byte = a.byte }) a.notes.now.stretch.first a.notes.now.stretch.last a.pair a.notes.now.count a.notes.now.list.now c.in-Err.field-0 (rw c.in-Err.is at c.accessed-done.ensures.step) (rw c.in-Err.is at c.accessed-done.ensures.err)
