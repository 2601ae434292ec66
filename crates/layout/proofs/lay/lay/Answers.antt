-- `lay` meets its contract: head, entries and bodies, one after the other.
use mathlib.Core.Path.{refl}
use borrow.Author.Rules.{rules}
use Rattle.contents.specs.Replies.{bodies}
use Rattle.layout.proofs.Laying.{entries-fit, bodies-fit, laid-put}
use Rattle.layout.proofs.Sums.{spans-count}
use Rattle.layout.proofs.lay.lay.Goals as goal

pub put_entries-requires : goal.put_entries-requires
put_entries-requires c = let s = c.args in let k = c.requires in
    entries-fit s.book.now (bodies s.spans.now) k.spanned.within s.two (spans-count s.spans.now) c.put_head.ensures refl k.lent k.spanned k.fits

pub put_bodies-requires : goal.put_bodies-requires
put_bodies-requires c = let s = c.args in let k = c.requires in
    bodies-fit s.book.now (bodies s.spans.now) k.spanned.within s.two (spans-count s.spans.now) c.put_head.ensures refl k.lent c.put_entries.ensures

pub returns : goal.returns
returns c = let s = c.args in let k = c.requires in
    laid-put s.book.now (bodies s.spans.now) k.spanned.within s.two (spans-count s.spans.now) c.put_head.ensures refl k.lent c.put_entries.ensures c.put_bodies.ensures (search rules)
