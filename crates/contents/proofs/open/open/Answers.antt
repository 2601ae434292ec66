-- `open` meets its contract.
use mathlib.Core.Path.{refl, ap, sym, subst, ◌∙◌}
use mathlib.Core.Bool.{Bool}
use lib.Dec.{eqb}
use Rattle.contents.specs.Contents.{Contents, contents_of}
use Rattle.contents.specs.Spans.{spans_of}
use Rattle.contents.specs.Replies.{Opens}
use Rattle.contents.proofs.Opening.{open-form, open-sound, open-shut}
use Rattle.contents.proofs.open.open.Goals as goal

pub returns-then-not-opens : goal.returns-then-not-opens
returns-then-not-opens c = let s = c.args in
    let w = open-shut s.book.now c.byte_at-two.ensures c.count_at.ensures c.byte_at-n.ensures c.first_body.ensures c.if-not-opens.true in
    rw (c.into.ensures.0, c.into.ensures.1) (record { value = ap (spans_of _) w; contents = (refl, sym w) })

pub returns : goal.returns
returns c = let s = c.args in
    let f = open-form s.book.now c.byte_at-two.ensures c.count_at.ensures c.byte_at-n.ensures c.first_body.ensures in
    let w = open-sound s.book.now c.byte_at-two.ensures c.count_at.ensures c.byte_at-n.ensures c.first_body.ensures c.if-not-opens.false in
    record { value = c.entries.ensures.value ∙ (λ j. spans_of (f j) (w j)); contents = subst (λ (t : Bool). Opens t (contents_of s.book.now) c.entries.result) f (subst (λ (x : Contents). Opens (eqb c.byte_at-two.result 0) x c.entries.result) w c.entries.ensures.contents) }
