-- `enter_alike` meets its contract: counted, then listed where there is room.
use mathlib.Core.Path.{ap, ◌∙◌}
use mathlib.Core.List.{List}
use Prim.Native.Nat.{◌*◌}
use lib.ListN.{length}
use lib.Seq.{sets}
use Rattle.entries.specs.Listed.{Difference, differences_from, numbers_of}
use Rattle.entries.proofs.Listings.{alike}
use Rattle.entries.proofs.Enterings.{enters-not, enters-all}
use Rattle.entries.proofs.enter.enter_alike.Goals as goal

pub returns-then-room-bytes-clause-answer : goal.returns-then-room-bytes-clause-answer
returns-then-room-bytes-clause-answer c = let a = c.args in
    enters-not a.list.now (differences_from 0 a.one.now a.two.now) (differences_from 0 a.a.now a.b.now) (c.count_apart-bytes.ensures ∙ ap length (alike _ _)) (c.count_apart-values.ensures ∙ ap length (alike _ _)) c.saturating_sub-left.ensures c.if-room-bytes.true

pub returns-clause-answer : goal.returns-clause-answer
returns-clause-answer c = let a = c.args in
    enters-all a.list.now (differences_from 0 a.one.now a.two.now) (differences_from 0 a.a.now a.b.now) (c.count_apart-bytes.ensures ∙ ap length (alike _ _)) (c.count_apart-values.ensures ∙ ap length (alike _ _)) c.saturating_sub-left.ensures c.if-room-bytes.false (c.list_apart.ensures ∙ ap (λ (ds : List Difference). sets a.list.now 0 (numbers_of ds)) (alike a.one.now a.two.now)) (c.list_apart-2.ensures ∙ ap (λ (ds : List Difference). sets c.list_apart.new.list (3 * c.count_apart-bytes.result) (numbers_of ds)) (alike a.a.now a.b.now))
