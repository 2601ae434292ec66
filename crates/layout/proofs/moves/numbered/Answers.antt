-- `numbered` meets its contract: all of the keys are their places.
use mathlib.Core.Path.{◌≡◌, refl, ap, ◌∙◌}
use mathlib.Core.Bool.{Bool, ◌&&◌}
use mathlib.Core.List.{List, [], ◌∷◌}
use Prim.Native.Nat.{ℕ, ◌+◌}
use Rattle.std.specs.Prelude.{eqb}
use Rattle.std.specs.List.{list_all, enumerate_from}
use Rattle.std.proofs.Common.{rules, tests}
use Rattle.std.proofs.lemmas.Iterator.{YieldsList-from_slice}
use Rattle.std.proofs.lemmas.Iterator.Consumers.{YieldsList-from_enumerate}
use Rattle.std.proofs.lemmas.Iterator.Search.{all_from_yields_List}
use Rattle.contents.specs.declared.spans.Span.{Span}
use Rattle.contents.specs.Replies.{bodies}
use Rattle.layout.specs.Moved.{numbered_from}
use Rattle.layout.proofs.moves.numbered.Goals as goal

abbrev in-place : ℕ × Span → Bool
in-place q = eqb q.1.key q.0

all-numbered : (i : ℕ) (ss : List Span) → list_all in-place (enumerate_from i ss) ≡ numbered_from i (bodies ss)
all-numbered i [] = refl
all-numbered i (s ∷ ss) = ap (λ b. eqb s.key i && b) (all-numbered (i + 1) ss)

pub returns : goal.returns
returns c = all_from_yields_List in-place _ _ c.all.result c.all.ensures.ran (YieldsList-from_enumerate (YieldsList-from_slice c.args.spans.now cc) cc) (λ x b q k. search (rules, tests)) ∙ all-numbered 0 c.args.spans.now
