-- 01, Running a log: its pairs.
use Rattle.std.specs.Prelude.{ℕ, List, [], ◌∷◌}
use Rattle.sight.specs.Steps.{Pair}

-- the pairs of a log, and the log of some pairs
unfoldable pub pairs_of : List ℕ → List Pair
pairs_of [] = []
pairs_of (k ∷ []) = []
pairs_of (k ∷ (b ∷ log)) = record { kind = k; byte = b } ∷ pairs_of log

unfoldable pub log_of : List Pair → List ℕ
log_of [] = []
log_of (q ∷ qs) = q.kind ∷ q.byte ∷ log_of qs
