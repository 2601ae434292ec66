-- Data in auto write that follow one another, stored at once.
use Rattle.std.specs.Prelude.{◌≡◌, ℕ, ◌+◌, ◌-◌, ◌*◌, ◌<◌, ◌≤◌, cond, List, [], ◌∷◌, length, ◌==◌, ◌≢◌, slice_index, slice_range}
use Rattle.ground.specs.Lists.{build, stored}
use Rattle.sight.specs.Steps.{Pair}
use Rattle.turns.specs.Pairs.{pairs_of}

-- the pairs of a log from one place up to another
abbrev pub pairs_from : List ℕ → ℕ → ℕ → List Pair
pairs_from log from total = slice_range (pairs_of log) from total

-- the bytes of the data that some pairs begin with
unfoldable pub data_of : List Pair → List ℕ
data_of [] = []
data_of (q ∷ qs) = cond (q.kind == 0) (q.byte ∷ data_of qs) []

-- the bytes of n pairs from a place on
abbrev pub bytes_from : List ℕ → ℕ → ℕ → List ℕ
bytes_from log from n = build n (λ j. slice_index log (2 * (from + j) + 1))

-- n pairs from a place on are data
abbrev pub AllData : List ℕ → ℕ → ℕ → Type 0
AllData log from n = (j : ℕ) → j < n → slice_index log (2 * (from + j)) ≡ 0

-- all pairs from one place up to i are data
pub record Scanning (log : List ℕ) (from total i : ℕ) : Type 0 where
  pub onward : from ≤ i
  pub inside : i ≤ total
  pub kinds : AllData log from (i - from)

-- and the next is none
pub record Scanned (log : List ℕ) (from total end : ℕ) : Type 0 where
  pub seen : Scanning log from total end
  pub stops : end < total → slice_index log (2 * end) ≢ 0

-- the data up to there stored from an address on
pub record Begun (mem : List ℕ) (start : ℕ) (log : List ℕ) (from total : ℕ) (after : List ℕ) (end : ℕ) : Type 0 where
  pub low : start < 65536
  pub scanned : Scanned log from total end
  pub holds : after ≡ stored mem start (bytes_from log from (end - from))

-- a block of data stored from the pointer on, and the place of the first pair behind it
pub record Blocked (mem : List ℕ) (start : ℕ) (log : List ℕ) (from total : ℕ) (after : List ℕ) (end : ℕ) : Type 0 where
  pub low : start < 65536
  pub inside : end ≤ total
  pub holds : after ≡ stored mem start (data_of (pairs_from log from total))
  pub reaches : end ≡ from + length (data_of (pairs_from log from total))

-- that, where all of memory is lent and the log has those pairs
abbrev pub Blocks : List ℕ → ℕ → List ℕ → ℕ → ℕ → List ℕ → ℕ → Type 0
Blocks mem start log from total after end = length mem ≡ 65536 → 2 * total ≤ length log → from ≤ total → Blocked mem start log from total after end
