-- 02, Req 09: two ordinary runs equal one, and where nothing is refused the two runs agree.
use Rattle.std.specs.Prelude.{◌≡◌, List, ◌++◌, ℕ, ◌+◌, ◌*◌, take, drop}
use Rattle.controller.specs.Types.{Panel, Registers}
use Rattle.controller.specs.Run.{stopping_of}
use Rattle.controller.specs.Split.{continued}
use Rattle.controller.specs.Skip.{RanOnAll, run_of, later}

-- an ordinary run that goes on where another has taken n pairs: answers and entries behind those, places counted from the whole log's start
abbrev pub continued_on : ℕ → RanOnAll → RanOnAll → RanOnAll
continued_on n first x =
    record {
      all = continued n (take first.all.ran.answers first.all.answers) first.all.ran.answers x.all;
      skipped = first.skipped + x.skipped;
      skips = take (2 * first.skipped) first.skips ++ later n x.skipped x.skips;
    }

-- the second over the rest of log, answer buffer and list where the first stopped by number
abbrev pub second_run_on : Panel → List ℕ → List ℕ → ℕ → ℕ → RanOnAll → RanOnAll
second_run_on p rom log n m first =
    run_of p first.all.ran.registers first.all.memory rom (drop (2 * n) log) m
    (drop first.all.ran.answers first.all.answers)
    (drop (2 * first.skipped) first.skips)

abbrev pub SplitOn : Type 0
SplitOn =
    (p : Panel) (r : Registers) (mem rom log answers skips : List ℕ) (n m : ℕ) (first : RanOnAll)
    → first ≡ run_of p r mem rom log n answers skips
    → first.all.ran.number ≡ 0
    → first.all.ran.taken ≡ n
    → run_of p r mem rom log (n + m) answers skips ≡ continued_on n first (second_run_on p rom log n m first)

-- no pair refused: the same reply and buffers, nothing listed
abbrev pub Agree : Type 0
Agree =
    (p : Panel) (r : Registers) (mem rom log : List ℕ) (limit : ℕ) (answers skips : List ℕ)
    → (stopping_of p r mem rom log limit answers).ran.number ≡ 0
    → run_of p r mem rom log limit answers skips ≡ record { all = stopping_of p r mem rom log limit answers; skipped = 0; skips = skips }
