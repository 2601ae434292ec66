-- 01, Running a log: two runs equal one.
use Rattle.std.specs.Prelude.{◌≡◌, cond, List, ◌++◌, ℕ, ◌+◌, ◌*◌, eqb, take, drop}
use Rattle.controller.specs.Types.{Panel, Registers}
use Rattle.controller.specs.Run.{RanAll, ran_all, stopping_of}

-- a run that goes on where another has taken n pairs, with these answers before its own, its places counted from the whole log's start
abbrev pub continued : ℕ → List ℕ → ℕ → RanAll → RanAll
continued n front given x =
    ran_all
    (record {
      number = x.ran.number;
      place = cond (eqb x.ran.number 0) 0 (n + x.ran.place);
      taken = n + x.ran.taken;
      answers = given + x.ran.answers;
      registers = x.ran.registers;
    })
    x.memory
    (front ++ x.answers)

-- the second over the rest of log and answer buffer where the first stopped by number
abbrev pub second_run : Panel → List ℕ → List ℕ → ℕ → ℕ → RanAll → RanAll
second_run p rom log n m first =
    stopping_of p first.ran.registers first.memory rom (drop (2 * n) log) m (drop first.ran.answers first.answers)

abbrev pub Split : Type 0
Split =
    (p : Panel) (r : Registers) (mem rom log answers : List ℕ) (n m : ℕ) (first : RanAll)
    → first ≡ stopping_of p r mem rom log n answers
    → first.ran.number ≡ 0
    → first.ran.taken ≡ n
    → stopping_of p r mem rom log (n + m) answers
    ≡ continued n (take first.ran.answers first.answers) first.ran.answers (second_run p rom log n m first)
