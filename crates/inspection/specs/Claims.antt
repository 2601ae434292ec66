-- 02, Req 02: what an inspection has in common with the run over the same log.
use Rattle.std.specs.Prelude.{ℕ, ◌/◌, ◌≤◌, ◌≡◌, cond, not, ◌&&◌, List, eqb, length, take}
use Rattle.controller.specs.Run.{RanAll, stopping_of}
use Rattle.inspection.specs.Types.{Panel, Registers, Nothing}
use Rattle.inspection.specs.Inspected.{inspect_of}

-- the stopping run over all of a log, and the answers it gave
abbrev pub own_run : Panel → Registers → List ℕ → List ℕ → List ℕ → List ℕ → RanAll
own_run p r mem rom log answers = stopping_of p r mem rom log (length log / 2) answers

abbrev pub own_answers : RanAll → List ℕ
own_answers e = take e.ran.answers e.answers

-- "The lent memory ends as that run leaves it, also on a refusal"; "Refusals: those of a run but 13, then 14 where recorded answers and
-- reads are not equally many"
abbrev pub Inspects : Type 0
Inspects =
    (p : Panel) (r : Registers) (mem rom log recorded answers : List ℕ)
    → length log / 2 ≤ length answers
    → let e = own_run p r mem rom log answers in
    let i = inspect_of p r mem rom log recorded in
    (i.memory ≡ e.memory)
    × (i.inspected.registers ≡ e.ran.registers)
    × (i.inspected.place ≡ e.ran.place)
    × (i.inspected.number ≡ cond (eqb e.ran.number 0 && not (eqb (length recorded) e.ran.answers)) 14 e.ran.number)

-- beside the controller's own answers none is wrong, and 14 does not come
abbrev pub OwnRight : Type 0
OwnRight =
    (p : Panel) (r : Registers) (mem rom log answers : List ℕ)
    → length log / 2 ≤ length answers
    → let e = own_run p r mem rom log answers in
    let i = inspect_of p r mem rom log (own_answers e) in
    (i.inspected.number ≡ e.ran.number) × (i.inspected.wrong ≡ Nothing)
