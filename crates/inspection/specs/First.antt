-- 02, Req 02: what is named is the first, said without a walk: by the stopping run over the pairs before each pair.
use Rattle.std.specs.Prelude.{ℕ, ◌*◌, ◌/◌, ◌<◌, ◌≤◌, ◌≡◌, Bool, true, false, ◌&&◌, List, eqb, length, get_or}
use Rattle.controller.specs.Run.{RanAll, stopping_of}
use Rattle.inspection.specs.Types.{Panel, Registers, Named, At, Nothing}
use Rattle.inspection.specs.Look.{ready_for, needs_asking}
use Rattle.inspection.specs.Inspected.{is_nothing, inspect_of}
use Rattle.inspection.specs.Claims.{own_run, own_answers}

-- the first below n of which something holds, or none
abbrev pub FirstOf : (ℕ → Type 0) → ℕ → Named → Type 0
FirstOf bad n (At k) = (k < n) × bad k × ((i : ℕ) → i < k → bad i → ⊥)
FirstOf bad n Nothing = (i : ℕ) → i < n → bad i → ⊥

-- pair k, e being the run over the pairs before it: a command, data write or auto read's data read
abbrev pub access_at : List ℕ → ℕ → RanAll → Bool
access_at log k e = needs_asking e.ran.registers.bus.auto (get_or log (2 * k) 0)

-- a status read whose recorded answer was ready
abbrev pub ready_at : List ℕ → List ℕ → ℕ → RanAll → Bool
ready_at log recorded k e =
    eqb (get_or log (2 * k) 0) 3 && ready_for e.ran.registers.bus.auto (get_or recorded e.ran.answers 0)

-- "preceded, since the last such access or the log's start, by a status read whose recorded answer was ready"
pub record Preceded (access ready : ℕ → Bool) (k : ℕ) : Type 0 where
  pub at : ℕ
  pub earlier : at < k
  pub was : ready at ≡ true
  pub since : (i : ℕ) → at < i → i < k → access i ≡ false

abbrev pub Unasked : (ℕ → Bool) → (ℕ → Bool) → ℕ → Type 0
Unasked access ready k = (access k ≡ true) × (Preceded access ready k → ⊥)

-- a recorded answer that differs from the controller's own
abbrev pub Differs : List ℕ → List ℕ → ℕ → Type 0
Differs recorded own i = get_or recorded i 0 ≡ get_or own i 0 → ⊥

-- of a log that is not refused; "a log passes exactly if neither exists"
abbrev pub NamesFirst : Type 0
NamesFirst =
    (p : Panel) (r : Registers) (mem rom log recorded answers : List ℕ)
    → length log / 2 ≤ length answers
    → (inspect_of p r mem rom log recorded).inspected.number ≡ 0
    → let before : (ℕ → RanAll) = λ k. stopping_of p r mem rom log k answers in
    let i = (inspect_of p r mem rom log recorded).inspected in
    FirstOf (Unasked (λ k. access_at log k (before k)) (λ k. ready_at log recorded k (before k))) (length log / 2) i.unasked
    × FirstOf (Differs recorded (own_answers (own_run p r mem rom log answers))) (length recorded) i.wrong
    × (i.passes ≡ is_nothing i.unasked && is_nothing i.wrong)
