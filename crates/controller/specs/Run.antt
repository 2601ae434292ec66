-- 01, Running a log.
use Rattle.std.specs.Prelude.{ℕ, suc, ◌+◌, ◌/◌, ◌%◌, cond, ◌&&◌, List, [], ◌∷◌, ltb, eqb, length, take, set}
use Rattle.controller.specs.Types.{Panel, Registers, Ran}
use Rattle.state.specs.State.{valid_panel, valid_registers}
use Rattle.display.specs.Frame.{lent_lengths}
use Rattle.controller.specs.Access.{Pair, Step, done, answered, refused, step_of}
use Rattle.effects.specs.Machine.{Machine, machine}
unfoldable pub use Rattle.turns.specs.Pairs.{pairs_of, log_of}

-- a run under way: the machine, the lent answer buffer, the answers in it
pub record Standing (M : Type 0) : Type 0 where
  pub machine : M
  pub answers : List ℕ
  pub given : ℕ

-- a pair taken, or not
pub data Turn (M : Type 0) : Type 0 where
  went : Standing M → Turn M
  halted : ℕ → Turn M

-- read answers go to the buffer in order; 13 a read otherwise accepted, no room for its answer
abbrev pub turn_of : {M : Type 0} → Standing M → Step M → Turn M
turn_of s (done m) = went (record { machine = m; answers = s.answers; given = s.given })
turn_of s (answered m b) =
    cond (ltb s.given (length s.answers))
    (went (record { machine = m; answers = set s.answers s.given b; given = s.given + 1 }))
    (halted 13)
turn_of s (refused n) = halted n

-- stopped at the stated number or the log's end, or by the first refused pair
pub data End : Type 0 where
  whole : End
  short : ℕ → End

pub record Run (M : Type 0) : Type 0 where
  pub standing : Standing M
  pub taken : ℕ
  pub end : End

abbrev pub after_turn : {M : Type 0} → Turn M → (Standing M → Run M) → (ℕ → Run M) → Run M
after_turn (went t) on off = on t
after_turn (halted n) on off = off n

-- the pairs of a run from pair k on, over any step; taken are those before the first refusal or the end
unfoldable pub run_from : {M : Type 0} → (M → Pair → Step M) → ℕ → List Pair → Standing M → Run M
run_from step k [] s = record { standing = s; taken = k; end = whole }
run_from step k (q ∷ qs) s =
    after_turn (turn_of s (step s.machine q))
    (λ t. run_from step (suc k) qs t)
    (λ n. record { standing = s; taken = k; end = short n })

-- the number of an end, and its place: the pair refused
abbrev pub end_number : End → ℕ
end_number whole = 0
end_number (short n) = n

abbrev pub end_place : End → ℕ → ℕ
end_place whole k = 0
end_place (short n) k = k

-- a reply, the display memory and the answer buffer then
pub record RanAll : Type 0 where
  pub ran : Ran
  pub memory : List ℕ
  pub answers : List ℕ

abbrev pub ran_all : Ran → List ℕ → List ℕ → RanAll
ran_all ran memory answers = record { ran = ran; memory = memory; answers = answers }

abbrev pub ran_of : Run Machine → RanAll
ran_of e =
    ran_all
    (record {
      number = end_number e.end;
      place = end_place e.end e.taken;
      taken = e.taken;
      answers = e.standing.given;
      registers = e.standing.machine.registers;
    })
    e.standing.machine.memory
    e.standing.answers

-- on 1, 2 and 8 a run takes no pair
abbrev pub ran_none : ℕ → ℕ → Registers → List ℕ → List ℕ → RanAll
ran_none n place r mem answers = ran_all (record { number = n; place = place; taken = 0; answers = 0; registers = r }) mem answers

-- 1 panel or state not valid; 2 a lent fixed length wrong; 8 log of odd length, with the whole pairs in it; then at most limit pairs
unfoldable pub stopping_of : Panel → Registers → List ℕ → List ℕ → List ℕ → ℕ → List ℕ → RanAll
stopping_of p r mem rom log limit answers =
    cond (valid_panel p && valid_registers r)
    (cond (lent_lengths mem rom)
    (cond (eqb (length log % 2) 0)
    (ran_of (run_from (step_of p rom) 0 (take limit (pairs_of log)) (record { machine = machine r mem; answers = answers; given = 0 })))
    (ran_none 8 (length log / 2) r mem answers))
    (ran_none 2 0 r mem answers))
    (ran_none 1 0 r mem answers)
