-- 02, Req 02: what inspecting a recorded log answers.
use Rattle.std.specs.Prelude.{ℕ, ◌/◌, ◌%◌, false, cond, ◌&&◌, List, [], eqb, length}
use Rattle.state.specs.State.{valid_panel, valid_registers}
use Rattle.display.specs.Frame.{lent_lengths}
use Rattle.effects.specs.Machine.{machine}
use Rattle.controller.specs.Run.{pairs_of, Standing, End, whole, short, Run, run_from}
use Rattle.inspection.specs.Types.{Panel, Registers, Nothing, Looked, Inspected}
pub use Rattle.inspection.specs.Named.{is_nothing}
use Rattle.inspection.specs.Look.{unseen, Watched, watch_step}

-- a reply, and the display memory then
pub record InspectedAll : Type 0 where
  pub inspected : Inspected
  pub memory : List ℕ

abbrev pub inspected_all : Inspected → List ℕ → InspectedAll
inspected_all inspected memory = record { inspected = inspected; memory = memory }

-- nothing is named on a refusal
abbrev pub unnamed : ℕ → ℕ → Registers → Inspected
unnamed n place r = record { registers = r; number = n; place = place; unasked = Nothing; wrong = Nothing; passes = false }

-- a log passes exactly if neither exists
abbrev pub named : Registers → Looked → Inspected
named r s =
    record { registers = r; number = 0; place = 0; unasked = s.unasked; wrong = s.wrong; passes = is_nothing s.unasked && is_nothing s.wrong }

-- after the whole log: 14 recorded answers and reads are not equally many
abbrev pub inspected_by : List ℕ → Watched → End → ℕ → Inspected
inspected_by recorded s whole k =
    cond (eqb (length recorded) s.given) (named s.machine.registers s.looked) (unnamed 14 0 s.machine.registers)
inspected_by recorded s (short n) k = unnamed n k s.machine.registers

abbrev pub inspected_of : List ℕ → Run Watched → InspectedAll
inspected_of recorded e = inspected_all (inspected_by recorded e.standing.machine e.end e.taken) e.standing.machine.machine.memory

-- before the first pair; no answer is written anywhere
abbrev pub begun_watch : Registers → List ℕ → Standing Watched
begun_watch r mem = record { machine = record { machine = machine r mem; looked = unseen; place = 0; given = 0 }; answers = []; given = 0 }

-- 1 panel or state not valid; 2 a lent fixed length wrong; 8 log of odd length; then all pairs, by a run that stops
unfoldable pub inspect_of : Panel → Registers → List ℕ → List ℕ → List ℕ → List ℕ → InspectedAll
inspect_of p r mem rom log recorded =
    cond (valid_panel p && valid_registers r)
    (cond (lent_lengths mem rom)
    (cond (eqb (length log % 2) 0)
    (inspected_of recorded (run_from (watch_step p rom recorded) 0 (pairs_of log) (begun_watch r mem)))
    (inspected_all (unnamed 8 (length log / 2) r) mem))
    (inspected_all (unnamed 2 0 r) mem))
    (inspected_all (unnamed 1 0 r) mem)
