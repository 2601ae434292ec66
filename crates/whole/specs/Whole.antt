-- 02, Req 06: all of a log, its read answers dropped.
use Rattle.std.specs.Prelude.{ℕ, ◌/◌, List, length}
use Rattle.ground.specs.Lists.{zeros}
use Rattle.controller.specs.Run.{RanAll}
use Rattle.playback.specs.Parts.{whole_run}
use Rattle.state.specs.declared.panel.Panel.{Panel}
use Rattle.state.specs.declared.registers.Registers.{Registers}
use Rattle.controller.specs.declared.run.Ran.{Ran}

-- a run's reply, and the display memory then
pub record RanWhole : Type 0 where
  pub ran : Ran
  pub memory : List ℕ

abbrev pub ran_whole : Ran → List ℕ → RanWhole
ran_whole ran memory = record { ran = ran; memory = memory }

abbrev pub without_answers : RanAll → RanWhole
without_answers x = ran_whole x.ran x.memory

-- by the stopping run, with room for an answer to every pair, so that 13 never comes
unfoldable pub whole_of : Panel → Registers → List ℕ → List ℕ → List ℕ → RanWhole
whole_of p r mem rom log = without_answers (whole_run p r mem rom log (zeros (length log / 2)))
