-- A run that goes on from a state: what a part of a log adds, and the run of the whole.
use Rattle.std.specs.Prelude.{ℕ, ◌+◌, ◌/◌, ◌%◌, ◌^◌, cond, not, ◌&&◌, List, length, ◌==◌}
use Rattle.state.specs.declared.panel.Panel.{Panel}
use Rattle.state.specs.declared.registers.Registers.{Registers}
use Rattle.state.specs.State.{valid_panel, valid_registers}
use Rattle.controller.specs.declared.run.Ran.{Ran}
use Rattle.controller.specs.Run.{RanAll, stopping_of}
use Rattle.controller.specs.Skip.{RanOnAll, run_of}
use Rattle.playback.specs.declared.play.Played.{Played}
use Rattle.playback.specs.declared.play.PlayedOn.{PlayedOn}

-- nothing played yet
abbrev pub begun_of : Registers → Ran
begun_of r = record { number = 0; place = 0; taken = 0; answers = 0; registers = r }

-- a part's run, its counts and its place behind those of the run so far, in 64 bits
abbrev pub counted_on : Ran → Ran → Ran
counted_on so x =
    record {
      number = x.number;
      place = cond (x.number == 0) 0 ((so.taken + x.place) % 2 ^ 64);
      taken = (so.taken + x.taken) % 2 ^ 64;
      answers = (so.answers + x.answers) % 2 ^ 64;
      registers = x.registers;
    }

-- a reply, the display memory and the part's answer buffer then
pub record PlayedAll : Type 0 where
  pub played : Played
  pub memory : List ℕ
  pub answers : List ℕ

abbrev pub played_all : Played → List ℕ → List ℕ → PlayedAll
played_all played memory answers = record { played = played; memory = memory; answers = answers }

-- the part run from where the run so far stands
abbrev pub part_of : Ran → RanAll → PlayedAll
part_of so x = played_all (record { ran = counted_on so x.ran; given = x.ran.answers }) x.memory x.answers

-- a run that was refused goes no further
unfoldable pub play_of : Panel → Ran → List ℕ → List ℕ → List ℕ → List ℕ → PlayedAll
play_of p so mem rom part answers =
    cond (so.number == 0)
    (part_of so (stopping_of p so.registers mem rom part (length part / 2) answers))
    (played_all (record { ran = so; given = 0 }) mem answers)

-- a reply, the display memory, the part's answer buffer and its list then
pub record PlayedOnAll : Type 0 where
  pub played : PlayedOn
  pub memory : List ℕ
  pub answers : List ℕ
  pub skips : List ℕ

abbrev pub played_on_all : PlayedOn → List ℕ → List ℕ → List ℕ → PlayedOnAll
played_on_all played memory answers skips = record { played = played; memory = memory; answers = answers; skips = skips }

abbrev pub part_on_of : Ran → RanOnAll → PlayedOnAll
part_on_of so x =
    played_on_all (record { ran = counted_on so x.all.ran; given = x.all.ran.answers; skipped = x.skipped }) x.all.memory x.all.answers x.skips

-- the part by the ordinary run (02, Req 09)
unfoldable pub play_on_of : Panel → Ran → List ℕ → List ℕ → List ℕ → List ℕ → List ℕ → PlayedOnAll
play_on_of p so mem rom part answers skips =
    cond (so.number == 0)
    (part_on_of so (run_of p so.registers mem rom part (length part / 2) answers skips))
    (played_on_all (record { ran = so; given = 0; skipped = 0 }) mem answers skips)

-- the whole log's length is judged before any pair, behind panel, state and the lengths lent
abbrev pub closed_of : Panel → Registers → ℕ → ℕ → ℕ → Ran → Ran
closed_of p r memory rom bytes so =
    cond (valid_panel p && valid_registers r && (memory == 65536 && rom == 1024) && not (bytes % 2 == 0))
    (record { number = 8; place = bytes / 2; taken = 0; answers = 0; registers = r })
    so
