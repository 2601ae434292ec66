-- 01, Running a log: played part by part, any log is its run.
use Rattle.std.specs.Prelude.{◌≡◌, ℕ, ◌/◌, ◌%◌, ◌^◌, ◌<◌, ◌≤◌, List, [], ◌∷◌, ◌++◌, length, take}
use Rattle.state.specs.declared.panel.Panel.{Panel}
use Rattle.state.specs.declared.registers.Registers.{Registers}
use Rattle.controller.specs.declared.run.Ran.{Ran}
use Rattle.controller.specs.Run.{RanAll, stopping_of}
use Rattle.playback.specs.Play.{begun_of, PlayedAll, play_of, closed_of}

-- a part of a log, with room for its answers
pub record Part : Type 0 where
  pub log : List ℕ
  pub room : List ℕ

-- the log that is cut into them
unfoldable pub log_of_parts : List Part → List ℕ
log_of_parts [] = []
log_of_parts (q ∷ qs) = q.log ++ log_of_parts qs

-- whole pairs, and room for an answer to each
pub data Cut : List Part → Type 0 where
  none : Cut []
  one : {q : Part} {qs : List Part} → length q.log % 2 ≡ 0 → length q.log / 2 ≤ length q.room → Cut qs → Cut (q ∷ qs)

-- what was played: the run so far, the memory, every answer
pub record PartsGathered : Type 0 where
  pub ran : Ran
  pub memory : List ℕ
  pub answers : List ℕ

abbrev pub gather : List ℕ → PlayedAll → PartsGathered
gather before x =
    record { ran = x.played.ran; memory = x.memory; answers = before ++ take x.played.given x.answers }

-- part after part, each from where the last one ended
unfoldable pub play_parts : Panel → List ℕ → List Part → PartsGathered → PartsGathered
play_parts p rom [] g = g
play_parts p rom (q ∷ qs) g =
    play_parts p rom qs (gather g.answers (play_of p g.ran g.memory rom q.log q.room))

abbrev pub begun : Registers → List ℕ → PartsGathered
begun r mem = record { ran = begun_of r; memory = mem; answers = [] }

-- the run of a whole log, with room for all its answers
abbrev pub whole_run : Panel → Registers → List ℕ → List ℕ → List ℕ → List ℕ → RanAll
whole_run p r mem rom log answers = stopping_of p r mem rom log (length log / 2) answers

-- the counts fit 64 bits; played are number, place, counts, registers, memory and answers of the one run, whatever the cut
abbrev pub PartByPart : Type 0
PartByPart =
    (p : Panel) (r : Registers) (mem rom answers : List ℕ) (q : Part) (qs : List Part)
    → Cut (q ∷ qs)
    → length (log_of_parts (q ∷ qs)) / 2 ≤ length answers
    → length (log_of_parts (q ∷ qs)) < 2 ^ 64
    → let whole = whole_run p r mem rom (log_of_parts (q ∷ qs)) answers in
    play_parts p rom (q ∷ qs) (begun r mem)
    ≡ record { ran = whole.ran; memory = whole.memory; answers = take whole.ran.answers whole.answers }

-- a last byte alone behind them: closed, its run is that of the whole log too
abbrev pub ClosedWhole : Type 0
ClosedWhole =
    (p : Panel) (r : Registers) (mem rom answers : List ℕ) (q : Part) (qs : List Part) (last : List ℕ)
    → Cut (q ∷ qs)
    → length last ≤ 1
    → length (log_of_parts (q ∷ qs)) / 2 ≤ length answers
    → length (log_of_parts (q ∷ qs)) < 2 ^ 64
    → let log = log_of_parts (q ∷ qs) ++ last in
    closed_of p r (length mem) (length rom) (length log) (play_parts p rom (q ∷ qs) (begun r mem)).ran
    ≡ (whole_run p r mem rom log answers).ran
