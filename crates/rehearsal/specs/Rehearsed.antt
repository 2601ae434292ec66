-- Demand 3 as a promise: what rehearsing a screen answers.
use Rattle.std.specs.Prelude.{◌≡◌, false, cond, ◌&&◌, List, [], ℕ, ◌*◌, ltb, length, get_or, Result, Ok, Err}
use Rattle.std.proofs.lemmas.List.Edits.{sets}
use Rattle.state.specs.declared.panel.Panel.{Panel}
use Rattle.state.specs.declared.registers.Registers.{Registers}
use Rattle.state.specs.State.{valid_panel, valid_registers}
use Rattle.display.specs.Frame.{lent_lengths, frame_fits}
use Rattle.controller.specs.Run.{log_of, stopping_of}
use Rattle.book.specs.Operation.{Operation}
use Rattle.book.specs.Screen.{Screen, screen, refused, screen_of}
use Rattle.writer.specs.Stream.{stream_of, count_of}
use Rattle.picture.specs.Picture.{picture_of, picture_frame}
use Rattle.state.specs.declared.refusal.Refused.{Refused}
use Rattle.state.specs.Refusals.{number_of}
use Rattle.rehearsal.specs.declared.rehearse.Rehearsed.{Rehearsed as Run}
use Rattle.rehearsal.specs.Demand3.{in_areas, holding}

-- a number and place, the pairs run, and the registers then
pub record Rehearsed : Type 0 where
  pub number : ℕ
  pub place : ℕ
  pub pairs : ℕ
  pub registers : Registers

-- a reply, and the lent memory, room and frame then
pub record Rehearsal : Type 0 where
  pub rehearsed : Rehearsed
  pub memory : List ℕ
  pub room : List ℕ
  pub frame : List ℕ

abbrev pub rehearsed_all : Rehearsed → List ℕ → List ℕ → List ℕ → Rehearsal
rehearsed_all rehearsed memory room frame = record { rehearsed = rehearsed; memory = memory; room = room; frame = frame }

abbrev pub refused_rehearsal : ℕ → ℕ → Registers → Rehearsed
refused_rehearsal n place r = record { number = n; place = place; pairs = 0; registers = r }

-- read from a result; a refusal leaves the registers
abbrev pub rehearsed_reply : Registers → Result Run Refused → Rehearsed
rehearsed_reply r (Ok x) = record { number = 0; place = 0; pairs = x.pairs; registers = x.registers }
rehearsed_reply r (Err e) = refused_rehearsal (number_of e.refusal) e.place r

module _ (p : Panel) (r : Registers) (mem rom room frame : List ℕ) where
  -- a refusal changes nothing
  abbrev pub refusal : ℕ → ℕ → Rehearsal
  refusal n place = rehearsed_all (refused_rehearsal n place r) mem room frame

  -- the frame is the picture in the machine's phase; memory has its planes in the three areas and is else as it was; the room's start is the stream
  abbrev pub shown_of : List Operation → Rehearsal
  shown_of os =
      rehearsed_all
      (record {
        number = 0;
        place = 0;
        pairs = count_of p os;
        registers = (stopping_of p r mem rom (log_of (stream_of p os)) (count_of p os) []).ran.registers;
      })
      (holding p mem (picture_of p os))
      (sets room 0 (log_of (stream_of p os)))
      (picture_frame p rom (picture_of p os) r.display.phase)

  -- 9, 10, 11; 12 twice the pairs exceeds the room, with the pairs needed
  abbrev pub rehearse_screen : Screen → Rehearsal
  rehearse_screen (screen os) = cond (ltb (length room) (2 * count_of p os)) (refusal 12 (count_of p os)) (shown_of os)
  rehearse_screen (refused n place) = refusal n place

-- 1 panel or state not valid, 2 a lent fixed length wrong, then the screen
unfoldable pub rehearse_of : Panel → Registers → List ℕ → List ℕ → List ℕ → ℕ → List ℕ → List ℕ → Rehearsal
rehearse_of p r mem rom book number room frame =
    cond (valid_panel p && valid_registers r)
    (cond (lent_lengths mem rom && frame_fits p frame)
    (rehearse_screen p r mem rom room frame (screen_of p book number))
    (refusal p r mem rom room frame 2 0))
    (refusal p r mem rom room frame 1 0)

-- demand 3 outright, for the operations that the screen has
pub record Outright (p : Panel) (r : Registers) (mem rom book : List ℕ) (number : ℕ) (x : Rehearsed) (memory frame : List ℕ) : Type 0 where
  -- accepted: the frame is the picture in the machine's phase, the pairs are those stated
  pub picture : x.number ≡ 0 → (os : List Operation) → screen_of p book number ≡ screen os → frame ≡ picture_frame p rom (picture_of p os) r.display.phase
  pub pairs : x.number ≡ 0 → (os : List Operation) → screen_of p book number ≡ screen os → x.pairs ≡ count_of p os
  -- accepted or not: memory outside the areas is as it was
  pub outside : (i : ℕ) → in_areas p i ≡ false → get_or memory i 0 ≡ get_or mem i 0
