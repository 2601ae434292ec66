-- What each export answers, and what it leaves in the buffers that it may write.
use Rattle.std.specs.Prelude.{ℕ, ◌+◌, ◌*◌, true, cond, List, eqb, length}
use Rattle.ground.specs.Bytes.{word_of}
use Rattle.state.specs.State.{reset_registers}
use Rattle.sight.specs.Answered.{Seen}
use Rattle.display.specs.Frame.{Painted, paint_of}
use Rattle.sight.specs.Seen.{layers_of}
use Rattle.controller.specs.Access.{Pair, Accessed, access_of}
use Rattle.controller.specs.Run.{RanAll, stopping_of}
use Rattle.controller.specs.Skip.{RanOnAll, run_of}
use Rattle.boundary.specs.Types.{Panel, Entry, State, Refused}
use Rattle.image.specs.Image.{bytes_of}
use Rattle.image.specs.Door.{door_of, kept_of, counts_of, counts_on_of}

-- an access
pub record AccessEnd : Type 0 where
  pub result : ℕ
  pub registers : List ℕ
  pub memory : List ℕ

abbrev pub access_end : ℕ → List ℕ → List ℕ → AccessEnd
access_end n registers memory = record { result = n; registers = registers; memory = memory }

-- the number in the low byte, the byte read in the high one
abbrev pub access_done : List ℕ → Accessed → AccessEnd
access_done b o =
    access_end (word_of o.acted.number o.acted.answer) (kept_of o.acted.number o.acted.registers b) o.memory

abbrev pub access_by : Entry → Panel → List ℕ → List ℕ → List ℕ → Pair → AccessEnd
access_by (State r) p b mem rom q = access_done b (access_of p r mem rom q)
access_by (Refused n) p b mem rom q = access_end n b mem

unfoldable pub access_bytes : Panel → List ℕ → List ℕ → List ℕ → Pair → AccessEnd
access_bytes p b mem rom q = access_by (door_of p true b) p b mem rom q

-- a run that stops
pub record RunEnd : Type 0 where
  pub number : ℕ
  pub registers : List ℕ
  pub memory : List ℕ
  pub answers : List ℕ
  pub counts : List ℕ

abbrev pub run_end : ℕ → List ℕ → List ℕ → List ℕ → List ℕ → RunEnd
run_end n registers memory answers counts =
    record { number = n; registers = registers; memory = memory; answers = answers; counts = counts }

abbrev pub stopping_done : List ℕ → List ℕ → RanAll → RunEnd
stopping_done b k o =
    run_end o.ran.number (kept_of o.ran.number o.ran.registers b) o.memory o.answers
    (counts_of o.ran.number o.ran.place o.ran.taken o.ran.answers k)

abbrev pub stopping_by : Entry → Panel → List ℕ → List ℕ → List ℕ → List ℕ → ℕ → List ℕ → List ℕ → RunEnd
stopping_by (State r) p b mem rom log limit answers k = stopping_done b k (stopping_of p r mem rom log limit answers)
stopping_by (Refused n) p b mem rom log limit answers k = run_end n b mem answers k

-- the counts are exactly three
unfoldable pub stopping_bytes : Panel → List ℕ → List ℕ → List ℕ → List ℕ → ℕ → List ℕ → List ℕ → RunEnd
stopping_bytes p b mem rom log limit answers k =
    stopping_by (door_of p (eqb (length k) 3) b) p b mem rom log limit answers k

-- the ordinary run (02, Req 09)
pub record RunOnEnd : Type 0 where
  pub number : ℕ
  pub registers : List ℕ
  pub memory : List ℕ
  pub answers : List ℕ
  pub skips : List ℕ
  pub counts : List ℕ

abbrev pub run_on_end : ℕ → List ℕ → List ℕ → List ℕ → List ℕ → List ℕ → RunOnEnd
run_on_end n registers memory answers skips counts =
    record { number = n; registers = registers; memory = memory; answers = answers; skips = skips; counts = counts }

abbrev pub run_on_done : List ℕ → List ℕ → RanOnAll → RunOnEnd
run_on_done b k o =
    run_on_end o.all.ran.number (kept_of o.all.ran.number o.all.ran.registers b) o.all.memory o.all.answers o.skips
    (counts_on_of o.all.ran.number o.all.ran.place o.all.ran.taken o.all.ran.answers o.skipped k)

abbrev pub run_on_by : Entry → Panel → List ℕ → List ℕ → List ℕ → List ℕ → ℕ → List ℕ → List ℕ → List ℕ → RunOnEnd
run_on_by (State r) p b mem rom log limit answers skips k = run_on_done b k (run_of p r mem rom log limit answers skips)
run_on_by (Refused n) p b mem rom log limit answers skips k = run_on_end n b mem answers skips k

-- the counts are exactly four
unfoldable pub run_on_bytes : Panel → List ℕ → List ℕ → List ℕ → List ℕ → ℕ → List ℕ → List ℕ → List ℕ → RunOnEnd
run_on_bytes p b mem rom log limit answers skips k =
    run_on_by (door_of p (eqb (length k) 4) b) p b mem rom log limit answers skips k

-- a frame
pub record PaintEnd : Type 0 where
  pub number : ℕ
  pub frame : List ℕ

abbrev pub paint_end : ℕ → List ℕ → PaintEnd
paint_end n frame = record { number = n; frame = frame }

abbrev pub paint_done : Painted → PaintEnd
paint_done o = paint_end o.reply.number o.frame

abbrev pub paint_by : Entry → Panel → List ℕ → List ℕ → List ℕ → PaintEnd
paint_by (State r) p mem rom frame = paint_done (paint_of p r mem rom frame)
paint_by (Refused n) p mem rom frame = paint_end n frame

unfoldable pub paint_bytes : Panel → List ℕ → List ℕ → List ℕ → List ℕ → PaintEnd
paint_bytes p b mem rom frame = paint_by (door_of p true b) p mem rom frame

-- the layers of a cell row: the number in the low byte, then text, graphic and what comes of them (02, Req 07)
abbrev pub layers_word : ℕ → ℕ → ℕ → ℕ → ℕ
layers_word number text graphic shown = number + 256 * text + 65536 * graphic + 16777216 * shown

abbrev pub layers_done : Seen → ℕ
layers_done s = layers_word s.number s.text s.graphic s.shown

abbrev pub layers_by : Entry → Panel → List ℕ → List ℕ → ℕ → ℕ → ℕ
layers_by (State r) p mem rom row column = layers_done (layers_of p r.display mem rom row column)
layers_by (Refused n) p mem rom row column = layers_word n 0 0 0

unfoldable pub layers_bytes : Panel → List ℕ → List ℕ → List ℕ → ℕ → ℕ → ℕ
layers_bytes p b mem rom row column = layers_by (door_of p true b) p mem rom row column

-- a reset
pub record ResetEnd : Type 0 where
  pub number : ℕ
  pub registers : List ℕ

abbrev pub reset_end : ℕ → List ℕ → ResetEnd
reset_end n registers = record { number = n; registers = registers }

-- 2 for registers of another length than 25, which stay
unfoldable pub reset_bytes : List ℕ → ResetEnd
reset_bytes b = cond (eqb (length b) 25) (reset_end 0 (bytes_of reset_registers)) (reset_end 2 b)
