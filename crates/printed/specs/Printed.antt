-- 01, Bench points: the input, the characters and the lines that programs print.
use Rattle.std.specs.Prelude.{ℕ, ◌+◌, ◌*◌, ◌/◌, ◌%◌, Bool, cond, List, ◌++◌, length, get_or, drop}
use Rattle.ground.specs.Lists.{build, joined}
use Rattle.ground.specs.Packing.{row_bytes}
use Rattle.state.specs.declared.panel.Panel.{Panel}
use Rattle.printed.specs.declared.told.Told.{Told}
use Rattle.printed.specs.Text.{ascii, newline, decimal, dot_line}

-- C, L, w; a missing panel byte counts as 0; whether it is in two halves is no byte of the input (02, Req 08)
abbrev pub panel_in : Bool → List ℕ → Panel
panel_in dual input = record { columns = get_or input 0 0; lines = get_or input 1 0; width = get_or input 2 0; dual = dual }

-- row v of code k is (k+v) mod 256
abbrev pub character_row : ℕ → ℕ
character_row i = (i / 8 + i % 8) % 256

unfoldable pub characters : List ℕ
characters = build 1024 character_row

-- refusal and place
unfoldable pub refusal_line : ℕ → ℕ → List ℕ
refusal_line number place = ascii "refusal " ++ decimal number ++ (ascii " place " ++ decimal place) ++ newline

-- pairs taken, answers, refusal, place
unfoldable pub first_line : ℕ → ℕ → ℕ → ℕ → List ℕ
first_line pairs answers number place =
    ascii "pairs " ++ decimal pairs ++ (ascii " answers " ++ decimal answers) ++ ascii " " ++ refusal_line number place

-- row r of a frame as C·w dots
abbrev pub frame_line : Panel → List ℕ → ℕ → List ℕ
frame_line p frame r = dot_line frame (r * row_bytes p.columns p.width) (p.columns * p.width)

unfoldable pub frame_lines : Panel → List ℕ → List ℕ
frame_lines p frame = joined (8 * p.lines) (frame_line p frame)

-- the bytes of text, and the lent room for it
pub record Printed : Type 0 where
  pub count : ℕ
  pub out : List ℕ

abbrev pub printed : ℕ → List ℕ → Printed
printed count out = record { count = count; out = out }

-- the room's start is the text, its rest as it was; with a lent length wrong nothing is printed
abbrev pub print_text : Bool → List ℕ → List ℕ → Printed
print_text lent text out = cond lent (printed (length text) (text ++ drop (length text) out)) (printed 0 out)

-- a program's reply: its text in the lent room, and the refusal number that it tells
pub record Reported : Type 0 where
  pub text : Printed
  pub number : ℕ

abbrev pub reported : Told → List ℕ → Reported
reported r out = record { text = printed r.count out; number = r.number }
