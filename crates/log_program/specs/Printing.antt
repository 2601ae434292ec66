-- 01, Bench points: what the log program prints.
use Rattle.std.specs.Prelude.{ℕ, ◌/◌, false, cond, ◌||◌, List, ◌++◌, eqb, length, take, drop}
use Rattle.ground.specs.Lists.{zeros}
use Rattle.state.specs.State.{reset_registers}
use Rattle.display.specs.Frame.{frame_of}
use Rattle.controller.specs.Types.{Panel}
use Rattle.controller.specs.declared.run.Ran.{Ran}
use Rattle.controller.specs.Run.{RanAll, stopping_of}
use Rattle.printed.specs.Text.{hex_lines}
use Rattle.printed.specs.Printed.{panel_in, characters, first_line, frame_lines, print_text, Reported}

-- then at most 16,384 log bytes; bytes past the limit are not used
abbrev pub log_in : List ℕ → List ℕ
log_in input = take 16384 (drop 3 input)

-- the log's whole pairs, from reset on zero memory; an answer buffer that always has room
unfoldable pub ran_in : List ℕ → RanAll
ran_in input =
    stopping_of (panel_in false input) reset_registers (zeros 65536) characters (log_in input) (length (log_in input) / 2) (zeros 8192)

-- the run's line
abbrev pub ran_line : Ran → List ℕ
ran_line a = first_line a.taken a.answers a.number a.place

-- refusals 1 and 8 print the first line only; else answers and frame follow
unfoldable pub text_of : Panel → List ℕ → RanAll → List ℕ
text_of p rom e =
    cond (eqb e.ran.number 1 || eqb e.ran.number 8) (ran_line e.ran)
    (ran_line e.ran ++ hex_lines e.ran.answers e.answers
    ++ frame_lines p (frame_of p e.ran.registers.display e.memory rom))

unfoldable pub log_text : List ℕ → List ℕ
log_text input = text_of (panel_in false input) characters (ran_in input)

-- lent: 196,608 bytes of text, which suffice; else nothing is printed, and the number is 2
unfoldable pub print_of : List ℕ → List ℕ → Reported
print_of input out =
    record {
      text = print_text (eqb (length out) 196608) (log_text input) out;
      number = cond (eqb (length out) 196608) (ran_in input).ran.number 2;
    }
