-- What the write program gives, of every byte that it reads.
use Rattle.std.specs.Prelude.{Bool, cond, ◌&&◌, List, [], ◌∷◌, ℕ, ◌*◌, ltb, eqb, length, drop, Result, Ok, Err}
use Rattle.state.specs.declared.panel.Panel.{Panel}
use Rattle.state.specs.State.{valid_panel}
use Rattle.controller.specs.Run.{log_of}
use Rattle.contents.specs.Contents.{word_at}
use Rattle.book.specs.Screen.{Screen, screen, refused, screen_of}
use Rattle.writer.specs.Stream.{stream_of, count_of}
use Rattle.printed.specs.Printed.{panel_in, refusal_line, Printed, printed, print_text}
use Rattle.state.specs.Refusals.{number_of}
use Rattle.write.specs.declared.Told.{Told}

-- what goes to standard output, what to standard error, and the refusal number
pub record Given : Type 0 where
  pub output : List ℕ
  pub error : List ℕ
  pub number : ℕ

abbrev pub refusal_alone : ℕ → ℕ → Given
refusal_alone n place = record { output = []; error = refusal_line n place; number = n }

-- C, L, w and the screen's stream, or a refusal's line; 12 where a room of 2,097,152 bytes is too short for the stream
abbrev pub written : Panel → Screen → Given
written p (screen os) =
    cond (ltb 2097152 (2 * count_of p os))
    (refusal_alone 12 (count_of p os))
    (record { output = p.columns ∷ p.lines ∷ p.width ∷ log_of (stream_of p os); error = []; number = 0 })
written p (refused n place) = refusal_alone n place

-- C, L, w, key, book: 1 where the panel is not valid, then what the screen comes to
unfoldable pub write_given : Bool → List ℕ → Given
write_given dual input =
    written (panel_in dual input)
    (cond (valid_panel (panel_in dual input)) (screen_of (panel_in dual input) (drop 5 input) (word_at input 3)) (refused 1 0))

-- the bytes given, and the lent rooms for them
pub record Both : Type 0 where
  pub output : Printed
  pub error : Printed
  pub number : ℕ

-- how many bytes go to standard output and to standard error, and the refusal number
pub record Lengths : Type 0 where
  pub output : ℕ
  pub error : ℕ
  pub number : ℕ

-- read from a result
abbrev pub lengths : Result ℕ Told → Lengths
lengths (Ok n) = record { output = n; error = 0; number = 0 }
lengths (Err t) = record { output = 0; error = t.line; number = number_of t.refusal }

abbrev pub given_in : Lengths → List ℕ → List ℕ → Both
given_in n out error = record { output = printed n.output out; error = printed n.error error; number = n.number }

-- each at the start of its room; nothing, and 2, where a lent length is wrong
abbrev pub both_of : Bool → Given → List ℕ → List ℕ → Both
both_of lent g out error =
    record { output = print_text lent g.output out; error = print_text lent g.error error; number = cond lent g.number 2 }

-- lent: 3 bytes and the stream's room for the output, 196,608 for the line
unfoldable pub write_given_of : Bool → List ℕ → List ℕ → List ℕ → Both
write_given_of dual input out error = both_of (eqb (length out) 2097155 && eqb (length error) 196608) (write_given dual input) out error
