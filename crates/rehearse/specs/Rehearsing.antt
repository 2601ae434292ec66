-- What the rehearse program prints, of every byte that it reads.
use Rattle.std.specs.Prelude.{Bool, true, cond, List, ◌++◌, ℕ, ◌*◌, ltb, eqb, length, drop}
use Rattle.state.specs.declared.panel.Panel.{Panel}
use Rattle.state.specs.State.{valid_panel}
use Rattle.contents.specs.Contents.{word_at}
use Rattle.book.specs.Screen.{Screen, screen, refused, screen_of}
use Rattle.writer.specs.Stream.{count_of}
use Rattle.picture.specs.Picture.{picture_of, picture_frame}
use Rattle.printed.specs.Printed.{panel_in, first_line, frame_lines, Reported, print_text}

-- the log program's first line with the pairs run, none of them answered, and with refusal 0 the rows of the screen's picture, the
-- phase being normal at reset; 12 where a room of 2,097,152 bytes is too short for the stream
abbrev pub rehearsed : Panel → List ℕ → Screen → List ℕ
rehearsed p rom (screen os) =
    cond (ltb 2097152 (2 * count_of p os))
    (first_line 0 0 12 (count_of p os))
    (first_line (count_of p os) 0 0 0 ++ frame_lines p (picture_frame p rom (picture_of p os) true))
rehearsed p rom (refused n place) = first_line 0 0 n place

-- a screen's refusal, likewise
abbrev pub rehearsed_number : Panel → Screen → ℕ
rehearsed_number p (screen os) = cond (ltb 2097152 (2 * count_of p os)) 12 0
rehearsed_number p (refused n place) = n

-- C, L, w, key, book: 1 where the panel is not valid, then what the screen comes to
abbrev pub screen_to_run : Bool → List ℕ → Screen
screen_to_run dual input =
    cond (valid_panel (panel_in dual input)) (screen_of (panel_in dual input) (drop 5 input) (word_at input 3)) (refused 1 0)

unfoldable pub rehearse_text : Bool → List ℕ → List ℕ → List ℕ
rehearse_text dual rom input = rehearsed (panel_in dual input) rom (screen_to_run dual input)

-- lent: 196,608 bytes of text, which suffice; the number is the screen's
unfoldable pub rehearse_text_of : Bool → List ℕ → List ℕ → List ℕ → Reported
rehearse_text_of dual rom input out =
    record {
      text = print_text (eqb (length out) 196608) (rehearse_text dual rom input) out;
      number = rehearsed_number (panel_in dual input) (screen_to_run dual input);
    }
