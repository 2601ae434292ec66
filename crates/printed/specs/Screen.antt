-- What the programs over a book print of a screen.
use Rattle.std.specs.Prelude.{ℕ, Bool, true, cond, ◌&&◌, List, [], ◌++◌, eqb, length}
use Rattle.state.specs.State.{valid_panel}
use Rattle.state.specs.Sizes.{frame_fits}
use Rattle.state.specs.declared.panel.Panel.{Panel}
use Rattle.printed.specs.Printed.{refusal_line, first_line, frame_lines, Printed, print_text}

-- the rows of a screen that was not refused
abbrev pub screen_lines : Panel → ℕ → List ℕ → List ℕ
screen_lines p number frame = cond (eqb number 0) (frame_lines p frame) []

-- a picture: refusal and place, then its rows
unfoldable pub picture_text : Panel → ℕ → ℕ → List ℕ → List ℕ
picture_text p number place frame = refusal_line number place ++ screen_lines p number frame

-- a screen written and run: the log program's first line, no pair of it answered, then the rows
unfoldable pub rehearsal_text : Panel → ℕ → ℕ → ℕ → List ℕ → List ℕ
rehearsal_text p pairs number place frame = first_line pairs 0 number place ++ screen_lines p number frame

-- a screen that was not refused has a valid panel and its frame
abbrev pub framed : Panel → ℕ → List ℕ → Bool
framed p number frame = cond (eqb number 0) (valid_panel p && frame_fits p frame) true

-- lent: 196,608 bytes of text, which suffice
abbrev pub lent_screen : Panel → ℕ → List ℕ → List ℕ → Bool
lent_screen p number frame out = framed p number frame && eqb (length out) 196608

unfoldable pub print_picture_of : Panel → ℕ → ℕ → List ℕ → List ℕ → Printed
print_picture_of p number place frame out = print_text (lent_screen p number frame out) (picture_text p number place frame) out

unfoldable pub print_rehearsal_of : Panel → ℕ → ℕ → ℕ → List ℕ → List ℕ → Printed
print_rehearsal_of p pairs number place frame out = print_text (lent_screen p number frame out) (rehearsal_text p pairs number place frame) out
