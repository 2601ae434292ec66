-- What the draw program prints, of every byte that it reads.
use Rattle.std.specs.Prelude.{◌≡◌, Bool, true, cond, not, ◌&&◌, List, ◌++◌, ℕ, eqb, length, get_or, drop}
use Rattle.state.specs.declared.panel.Panel.{Panel}
use Rattle.state.specs.State.{valid_panel}
use Rattle.display.specs.Frame.{frame_fits}
use Rattle.contents.specs.Contents.{word_at}
use Rattle.book.specs.Screen.{Screen, screen, refused, screen_of}
use Rattle.book.specs.Numbers.{screen_number}
use Rattle.picture.specs.Picture.{picture_of, picture_frame}
use Rattle.painter.specs.Drawn.{planes_fit}
use Rattle.printed.specs.Printed.{panel_in, refusal_line, frame_lines, Reported, print_text}

-- the fifth byte: 0 is off, any other normal
abbrev pub phase_in : List ℕ → Bool
phase_in input = not (eqb (get_or input 5 0) 0)

-- the refusal line, and with refusal 0 the rows of the screen's picture in that phase
abbrev pub drawn : Panel → List ℕ → Bool → Screen → List ℕ
drawn p rom normal (screen os) = refusal_line 0 0 ++ frame_lines p (picture_frame p rom (picture_of p os) normal)
drawn p rom normal (refused n place) = refusal_line n place

-- C, L, w, key, phase, book: 1 where the panel is not valid, then what the screen comes to
abbrev pub screen_to_draw : Bool → List ℕ → Screen
screen_to_draw dual input =
    cond (valid_panel (panel_in dual input)) (screen_of (panel_in dual input) (drop 6 input) (word_at input 3)) (refused 1 0)

unfoldable pub draw_text : Bool → List ℕ → List ℕ → List ℕ
draw_text dual rom input = drawn (panel_in dual input) rom (phase_in input) (screen_to_draw dual input)

-- lent: 196,608 bytes of text, which suffice; the number is the screen's
unfoldable pub draw_text_of : Bool → List ℕ → List ℕ → List ℕ → Reported
draw_text_of dual rom input out =
    record { text = print_text (eqb (length out) 196608) (draw_text dual rom input) out; number = screen_number (screen_to_draw dual input) }

-- a valid panel's ROM, planes and frame: what an inner routine rests on
pub record PlanesCut (p : Panel) (rom graphic codes glyphs frame : List ℕ) : Type 0 where
  pub fits : valid_panel p ≡ true → (planes_fit p rom graphic codes glyphs && frame_fits p frame) ≡ true
