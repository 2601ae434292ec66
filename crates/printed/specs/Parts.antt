-- A run's text in parts.
use Rattle.std.specs.Prelude.{ℕ, ◌/◌, ◌&&◌, List, leb, length}
use Rattle.state.specs.State.{valid_panel}
use Rattle.state.specs.Sizes.{frame_fits}
use Rattle.state.specs.declared.panel.Panel.{Panel}
use Rattle.printed.specs.Text.{hex_lines}
use Rattle.printed.specs.Printed.{refusal_line, first_line, frame_lines, Printed, print_text}

-- lent: 112 bytes, which suffice
unfoldable pub print_line_of : ℕ → ℕ → ℕ → ℕ → List ℕ → Printed
print_line_of pairs answers number place out = print_text (leb 112 (length out)) (first_line pairs answers number place) out

-- lent: 56 bytes, which suffice
unfoldable pub print_refusal_of : ℕ → ℕ → List ℕ → Printed
print_refusal_of number place out = print_text (leb 56 (length out)) (refusal_line number place) out

-- lent: the answers, and three bytes for each
unfoldable pub print_answers_of : ℕ → List ℕ → List ℕ → Printed
print_answers_of given answers out =
    print_text (leb given (length answers) && leb given (length out / 3)) (hex_lines given answers) out

-- lent: a frame of its panel's length, 164,096 bytes of text, which suffice
unfoldable pub print_rows_of : Panel → List ℕ → List ℕ → Printed
print_rows_of p frame out = print_text (valid_panel p && frame_fits p frame && leb 164096 (length out)) (frame_lines p frame) out
