-- 02, Req 05: the flags of the rows that some addresses touch, or of all rows.
use Rattle.std.specs.Prelude.{ℕ, ◌*◌, Bool, cond, ◌&&◌, ◌||◌, List, length, ◌==◌, slice_index}
use Rattle.ground.specs.Lists.{build}
use Rattle.state.specs.State.{valid_panel, valid_display}
use Rattle.display.specs.Flagged.{flags_fit}
use Rattle.touch.specs.Types.{Panel, Display}
use Rattle.touch.specs.Touch.{touched_by}

-- flags are only ever set
abbrev pub set_where : Panel → (ℕ → Bool) → List ℕ → List ℕ
set_where p test flags = build (8 * p.lines) (λ r. cond (test r) 1 (slice_index flags r))

-- by the memory after the stores alone: where a text code changes, its line is flagged already
unfoldable pub marked_of : Panel → Display → List ℕ → ℕ → ℕ → Bool → List ℕ → List ℕ
marked_of p d mem at n altered flags = set_where p (λ r. altered || touched_by p d mem at n r) flags

-- asked of anything: what is not valid or has another length marks nothing
abbrev pub marks_of : Panel → Display → List ℕ → ℕ → ℕ → Bool → List ℕ → List ℕ
marks_of p d mem at n altered flags =
    cond (valid_panel p) (cond (valid_display d && length mem == 65536 && flags_fit p flags) (marked_of p d mem at n altered flags) flags) flags
