-- What is refused before the controller is asked, and what is written back after.
use Rattle.std.specs.Prelude.{ℕ, Bool, cond, ◌&&◌, ◌||◌, List, [], ◌∷◌, leb, eqb, length}
use Rattle.state.specs.State.{valid_panel, valid_registers}
pub use Rattle.image.specs.Types.{entry}
use Rattle.image.specs.Types.{Panel, Registers, Entry, State, Refused}
use Rattle.image.specs.Image.{bytes_of, replaced, readable, state_of}

-- the marker is 0 for a single panel, 1 for one in two halves (02, Req 08); another leaves no lines, so that 1 refuses it
abbrev pub panel_of : ℕ → ℕ → ℕ → ℕ → Panel
panel_of columns lines width dual = record { columns = columns; lines = cond (leb dual 1) lines 0; width = width; dual = eqb dual 1 }

-- 1 panel not valid; 2 registers of another length than 25, which can't be read; 1 bytes that are no registers, or no valid ones;
-- 2 another buffer not as lent
unfoldable pub door_of : Panel → Bool → List ℕ → Entry
door_of p lent b =
    cond (valid_panel p)
    (cond (eqb (length b) 25)
    (cond (readable b && valid_registers (state_of b)) (cond lent (State (state_of b)) (Refused 2)) (Refused 1))
    (Refused 2))
    (Refused 1)

-- on 1 and 2 nothing is written
abbrev pub closes : ℕ → Bool
closes n = eqb n 1 || eqb n 2

-- a buffer after: as it was on 1 and 2
abbrev pub written_of : ℕ → List ℕ → List ℕ → List ℕ
written_of n new old = cond (closes n) old (replaced new old)

-- the registers buffer
abbrev pub kept_of : ℕ → Registers → List ℕ → List ℕ
kept_of n r b = written_of n (bytes_of r) b

-- the counts buffer: place, pairs taken, answers written; of an ordinary run the pairs listed too
abbrev pub counts_of : ℕ → ℕ → ℕ → ℕ → List ℕ → List ℕ
counts_of n place taken answers k = written_of n (place ∷ taken ∷ answers ∷ []) k

abbrev pub counts_on_of : ℕ → ℕ → ℕ → ℕ → ℕ → List ℕ → List ℕ
counts_on_of n place taken answers skipped k = written_of n (place ∷ taken ∷ answers ∷ skipped ∷ []) k

-- of a list of stores: place, entries listed
abbrev pub list_counts_of : ℕ → ℕ → ℕ → List ℕ → List ℕ
list_counts_of n place entries k = written_of n (place ∷ entries ∷ []) k
