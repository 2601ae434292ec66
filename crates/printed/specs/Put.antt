-- Text put into a lent room.
use Rattle.std.specs.Prelude.{◌≡◌, List, ℕ, ◌+◌, ◌≤◌, length}
use Rattle.std.proofs.lemmas.List.Edits.{sets}
use Rattle.printed.specs.declared.put.Text.{Text}

-- b is the room a with the text from place i on, unchanged elsewhere, and e is the place after it
pub record TextPut (a : List ℕ) (i : ℕ) (text : List ℕ) (b : List ℕ) (e : ℕ) : Type 0 where
  pub holds : b ≡ sets a i text
  pub ends : e ≡ i + length text

-- b is the text a with more put behind it, in the same room
pub record Puts (a : Text) (more : List ℕ) (b : Text) : Type 0 where
  pub put : TextPut a.room.now a.at more b.room.now b.at
  pub kept : length b.room.now ≡ length a.room.now
  pub same_room : b.room.ghost_name ≡ a.room.ghost_name

-- room for n characters behind a text
abbrev pub RoomFor : ℕ → Text → Type 0
RoomFor n a = a.at + n ≤ length a.room.now
