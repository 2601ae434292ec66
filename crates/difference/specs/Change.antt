-- 02, Req 14, and Numbers returned: what writing the short stream between two screens answers.
use Rattle.std.specs.Prelude.{ℕ, ◌*◌, cond, List, ltb, length}
use Rattle.std.proofs.lemmas.List.Edits.{sets}
use Rattle.state.specs.declared.panel.Panel.{Panel}
use Rattle.state.specs.State.{valid_panel}
use Rattle.controller.specs.Run.{log_of}
use Rattle.contents.specs.Replies.{Asked, Body, Refused}
use Rattle.contents.specs.Asked.{asked_of}
use Rattle.book.specs.Screen.{Screen, screen, refused, screen_of}
use Rattle.writer.specs.Written.{Wrote, wrote}
use Rattle.picture.specs.Picture.{Picture, picture_of}
use Rattle.difference.specs.Short.{short_over, count_over}

-- 12 twice the pairs exceeds the room, with the pairs needed; else the stream fills the room's start, the rest unchanged
unfoldable pub write_short : Panel → List ℕ → List ℕ → List ℕ → Picture → List ℕ → Wrote
write_short p g t h b room =
    cond (ltb (length room) (2 * count_over g t h b))
    (wrote 12 (count_over g t h b) 0 room)
    (wrote 0 0 (count_over g t h b) (sets room 0 (log_of (short_over p g t h b))))

-- 11 for B
abbrev pub change_to : Panel → List ℕ → List ℕ → List ℕ → List ℕ → Screen → Wrote
change_to p room g t h (screen qs) = write_short p g t h (picture_of p qs) room
change_to p room g t h (refused n place) = wrote n place 0 room

-- 11 for A, before it
abbrev pub change_screens : Panel → List ℕ → Screen → Screen → Wrote
change_screens p room (screen os) s = change_to p room (picture_of p os).graphic (picture_of p os).codes (picture_of p os).glyphs s
change_screens p room (refused n place) s = wrote n place 0 room

-- a screen that was not found
abbrev pub unless_asked : List ℕ → Asked → Wrote → Wrote
unless_asked room (Body start end) on = on
unless_asked room (Refused n place) on = wrote n place 0 room

-- 1 panel not valid, 9, 10 for A then B, 11 for A then B, 12
unfoldable pub change_of : Panel → List ℕ → ℕ → ℕ → List ℕ → Wrote
change_of p book a b room =
    cond (valid_panel p)
    (unless_asked room (asked_of book a)
    (unless_asked room (asked_of book b)
    (change_screens p room (screen_of p book a) (screen_of p book b))))
    (wrote 1 0 0 room)
