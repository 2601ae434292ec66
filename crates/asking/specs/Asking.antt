-- 02, Req 02: a second writer adds a status read before each write, and each pair count doubles.
use Rattle.std.specs.Prelude.{ℕ, ◌*◌, cond, List, [], ◌∷◌, ltb, length}
use Rattle.std.proofs.lemmas.List.Edits.{sets}
use Rattle.state.specs.declared.panel.Panel.{Panel}
use Rattle.state.specs.State.{valid_panel}
use Rattle.controller.specs.Access.{Pair}
use Rattle.controller.specs.Run.{log_of}
use Rattle.book.specs.Screen.{Screen, screen, refused, screen_of}
use Rattle.writer.specs.Stream.{stream_of, count_of}
use Rattle.writer.specs.Written.{Wrote, wrote}

-- a status read, its byte 00H
abbrev pub status_pair : Pair
status_pair = record { kind = 3; byte = 0x00 }

-- one before each pair
unfoldable pub asked_pairs : List Pair → List Pair
asked_pairs [] = []
asked_pairs (q ∷ qs) = status_pair ∷ q ∷ asked_pairs qs

-- 12 twice the doubled pairs exceeds the room, with the doubled pairs needed; else the stream fills the room's start, the rest unchanged
abbrev pub ask_screen : Panel → List ℕ → Screen → Wrote
ask_screen p room (screen os) =
    cond (ltb (length room) (4 * count_of p os))
    (wrote 12 (2 * count_of p os) 0 room)
    (wrote 0 0 (2 * count_of p os) (sets room 0 (log_of (asked_pairs (stream_of p os)))))
ask_screen p room (refused n place) = wrote n place 0 room

-- 1 panel not valid, then 9, 10, 11, 12
unfoldable pub asking_of : Panel → List ℕ → ℕ → List ℕ → Wrote
asking_of p book number room = cond (valid_panel p) (ask_screen p room (screen_of p book number)) (wrote 1 0 0 room)
