-- 01, Screens, and Numbers returned: what writing a screen answers.
use Rattle.std.specs.Prelude.{ℕ, ◌*◌, cond, List, ltb, length, Result, Ok, Err}
use Rattle.std.proofs.lemmas.List.Edits.{sets}
use Rattle.state.specs.declared.panel.Panel.{Panel}
use Rattle.state.specs.State.{valid_panel}
use Rattle.state.specs.declared.refusal.Refused.{Refused}
use Rattle.state.specs.Refusals.{number_of}
use Rattle.controller.specs.Run.{log_of}
use Rattle.book.specs.Screen.{Screen, screen, refused, screen_of}
use Rattle.writer.specs.Stream.{stream_of, count_of}

-- a number and place, and the pairs written
pub record Written : Type 0 where
  pub number : ℕ
  pub place : ℕ
  pub pairs : ℕ

-- read from a result
abbrev pub written_reply : Result ℕ Refused → Written
written_reply (Ok n) = record { number = 0; place = 0; pairs = n }
written_reply (Err e) = record { number = number_of e.refusal; place = e.place; pairs = 0 }

-- the operations of a body have no more pairs: 21,760 for each byte of a book
abbrev pub most_of_body : ℕ
most_of_body = 713031680

-- the pairs of a screen's stream
abbrev pub count_screen : Panel → Screen → Written
count_screen p (screen os) = record { number = 0; place = 0; pairs = count_of p os }
count_screen p (refused n place) = record { number = n; place = place; pairs = 0 }

-- 1 panel not valid, then 9, 10, 11
unfoldable pub counted_screen : Panel → List ℕ → ℕ → Written
counted_screen p book number = cond (valid_panel p) (count_screen p (screen_of p book number)) (record { number = 1; place = 0; pairs = 0 })

-- a reply, and the room then
pub record Wrote : Type 0 where
  pub written : Written
  pub room : List ℕ

abbrev pub wrote_all : Written → List ℕ → Wrote
wrote_all written room = record { written = written; room = room }

abbrev pub wrote : ℕ → ℕ → ℕ → List ℕ → Wrote
wrote n place pairs room = record { written = record { number = n; place = place; pairs = pairs }; room = room }

-- 12 twice the pairs exceeds the room, with the pairs needed; else the stream fills the room's start, the rest unchanged
abbrev pub write_screen : Panel → List ℕ → Screen → Wrote
write_screen p room (screen os) =
    cond (ltb (length room) (2 * count_of p os))
    (wrote 12 (count_of p os) 0 room)
    (wrote 0 0 (count_of p os) (sets room 0 (log_of (stream_of p os))))
write_screen p room (refused n place) = wrote n place 0 room

-- 1 panel not valid, then 9, 10, 11, 12
unfoldable pub write_of : Panel → List ℕ → ℕ → List ℕ → Wrote
write_of p book number room = cond (valid_panel p) (write_screen p room (screen_of p book number)) (wrote 1 0 0 room)
