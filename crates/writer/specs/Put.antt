-- Pairs put behind a stream.
use Rattle.std.specs.Prelude.{◌≡◌, true, List, [], ℕ, ◌+◌, ◌-◌, ◌*◌, ◌≤◌, length}
use Rattle.std.proofs.lemmas.List.Edits.{sets}
use Rattle.state.specs.declared.panel.Panel.{Panel}
use Rattle.state.specs.State.{valid_panel}
use Rattle.controller.specs.Access.{Pair}
use Rattle.controller.specs.Run.{log_of}
use Rattle.book.specs.Operation.{Operation, body_count}
use Rattle.book.specs.Screen.{Screen, screen, refused, operations_from}
use Rattle.writer.specs.declared.put.Stream.{Stream}

-- b is the stream a with the pairs behind it, the room unchanged elsewhere
pub record Puts (a : Stream) (ps : List Pair) (b : Stream) : Type 0 where
  pub holds : b.room.now ≡ sets a.room.now a.at (log_of ps)
  pub ends : b.at ≡ a.at + 2 * length ps
  pub kept : length b.room.now ≡ length a.room.now
  pub same_room : b.room.ghost_name ≡ a.room.ghost_name

-- room for n pairs behind a stream
abbrev pub RoomFor : ℕ → Stream → Type 0
RoomFor n a = a.at + 2 * n ≤ length a.room.now

-- a valid panel, an operation in its range, and room for its pairs
pub record Roomy (p : Panel) (Range : Type 0) (n : ℕ) (a : Stream) : Type 0 where
  pub valid : valid_panel p ≡ true
  pub range : Range
  pub fits : RoomFor n a

-- the operations of a screen, none where it was refused
abbrev pub operations_in : Screen → List Operation
operations_in (screen os) = os
operations_in (refused n place) = []

-- a body on a valid panel, none of its operations faulty, with room for their pairs
pub record WritableBody (p : Panel) (book : List ℕ) (start end : ℕ) (a : Stream) : Type 0 where
  pub panel : valid_panel p ≡ true
  pub os : List Operation
  pub operations : operations_from (end - start) p book start end ≡ screen os
  pub fits : RoomFor (body_count os) a
