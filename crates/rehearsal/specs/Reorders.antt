-- 02, Req 13: two neighbours in a screen change places, and nothing shows.
use Rattle.std.specs.Prelude.{◌≡◌, Bool, true, List, ◌∷◌, ◌++◌, ℕ, ◌*◌, ◌<◌, ◌≤◌, length, get_or, take}
use Rattle.state.specs.declared.panel.Panel.{Panel}
use Rattle.state.specs.declared.registers.Registers.{Registers}
use Rattle.state.specs.State.{valid_panel, valid_registers}
use Rattle.controller.specs.Run.{stopping_of}
use Rattle.book.specs.Operation.{Operation}
use Rattle.book.specs.Screen.{screen, screen_of}
use Rattle.order.specs.Order.{Free}
use Rattle.writer.specs.Stream.{count_of}
use Rattle.writer.specs.Written.{write_of}
use Rattle.picture.specs.Picture.{picture_of, picture_frame}

-- the bytes in all memory after the written stream of a screen, run from these registers and this memory
abbrev pub memory_after : Panel → List ℕ → ℕ → List Operation → List ℕ → Registers → List ℕ → List ℕ → ℕ → List ℕ → List ℕ
memory_after p book number os room r mem rom limit answers =
    (stopping_of p r mem rom (take (2 * count_of p os) (write_of p book number room).room) limit answers).memory

-- screens of two books: one picture, as many pairs, and on one controller the same 65,536 bytes, whatever rooms and buffers are lent
pub record Unseen (p : Panel) (one two : List ℕ) (m n : ℕ) (os qs : List Operation) : Type 0 where
  pub picture : picture_of p os ≡ picture_of p qs
  pub frame : (rom : List ℕ) (phase : Bool) → picture_frame p rom (picture_of p os) phase ≡ picture_frame p rom (picture_of p qs) phase
  pub count : count_of p os ≡ count_of p qs
  pub memory : (room another : List ℕ) (r : Registers) (mem rom answers others : List ℕ) (limit : ℕ)
      → 2 * count_of p os ≤ length room
      → 2 * count_of p os ≤ length another
      → valid_registers r ≡ true
      → length mem ≡ 65536
      → length rom ≡ 1024
      → count_of p os ≤ limit
      → memory_after p one m os room r mem rom limit answers ≡ memory_after p two n qs another r mem rom limit others

-- for all operations before and behind them
abbrev pub Reorders : Type 0
Reorders =
    (p : Panel) (one two : List ℕ) (m n : ℕ) (os ps : List Operation) (a b : Operation)
    → ((i : ℕ) → get_or one i 0 < 256)
    → ((i : ℕ) → get_or two i 0 < 256)
    → valid_panel p ≡ true
    → screen_of p one m ≡ screen (os ++ (a ∷ b ∷ ps))
    → screen_of p two n ≡ screen (os ++ (b ∷ a ∷ ps))
    → Free p a b
    → Unseen p one two m n (os ++ (a ∷ b ∷ ps)) (os ++ (b ∷ a ∷ ps))
