-- Demand 3: a written screen, run on any controller, shows its picture.
use Rattle.std.specs.Prelude.{◌≡◌, Bool, true, false, ◌&&◌, ◌||◌, List, ℕ, ◌+◌, ◌*◌, ◌<◌, ◌≤◌, ltb, leb, length, get_or, take}
use Rattle.std.proofs.lemmas.List.Edits.{sets}
use Rattle.state.specs.declared.panel.Panel.{Panel}
use Rattle.state.specs.declared.registers.Registers.{Registers}
use Rattle.state.specs.State.{valid_panel, valid_registers}
use Rattle.display.specs.Frame.{frame_of}
use Rattle.effects.specs.Effect.{with_phase}
use Rattle.controller.specs.Run.{RanAll, stopping_of}
use Rattle.controller.specs.Skip.{RanOnAll, run_of}
use Rattle.book.specs.Operation.{Operation}
use Rattle.book.specs.Screen.{screen, screen_of}
use Rattle.writer.specs.Homes.{graphic_home, text_home, glyph_home}
use Rattle.writer.specs.Stream.{count_of}
use Rattle.writer.specs.Written.{write_of}
use Rattle.picture.specs.Picture.{Picture, picture_of, picture_frame}

-- the three areas are those cleared, from their homes: C·8L bytes, C·L, 1,024 to the memory's end
abbrev pub in_areas : Panel → ℕ → Bool
in_areas p i =
    ltb i (graphic_home + 8 * p.lines * p.columns) || (leb (text_home p) i && ltb i (text_home p + p.lines * p.columns)) || leb glyph_home i

-- a memory with the planes of a picture in the three areas
abbrev pub holding : Panel → List ℕ → Picture → List ℕ
holding p mem a = sets (sets (sets mem graphic_home a.graphic) (text_home p) a.codes) glyph_home a.glyphs

-- what is asked of a run over the stream of these operations
pub record Shows (p : Panel) (os : List Operation) (r : Registers) (mem rom buffer : List ℕ) (e : RanAll) : Type 0 where
  -- refused nowhere, and exactly the stated number of pairs taken
  pub number : e.ran.number ≡ 0
  pub place : e.ran.place ≡ 0
  pub taken : e.ran.taken ≡ count_of p os
  -- for either phase the frame of the machine then, its phase set to that phase, is the picture in that phase
  pub frame : (phase : Bool) → frame_of p (with_phase e.ran.registers.display phase) e.memory rom ≡ picture_frame p rom (picture_of p os) phase
  -- every address outside the three areas holds what it held
  pub outside : (i : ℕ) → in_areas p i ≡ false → get_or e.memory i 0 ≡ get_or mem i 0
  -- inside them are the picture's planes; the phase is the one found, and nothing was answered
  pub memory : e.memory ≡ holding p mem (picture_of p os)
  pub phase : e.ran.registers.display.phase ≡ r.display.phase
  pub valid : valid_registers e.ran.registers ≡ true
  pub none : e.ran.answers ≡ 0
  pub answers : e.answers ≡ buffer

-- and of the ordinary run over it (02, Req 09): the same, with nothing listed
pub record ShowsOn (p : Panel) (os : List Operation) (r : Registers) (mem rom buffer list : List ℕ) (e : RanOnAll) : Type 0 where
  pub shows : Shows p os r mem rom buffer e.all
  pub skipped : e.skipped ≡ 0
  pub skips : e.skips ≡ list

-- any well-formed screen, valid panel and enough room, from every valid registers, memory of 65,536 bytes and ROM of 1,024:
-- the writer accepts, and either run over what it wrote shows the picture
abbrev pub Demand3 : Type 0
Demand3 =
    (p : Panel) (book : List ℕ) (number : ℕ) (os : List Operation) (room : List ℕ)
    (r : Registers) (mem rom answers skips : List ℕ) (limit : ℕ)
    → ((i : ℕ) → get_or book i 0 < 256)
    → valid_panel p ≡ true
    → screen_of p book number ≡ screen os
    → 2 * count_of p os ≤ length room
    → valid_registers r ≡ true
    → length mem ≡ 65536
    → length rom ≡ 1024
    → count_of p os ≤ limit
    → ((write_of p book number room).written ≡ record { number = 0; place = 0; pairs = count_of p os })
    × Shows p os r mem rom answers (stopping_of p r mem rom (take (2 * count_of p os) (write_of p book number room).room) limit answers)
    × ShowsOn p os r mem rom answers skips (run_of p r mem rom (take (2 * count_of p os) (write_of p book number room).room) limit answers skips)
