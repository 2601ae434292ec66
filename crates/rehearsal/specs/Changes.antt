-- 02, Req 14: on a controller that has run A's stream, with only ticks and status reads since, the short stream shows B.
use Rattle.std.specs.Prelude.{◌≡◌, Bool, true, ◌&&◌, ◌||◌, List, [], ◌∷◌, ℕ, ◌*◌, ◌<◌, ◌≤◌, eqb, length, get_or, take}
use Rattle.state.specs.declared.panel.Panel.{Panel}
use Rattle.state.specs.declared.registers.Registers.{Registers}
use Rattle.state.specs.State.{valid_panel, valid_registers}
use Rattle.display.specs.Frame.{frame_of}
use Rattle.effects.specs.Effect.{with_phase}
use Rattle.controller.specs.Access.{Pair}
use Rattle.controller.specs.Run.{RanAll, log_of, stopping_of}
use Rattle.controller.specs.Skip.{RanOnAll, run_of}
use Rattle.book.specs.Operation.{Operation}
use Rattle.book.specs.Screen.{screen, screen_of}
use Rattle.writer.specs.Stream.{count_of}
use Rattle.writer.specs.Written.{Wrote, write_of}
use Rattle.picture.specs.Picture.{Picture, picture_of, picture_frame}
use Rattle.difference.specs.Short.{short_count}
use Rattle.difference.specs.Change.{change_of}

-- 3 status read, 4 blink tick
abbrev pub all_idle : List Pair → Bool
all_idle [] = true
all_idle (q ∷ qs) = (eqb q.kind 3 || eqb q.kind 4) && all_idle qs

-- a room, a limit and an answer buffer lent to a run
pub record Lent : Type 0 where
  pub room : List ℕ
  pub limit : ℕ
  pub answers : List ℕ

-- enough for so many pairs
pub record Enough (l : Lent) (pairs : ℕ) : Type 0 where
  pub room : 2 * pairs ≤ length l.room
  pub limit : pairs ≤ l.limit

module _ (p : Panel) (rom book : List ℕ) where
  -- a screen's stream, run from these registers and this memory
  abbrev pub ran_screen : ℕ → List Operation → Lent → Registers → List ℕ → RanAll
  ran_screen number os l r mem = stopping_of p r mem rom (take (2 * count_of p os) (write_of p book number l.room).room) l.limit l.answers

  -- pairs run on from where a run stands
  abbrev pub ran_on : List Pair → Lent → RanAll → RanAll
  ran_on qs l e = stopping_of p e.ran.registers e.memory rom (log_of qs) l.limit l.answers

  -- the short stream from a to b, run on from there
  abbrev pub ran_short : ℕ → ℕ → ℕ → Lent → RanAll → RanAll
  ran_short a b pairs l e =
      stopping_of p e.ran.registers e.memory rom (take (2 * pairs) (change_of p book a b l.room).room) l.limit l.answers

  -- and by the ordinary run, with a list lent
  abbrev pub ran_short_on : ℕ → ℕ → ℕ → Lent → RanAll → List ℕ → RanOnAll
  ran_short_on a b pairs l e skips =
      run_of p e.ran.registers e.memory rom (take (2 * pairs) (change_of p book a b l.room).room) l.limit l.answers skips

-- what is asked of the short stream, and of either run over it beside that of B's full stream
pub record Changed (p : Panel) (rom : List ℕ) (a b : Picture) (written : Wrote) (short : RanAll) (ordinary : List ℕ → RanOnAll) (full : RanAll) : Type 0 where
  -- written, with 5 pairs for each difference plus 2, or plus 6 with a cursor; refused nowhere, and all of them taken
  pub accepted : written.written ≡ record { number = 0; place = 0; pairs = short_count a b }
  pub number : short.ran.number ≡ 0
  pub place : short.ran.place ≡ 0
  pub taken : short.ran.taken ≡ short_count a b
  -- the frame is then B's picture in either phase
  pub frame : (phase : Bool) → frame_of p (with_phase short.ran.registers.display phase) short.memory rom ≡ picture_frame p rom b phase
  -- all 65,536 bytes are those left by running B's full stream on that same controller
  pub memory : short.memory ≡ full.memory
  -- the ordinary run comes to the same, with nothing listed
  pub either : (skips : List ℕ) → ordinary skips ≡ record { all = short; skipped = 0; skips = skips }

-- from every valid state and memory, whatever ticks and status reads come between, with or without room for their answers
abbrev pub Changes : Type 0
Changes =
    (p : Panel) (rom book : List ℕ) (a b : ℕ) (os qs : List Operation) (idle : List Pair)
    (first between short full : Lent) (r : Registers) (mem : List ℕ)
    → ((i : ℕ) → get_or book i 0 < 256)
    → valid_panel p ≡ true
    → screen_of p book a ≡ screen os
    → screen_of p book b ≡ screen qs
    → all_idle idle ≡ true
    → Enough first (count_of p os)
    → Enough short (short_count (picture_of p os) (picture_of p qs))
    → Enough full (count_of p qs)
    → valid_registers r ≡ true
    → length mem ≡ 65536
    → length rom ≡ 1024
    → Changed p rom (picture_of p os) (picture_of p qs) (change_of p book a b short.room)
    (ran_short p rom book a b (short_count (picture_of p os) (picture_of p qs)) short (ran_on p rom book idle between (ran_screen p rom book a os first r mem)))
    (ran_short_on p rom book a b (short_count (picture_of p os) (picture_of p qs)) short (ran_on p rom book idle between (ran_screen p rom book a os first r mem)))
    (ran_screen p rom book b qs full (ran_on p rom book idle between (ran_screen p rom book a os first r mem)).ran.registers
    (ran_on p rom book idle between (ran_screen p rom book a os first r mem)).memory)
