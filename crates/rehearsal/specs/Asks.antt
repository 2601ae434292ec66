-- 02, Req 02: the second writer's streams beside the controller's own answers pass from every valid state.
use Rattle.std.specs.Prelude.{◌≡◌, true, List, [], ℕ, ◌*◌, ◌<◌, ◌≤◌, length, get_or, take}
use Rattle.state.specs.declared.panel.Panel.{Panel}
use Rattle.state.specs.declared.registers.Registers.{Registers}
use Rattle.state.specs.State.{valid_panel, valid_registers}
use Rattle.controller.specs.Run.{log_of, stopping_of}
use Rattle.book.specs.Operation.{Operation}
use Rattle.book.specs.Screen.{screen, screen_of}
use Rattle.writer.specs.Stream.{stream_of, count_of}
use Rattle.asking.specs.Asking.{asking_of}
use Rattle.inspection.specs.Inspected.{inspect_of}
use Rattle.inspection.specs.Claims.{own_run, own_answers}

-- any well-formed screen, valid panel and enough room, from every valid registers, memory of 65,536 bytes and ROM of 1,024: the asking
-- writer accepts, twice the pairs; what it wrote passes beside the answers of its own run, and leaves the machine that the plain stream
-- leaves
abbrev pub AskingPasses : Type 0
AskingPasses =
    (p : Panel) (book : List ℕ) (number : ℕ) (os : List Operation) (room : List ℕ) (r : Registers) (mem rom answers : List ℕ)
    → ((i : ℕ) → get_or book i 0 < 256)
    → valid_panel p ≡ true
    → screen_of p book number ≡ screen os
    → 4 * count_of p os ≤ length room
    → valid_registers r ≡ true
    → length mem ≡ 65536
    → length rom ≡ 1024
    → 2 * count_of p os ≤ length answers
    → let log = take (4 * count_of p os) (asking_of p book number room).room in
    let i = inspect_of p r mem rom log (own_answers (own_run p r mem rom log answers)) in
    let plain = stopping_of p r mem rom (log_of (stream_of p os)) (count_of p os) [] in
    ((asking_of p book number room).written ≡ record { number = 0; place = 0; pairs = 2 * count_of p os })
    × (i.inspected.number ≡ 0)
    × (i.inspected.passes ≡ true)
    × (i.inspected.registers ≡ plain.ran.registers)
    × (i.memory ≡ plain.memory)
