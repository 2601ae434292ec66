-- 01, Bus pairs, for 02, Req 05: which bytes an accepted pair stores. They stand one after the other, from the pointer on.
use Rattle.std.specs.Prelude.{ℕ, ◌+◌, ◌-◌, ◌%◌, cond, ◌||◌, eqb}
use Rattle.state.specs.State.{valid_panel}
use Rattle.state.specs.Combination.{is_attribute}
use Rattle.codes.specs.Command.{decode_of}
use Rattle.effects.specs.Effect.{is_write}
use Rattle.sight.specs.Sight.{position}
use Rattle.controller.specs.Types.{Panel, Display, Registers, Command, Set, Mode, DisplayMode, Height, Run, Store, Load, Peek, Copy, Bit, Decoded, Defined, Undefined, Position, At, Nowhere}
use Rattle.controller.specs.Access.{Pair}

-- a copy at (r, c): graphic bytes of row r from c to C-1; none in attribute mode, on a panel in two halves, or without a position
abbrev pub copy_stores : Panel → Display → Position → ℕ
copy_stores p d (At r c) = cond (p.dual || is_attribute d.combination) 0 (p.columns - c)
copy_stores p d Nowhere = 0

-- C0H, C2H, C4H and F0H up one byte; a copy its line's; no other command any
abbrev pub command_stores : Panel → Registers → Command → ℕ
command_stores p r (Set t) = 0
command_stores p r (Mode e k) = 0
command_stores p r (DisplayMode b) = 0
command_stores p r (Height h) = 0
command_stores p r (Run a) = 0
command_stores p r (Store v) = 1
command_stores p r (Load v) = 0
command_stores p r Peek = 0
command_stores p r Copy = copy_stores p r.display (position p r)
command_stores p r (Bit on k) = 1

abbrev pub code_stores : Panel → Registers → Decoded → ℕ
code_stores p r (Defined k) = command_stores p r k
code_stores p r Undefined = 0

-- a data write in auto write one byte, a command as it has it, a read or a tick none
abbrev pub stores_of : Panel → Registers → Pair → ℕ
stores_of p r q =
    cond (eqb q.kind 0) (cond (is_write r.bus.auto) 1 0) (cond (eqb q.kind 1) (code_stores p r (decode_of q.byte)) 0)

-- asked of any panel: one that is not valid stores nothing
abbrev pub stores_asked : Panel → Registers → Pair → ℕ
stores_asked p r q = cond (valid_panel p) (stores_of p r q) 0

-- address j of those from an address on
abbrev pub from_address : ℕ → ℕ → ℕ
from_address at j = (at + j) % 65536
