-- 01, A displayed byte: peek and copy.
use Rattle.std.specs.Prelude.{ℕ, ◌+◌, ◌-◌, Bool, true, false, cond, ◌&&◌, ◌||◌, List}
use Rattle.ground.specs.Lists.{build, stored}
use Rattle.state.specs.State.{valid_panel, valid_display}
use Rattle.state.specs.Combination.{is_attribute}
use Rattle.state.specs.Address.{address_of}
use Rattle.display.specs.Displayed.{displayed_byte}
use Rattle.display.specs.Frame.{lent_lengths}
use Rattle.effects.specs.Machine.{Machine, machine, display, bus, on_bus}
use Rattle.effects.specs.Effect.{with_bus, with_latch, with_error}
use Rattle.sight.specs.Types.{Panel, Display, Registers, Bus, Position, At, Nowhere}
use Rattle.sight.specs.Position.{position_of}

-- the pointer's position on the panel
abbrev pub position : Panel → Registers → Position
position p r = position_of p r.display.graphic r.bus.pointer

-- peek with a position: latch = displayed byte, error cleared; otherwise error set
abbrev pub peek_of : Panel → List ℕ → Machine → Position → Bus
peek_of p rom s (At r c) = with_error (with_latch (bus s) (displayed_byte p (display s) s.memory rom r c)) false
peek_of p rom s Nowhere = with_error (bus s) true

-- graphic bytes of row r from c to C-1 become their displayed bytes, gathered before any is stored
unfoldable pub copied_of : Panel → List ℕ → Machine → ℕ → ℕ → List ℕ
copied_of p rom s r c =
    stored s.memory (address_of (display s).graphic r c)
    (build (p.columns - c) (λ j. displayed_byte p (display s) s.memory rom r (c + j)))

-- copy with a position, not in attribute mode nor on a panel in two halves (02, Req 08): the row copied, error cleared; otherwise
-- error set
abbrev pub copy_of : Panel → List ℕ → Machine → Position → Machine
copy_of p rom s (At r c) =
    cond (p.dual || is_attribute (display s).combination)
    (on_bus s (with_error (bus s) true))
    (machine (with_bus s.registers (with_error (bus s) false)) (copied_of p rom s r c))
copy_of p rom s Nowhere = on_bus s (with_error (bus s) true)

-- a valid panel and display, and the lengths lent: whoever asks with anything else is left as he was
abbrev pub sighted : Panel → Display → List ℕ → List ℕ → Bool
sighted p d mem rom = valid_panel p && valid_display d && lent_lengths mem rom

unfoldable pub peeked_of : Panel → Registers → List ℕ → List ℕ → Bus
peeked_of p r mem rom = cond (sighted p r.display mem rom) (peek_of p rom (machine r mem) (position p r)) r.bus

unfoldable pub copied_all : Panel → Registers → List ℕ → List ℕ → Machine
copied_all p r mem rom = cond (sighted p r.display mem rom) (copy_of p rom (machine r mem) (position p r)) (machine r mem)
