-- 01, Panel and memory: valid panels, valid states, the reset state.
use Rattle.std.specs.Prelude.{ℕ, ◌%◌, Bool, true, false, cond, ◌&&◌, ◌||◌, ◌==◌, nat_le, nat_lt}
use Rattle.state.specs.Types.{Panel, Plane, Or, Display, Off, Pending, Bus, Registers}

-- L 1 to 16; of a panel in two halves 2 to 32, even (02, Req 08)
abbrev pub lines_fit : Bool → ℕ → Bool
lines_fit dual lines = cond dual (nat_le 2 lines && nat_le lines 32 && lines % 2 == 0) (nat_le 1 lines && nat_le lines 16)

-- C 1 to 80, L as its kind has it, w 6 or 8
abbrev pub valid_panel : Panel → Bool
valid_panel p =
    nat_le 1 p.columns && nat_le p.columns 80 && lines_fit p.dual p.lines
    && (p.width == 6 || p.width == 8)

-- cursor X 0 to 127, Y 0 to 31, offset 0 to 31, cursor height 1 to 8; the other ranges are those of the fields' types
abbrev pub valid_display : Display → Bool
valid_display d =
    nat_lt d.cursor.x 128 && nat_lt d.cursor.y 32 && nat_lt d.offset 32 && nat_le 1 d.cursor.height
    && nat_le d.cursor.height 8

-- 0 to 2 pending data, unused places 0
abbrev pub valid_bus : Bus → Bool
valid_bus b =
    nat_le b.pending.count 2 && (b.pending.older == 0 || b.pending.count == 2)
    && (b.pending.newest == 0 || nat_le 1 b.pending.count)

abbrev pub valid_registers : Registers → Bool
valid_registers r = valid_display r.display && valid_bus r.bus

-- none pending
abbrev pub none : Pending
none = record { count = 0; older = 0; newest = 0 }

abbrev pub reset_plane : Plane
reset_plane = record { home = 0; area = 0 }

-- numbers zero, cursor height 1, OR, internal, display bits off, auto off, none pending, error clear, phase normal
abbrev pub reset_registers : Registers
reset_registers =
    record {
      display = record {
        text = reset_plane;
        graphic = reset_plane;
        offset = 0;
        combination = Or;
        external = false;
        bits = record { graphic = false; text = false; cursor = false; blink = false };
        cursor = record { x = 0; y = 0; height = 1 };
        phase = true;
      };
      bus = record { pointer = 0; auto = Off; pending = none; latch = 0; error = false };
    }
