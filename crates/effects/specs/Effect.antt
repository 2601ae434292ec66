-- 01, Bus pairs: one register altered and the others as they were, the pointer's moves, the status.
use Rattle.std.specs.Prelude.{ℕ, ◌+◌, ◌%◌, Bool, true, false, cond, bit_or, nat_lt}
use Rattle.ground.specs.Bytes.{word_of}
use Rattle.effects.specs.Types.{Plane, Cursor, DisplayBits, Combination, Display, Auto, Off, Write, Read, Pending, Bus, Registers, Move, Up, Down, Stay, Target}
use Rattle.state.specs.declared.registers.Target.TheVariants as target

abbrev pub with_display : Registers → Display → Registers
with_display r d = record { display = d; bus = r.bus }

abbrev pub with_bus : Registers → Bus → Registers
with_bus r b = record { display = r.display; bus = b }

abbrev pub with_text : Display → Plane → Display
with_text d q =
    record {
      text = q;
      graphic = d.graphic;
      offset = d.offset;
      combination = d.combination;
      external = d.external;
      bits = d.bits;
      cursor = d.cursor;
      phase = d.phase;
    }

abbrev pub with_graphic : Display → Plane → Display
with_graphic d q =
    record {
      text = d.text;
      graphic = q;
      offset = d.offset;
      combination = d.combination;
      external = d.external;
      bits = d.bits;
      cursor = d.cursor;
      phase = d.phase;
    }

abbrev pub with_offset : Display → ℕ → Display
with_offset d n =
    record {
      text = d.text;
      graphic = d.graphic;
      offset = n;
      combination = d.combination;
      external = d.external;
      bits = d.bits;
      cursor = d.cursor;
      phase = d.phase;
    }

abbrev pub with_mode : Display → Bool → Combination → Display
with_mode d e k =
    record {
      text = d.text;
      graphic = d.graphic;
      offset = d.offset;
      combination = k;
      external = e;
      bits = d.bits;
      cursor = d.cursor;
      phase = d.phase;
    }

abbrev pub with_display_bits : Display → DisplayBits → Display
with_display_bits d s =
    record {
      text = d.text;
      graphic = d.graphic;
      offset = d.offset;
      combination = d.combination;
      external = d.external;
      bits = s;
      cursor = d.cursor;
      phase = d.phase;
    }

abbrev pub with_cursor : Display → Cursor → Display
with_cursor d k =
    record {
      text = d.text;
      graphic = d.graphic;
      offset = d.offset;
      combination = d.combination;
      external = d.external;
      bits = d.bits;
      cursor = k;
      phase = d.phase;
    }

abbrev pub with_height : Display → ℕ → Display
with_height d n = with_cursor d (record { x = d.cursor.x; y = d.cursor.y; height = n })

abbrev pub with_phase : Display → Bool → Display
with_phase d n =
    record {
      text = d.text;
      graphic = d.graphic;
      offset = d.offset;
      combination = d.combination;
      external = d.external;
      bits = d.bits;
      cursor = d.cursor;
      phase = n;
    }

abbrev pub with_pointer : Bus → ℕ → Bus
with_pointer b n =
    record {
      pointer = n;
      auto = b.auto;
      pending = b.pending;
      latch = b.latch;
      error = b.error;
    }

abbrev pub with_auto : Bus → Auto → Bus
with_auto b a =
    record {
      pointer = b.pointer;
      auto = a;
      pending = b.pending;
      latch = b.latch;
      error = b.error;
    }

abbrev pub with_pending : Bus → Pending → Bus
with_pending b q =
    record {
      pointer = b.pointer;
      auto = b.auto;
      pending = q;
      latch = b.latch;
      error = b.error;
    }

abbrev pub with_latch : Bus → ℕ → Bus
with_latch b n =
    record {
      pointer = b.pointer;
      auto = b.auto;
      pending = b.pending;
      latch = n;
      error = b.error;
    }

abbrev pub with_error : Bus → Bool → Bus
with_error b e =
    record {
      pointer = b.pointer;
      auto = b.auto;
      pending = b.pending;
      latch = b.latch;
      error = e;
    }

-- the byte becomes the newest of the last two pending
abbrev pub pushed : Pending → ℕ → Pending
pushed q b = record { count = cond (nat_lt q.count 2) (q.count + 1) 2; older = q.newest; newest = b }

-- the address pointer runs from FFFFH to 0000H and back
abbrev pub moved_of : Move → ℕ → ℕ
moved_of Up p = (p + 1) % 65536
moved_of Down p = (p + 65535) % 65536
moved_of Stay p = p

-- cursor X = D1 mod 128, Y = D2 mod 32; offset = D1 mod 32; pointer, homes = D1 + 256·D2; areas = D1
abbrev pub set_of : Target → ℕ → ℕ → Registers → Registers
set_of target.Cursor d1 d2 r =
    with_display r (with_cursor r.display (record { x = d1 % 128; y = d2 % 32; height = r.display.cursor.height }))
set_of target.Offset d1 d2 r = with_display r (with_offset r.display (d1 % 32))
set_of target.Pointer d1 d2 r = with_bus r (with_pointer r.bus (word_of d1 d2))
set_of target.TextHome d1 d2 r =
    with_display r (with_text r.display (record { home = word_of d1 d2; area = r.display.text.area }))
set_of target.TextArea d1 d2 r =
    with_display r (with_text r.display (record { home = r.display.text.home; area = d1 }))
set_of target.GraphicHome d1 d2 r =
    with_display r (with_graphic r.display (record { home = word_of d1 d2; area = r.display.graphic.area }))
set_of target.GraphicArea d1 d2 r =
    with_display r (with_graphic r.display (record { home = r.display.graphic.home; area = d1 }))

abbrev pub is_write : Auto → Bool
is_write Off = false
is_write Write = true
is_write Read = false

abbrev pub is_read : Auto → Bool
is_read Off = false
is_read Write = false
is_read Read = true

-- bits 0 and 1 unless auto, bit 2 in auto read, bit 3 in auto write (H for bits 0 and 1)
abbrev pub auto_bits : Auto → ℕ
auto_bits Off = 0b0011
auto_bits Read = 0b0100
auto_bits Write = 0b1000

-- and bit 5 always, bit 6 error, bit 7 phase normal, bit 4 clear (H but for bit 6)
abbrev pub bus_status : Bus → Bool → ℕ
bus_status b phase = bit_or (bit_or (bit_or (auto_bits b.auto) 0x20) (cond b.error 0x40 0)) (cond phase 0x80 0)

abbrev pub status_of : Registers → ℕ
status_of r = bus_status r.bus r.display.phase
