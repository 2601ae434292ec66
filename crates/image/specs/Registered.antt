-- 01, Panel and memory: the registers of a state, in document 01's order, each as one number.
use Rattle.std.specs.Prelude.{ℕ, ◌+◌, ◌*◌, List, [], ◌∷◌}
use Rattle.image.specs.Types.{DisplayBits, Pending, Registers}
use Rattle.image.specs.Image.{flag_byte, combination_byte, auto_byte}

-- four display bits, as the codes 90H-9FH have them: bit 3 graphic, 2 text, 1 cursor, 0 cursor blink
abbrev pub bits_number : DisplayBits → ℕ
bits_number b = 8 * flag_byte b.graphic + 4 * flag_byte b.text + 2 * flag_byte b.cursor + flag_byte b.blink

-- 0 to 2 pending data, how many and which
abbrev pub pending_number : Pending → ℕ
pending_number q = q.count + 256 * q.older + 65536 * q.newest

-- cursor X, Y, offset; pointer, text home, graphic home; text and graphic area; combination; external flag; display bits; cursor height;
-- auto; pending data; read latch; error flag; blink phase
unfoldable pub register_values : Registers → List ℕ
register_values r =
    r.display.cursor.x ∷ r.display.cursor.y ∷ r.display.offset
    ∷ r.bus.pointer ∷ r.display.text.home ∷ r.display.graphic.home
    ∷ r.display.text.area ∷ r.display.graphic.area
    ∷ combination_byte r.display.combination ∷ flag_byte r.display.external
    ∷ bits_number r.display.bits ∷ r.display.cursor.height
    ∷ auto_byte r.bus.auto ∷ pending_number r.bus.pending
    ∷ r.bus.latch ∷ flag_byte r.bus.error ∷ flag_byte r.display.phase ∷ []
