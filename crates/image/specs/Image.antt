-- The registers as bytes, in document 01's order, words low byte first.
use Rattle.std.specs.Prelude.{ℕ, ◌/◌, ◌%◌, Bool, cond, ◌&&◌, List, [], ◌∷◌, leb, eqb, length, get_or}
pub use Rattle.state.specs.Codes.{combination_byte, auto_byte}
use Rattle.state.specs.State.{reset_registers}
use Rattle.ground.specs.Bytes.{word_of}
use Rattle.image.specs.Types.{Combination, Or, Exor, And, Attribute, Auto, Off, Write, Read, Display, Bus, Registers}

abbrev pub flag_byte : Bool → ℕ
flag_byte on = cond on 1 0

abbrev pub combination_in : ℕ → Combination
combination_in n = cond (eqb n 0) Or (cond (eqb n 1) Exor (cond (eqb n 2) And Attribute))

abbrev pub auto_of : ℕ → Auto
auto_of n = cond (eqb n 0) Off (cond (eqb n 1) Write Read)

-- the 25 bytes of the registers
unfoldable pub bytes_of : Registers → List ℕ
bytes_of r =
    r.display.cursor.x ∷ r.display.cursor.y ∷ r.display.offset
    ∷ r.bus.pointer % 256 ∷ r.bus.pointer / 256
    ∷ r.display.text.home % 256 ∷ r.display.text.home / 256
    ∷ r.display.graphic.home % 256 ∷ r.display.graphic.home / 256
    ∷ r.display.text.area ∷ r.display.graphic.area
    ∷ combination_byte r.display.combination ∷ flag_byte r.display.external
    ∷ flag_byte r.display.bits.graphic ∷ flag_byte r.display.bits.text
    ∷ flag_byte r.display.bits.cursor ∷ flag_byte r.display.bits.blink
    ∷ r.display.cursor.height ∷ auto_byte r.bus.auto
    ∷ r.bus.pending.count ∷ r.bus.pending.older ∷ r.bus.pending.newest
    ∷ r.bus.latch ∷ flag_byte r.bus.error ∷ flag_byte r.display.phase ∷ []

-- a buffer that gets other contents, of its length alone
abbrev pub replaced : List ℕ → List ℕ → List ℕ
replaced new old = cond (eqb (length old) (length new)) new old

-- flags 0 or 1, combination 0 to 3, auto 0 to 2
abbrev pub readable : List ℕ → Bool
readable b =
    leb (get_or b 11 0) 3 && leb (get_or b 12 0) 1 && leb (get_or b 13 0) 1 && leb (get_or b 14 0) 1 && leb (get_or b 15 0) 1
    && leb (get_or b 16 0) 1 && leb (get_or b 18 0) 2 && leb (get_or b 23 0) 1 && leb (get_or b 24 0) 1

-- the registers that 25 bytes stand for
unfoldable pub display_of : List ℕ → Display
display_of b =
    record {
      text = record { home = word_of (get_or b 5 0) (get_or b 6 0); area = get_or b 9 0 };
      graphic = record { home = word_of (get_or b 7 0) (get_or b 8 0); area = get_or b 10 0 };
      offset = get_or b 2 0;
      combination = combination_in (get_or b 11 0);
      external = eqb (get_or b 12 0) 1;
      bits = record {
        graphic = eqb (get_or b 13 0) 1;
        text = eqb (get_or b 14 0) 1;
        cursor = eqb (get_or b 15 0) 1;
        blink = eqb (get_or b 16 0) 1;
      };
      cursor = record { x = get_or b 0 0; y = get_or b 1 0; height = get_or b 17 0 };
      phase = eqb (get_or b 24 0) 1;
    }

unfoldable pub bus_of : List ℕ → Bus
bus_of b =
    record {
      pointer = word_of (get_or b 3 0) (get_or b 4 0);
      auto = auto_of (get_or b 18 0);
      pending = record { count = get_or b 19 0; older = get_or b 20 0; newest = get_or b 21 0 };
      latch = get_or b 22 0;
      error = eqb (get_or b 23 0) 1;
    }

abbrev pub state_of : List ℕ → Registers
state_of b = record { display = display_of b; bus = bus_of b }

-- of any bytes: whether they stand for registers, and which; the reset state where there are not 25
abbrev pub is_image : List ℕ → Bool
is_image b = eqb (length b) 25 && readable b

unfoldable pub image_state : List ℕ → Registers
image_state b = cond (eqb (length b) 25) (state_of b) reset_registers
