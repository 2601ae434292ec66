-- 01, Bench points: the starred ones, in one claim, on any panel, ROM, memory and registers; each names what it asks of them.
use Rattle.std.specs.Prelude.{◌≡◌, Bool, true, false, List, [], ◌∷◌, ℕ, ◌+◌, ◌%◌, ◌^◌, ◌≤◌, ◌<◌, length, get_or}
use Rattle.state.specs.declared.panel.Panel.{Panel}
use Rattle.state.specs.declared.registers.Combination.TheVariants.{And}
use Rattle.state.specs.declared.registers.Auto.TheVariants.{Off, Write, Read}
use Rattle.state.specs.declared.registers.Registers.{Registers}
use Rattle.state.specs.State.{none, reset_registers}
use Rattle.state.specs.Attribute.{attributed}
use Rattle.display.specs.Displayed.{glyph_row, displayed_byte}
use Rattle.effects.specs.Effect.{status_of}
use Rattle.effects.specs.Machine.{Machine, machine}
use Rattle.sight.specs.Located.{At}
use Rattle.sight.specs.Position.{position_of}
use Rattle.controller.specs.Access.{Pair, datum, code, refused, step_of}
use Rattle.controller.specs.Run.{Run, whole, short, run_from}
use Rattle.writer.specs.Stream.{opening}

-- 3 status read, 4 blink tick; their byte does not count
abbrev pub status : ℕ → Pair
status b = record { kind = 3; byte = b }

abbrev pub tick : ℕ → Pair
tick b = record { kind = 4; byte = b }

-- all pairs are accepted, and the pointer and the byte at an address are then these
pub record Leaves (t : Run Machine) (pointer address byte : ℕ) : Type 0 where
  pub accepted : t.end ≡ whole
  pub points : t.standing.machine.registers.bus.pointer ≡ pointer
  pub holds : get_or t.standing.machine.memory address 0 ≡ byte

-- all pairs are accepted, and the error flag and the latch are then these
pub record Peeks (t : Run Machine) (error : Bool) (latch : ℕ) : Type 0 where
  pub accepted : t.end ≡ whole
  pub flags : t.standing.machine.registers.bus.error ≡ error
  pub latches : t.standing.machine.registers.bus.latch ≡ latch

-- all pairs are accepted, and this alone was answered
pub record StatusTells (t : Run Machine) (byte : ℕ) : Type 0 where
  pub accepted : t.end ≡ whole
  pub once : t.standing.given ≡ 1
  pub reads : t.standing.answers ≡ byte ∷ []

module _ (p : Panel) (rom mem : List ℕ) where
  -- pairs run from these registers, with room for one answer
  abbrev pub ran : Registers → List Pair → Run Machine
  ran r qs = run_from (step_of p rom) 0 qs (record { machine = machine r mem; answers = 0 ∷ []; given = 0 })

  pub record BenchPoints (r : Registers) : Type 0 where
    -- Offset 2, code 80H: glyph at 1400H.
    pub glyph_at_1400h : (v : ℕ) → r.display.offset ≡ 2 → glyph_row r.display mem rom 0x80 v ≡ get_or mem (0x1400 + v) 0
    -- Status: reset A3H; auto write A8H; auto read A4H; reset and one tick 23H.
    pub status_reset : status_of reset_registers ≡ 0xa3
    pub status_auto_write : r.display.phase ≡ true → r.bus.error ≡ false → r.bus.auto ≡ Write → status_of r ≡ 0xa8
    pub status_auto_read : r.display.phase ≡ true → r.bus.error ≡ false → r.bus.auto ≡ Read → status_of r ≡ 0xa4
    pub status_tick : (b : ℕ) → status_of (ran reset_registers (tick b ∷ [])).standing.machine.registers ≡ 0x23
    -- The same through the bus: at first, after B0H, after B1H, after a tick.
    pub reads_reset : (b : ℕ) → StatusTells (ran reset_registers (status b ∷ [])) 0xa3
    pub reads_auto_write : (b : ℕ) → r.display.phase ≡ true → r.bus.error ≡ false → r.bus.auto ≡ Off
        → StatusTells (ran r (code 0xb0 ∷ status b ∷ [])) 0xa8
    pub reads_auto_read : (b : ℕ) → r.display.phase ≡ true → r.bus.error ≡ false → r.bus.auto ≡ Off
        → StatusTells (ran r (code 0xb1 ∷ status b ∷ [])) 0xa4
    pub reads_tick : (a b : ℕ) → r.display.phase ≡ true → r.bus.error ≡ false → r.bus.auto ≡ Off
        → StatusTells (ran r (tick a ∷ status b ∷ [])) 0x23
    -- Pointer FFFFH, datum 55H, C0H: FFFFH holds 55H, pointer 0000H.
    pub pointer_up : length mem ≡ 65536 → r.bus.auto ≡ Off → r.bus.pointer ≡ 0xffff
        → Leaves (ran r (datum 0x55 ∷ code 0xc0 ∷ [])) 0x0000 0xffff 0x55
    -- C3H at 0000H: pointer FFFFH.
    pub pointer_down : r.bus.auto ≡ Off → r.bus.pointer ≡ 0x0000 → Leaves (ran r (code 0xc3 ∷ [])) 0xffff 0x0000 (get_or mem 0x0000 0)
    -- Data 11H, 22H, 33H, then 24H: pointer 3322H.
    pub last_two_serve : r.bus.auto ≡ Off
        → Leaves (ran r (datum 0x11 ∷ datum 0x22 ∷ datum 0x33 ∷ code 0x24 ∷ [])) 0x3322 0x0000 (get_or mem 0x0000 0)
    -- One datum, 24H: number 6, datum still pending.
    pub one_datum : (b : ℕ) → r.bus.auto ≡ Off → r.bus.pending ≡ none
        → ran r (datum b ∷ code 0x24 ∷ [])
        ≡ record {
          standing = record {
            machine = machine
                (record {
                  display = r.display;
                  bus = record {
                    pointer = r.bus.pointer;
                    auto = Off;
                    pending = record { count = 1; older = 0; newest = b };
                    latch = r.bus.latch;
                    error = r.bus.error;
                  };
                })
                mem;
            answers = 0 ∷ [];
            given = 0;
          };
          taken = 1;
          end = short 6;
        }
    -- 82H: 4. 8BH: external AND.
    pub undefined_82h : step_of p rom (machine r mem) (code 0x82) ≡ refused 4
    pub external_and : r.bus.auto ≡ Off
        → (ran r (code 0x8b ∷ [])).standing.machine.registers.display
        ≡ record {
          text = r.display.text;
          graphic = r.display.graphic;
          offset = r.display.offset;
          combination = And;
          external = true;
          bits = r.display.bits;
          cursor = r.display.cursor;
          phase = r.display.phase;
        }
    -- In auto read, 94H: 5; A8H: 4.
    pub auto_read_94h : r.bus.auto ≡ Read → step_of p rom (machine r mem) (code 0x94) ≡ refused 5
    pub auto_read_a8h : r.bus.auto ≡ Read → step_of p rom (machine r mem) (code 0xa8) ≡ refused 4
    -- C 20, graphic home 0, area 32: peek at 0013H found, at 0014H error.
    pub peek_found : p.columns ≡ 20 → 1 ≤ p.lines → r.display.graphic ≡ record { home = 0; area = 32 }
        → r.bus.auto ≡ Off → r.bus.pointer ≡ 0x0013
        → Peeks (ran r (code 0xe0 ∷ [])) false (displayed_byte p r.display mem rom 0 0x13)
    pub peek_error : p.columns ≡ 20 → p.lines ≤ 32 → r.display.graphic ≡ record { home = 0; area = 32 }
        → r.bus.auto ≡ Off → r.bus.pointer ≡ 0x0014
        → Peeks (ran r (code 0xe0 ∷ [])) true r.bus.latch
    -- Graphic area 0: the home is found at (0, 0).
    pub area_0 : (home : ℕ) → 1 ≤ p.columns → 1 ≤ p.lines → home < 65536 → position_of p (record { home = home; area = 0 }) home ≡ At 0 0
    -- Byte 00H, FBH gives 08H, F3H gives 00H.
    pub bit_set : r.bus.auto ≡ Off → r.bus.pointer < length mem → get_or mem r.bus.pointer 0 ≡ 0x00
        → Leaves (ran r (code 0xfb ∷ [])) r.bus.pointer r.bus.pointer 0x08
    pub bit_reset : r.bus.auto ≡ Off → r.bus.pointer < length mem → get_or mem r.bus.pointer 0 ≡ 0x00
        → Leaves (ran r (code 0xfb ∷ code 0xf3 ∷ [])) r.bus.pointer r.bus.pointer 0x00
    -- Glyph row 4CH reversed: B3H at w 8, 33H at w 6.
    pub reversed_at_8 : (normal : Bool) (attribute : ℕ) → attribute % 16 ≡ 5 → attributed 8 normal attribute (0x4c % 2 ^ 8) ≡ 0xb3
    pub reversed_at_6 : (normal : Bool) (attribute : ℕ) → attribute % 16 ≡ 5 → attributed 6 normal attribute (0x4c % 2 ^ 6) ≡ 0x33
    -- Opening: 1,066 pairs at C 1, L 1; 3,217 at C 30, L 8.
    pub opening_1_1 : p.columns ≡ 1 → p.lines ≡ 1 → length (opening p) ≡ 1066
    pub opening_30_8 : p.columns ≡ 30 → p.lines ≡ 8 → length (opening p) ≡ 3217
