-- 01, What is built: what an access acts on.
use Rattle.std.specs.Prelude.{ℕ, List, slice_index, slice_set}
use Rattle.effects.specs.Types.{Display, Bus, Registers}
use Rattle.effects.specs.Effect.{with_display, with_bus}

-- the registers and the display memory
pub record Machine : Type 0 where
  pub registers : Registers
  pub memory : List ℕ

abbrev pub machine : Registers → List ℕ → Machine
machine r m = record { registers = r; memory = m }

-- its two groups, the pointer, and the byte there
abbrev pub display : Machine → Display
display s = s.registers.display

abbrev pub bus : Machine → Bus
bus s = s.registers.bus

abbrev pub pointer : Machine → ℕ
pointer s = (bus s).pointer

abbrev pub there : Machine → ℕ
there s = slice_index s.memory (pointer s)

-- another group in place of its own, the other one and the memory as they were
abbrev pub on_display : Machine → Display → Machine
on_display s d = machine (with_display s.registers d) s.memory

abbrev pub on_bus : Machine → Bus → Machine
on_bus s b = machine (with_bus s.registers b) s.memory

-- a byte stored at the pointer
abbrev pub storing : Machine → ℕ → Machine
storing s b = machine s.registers (slice_set s.memory (pointer s) b)
