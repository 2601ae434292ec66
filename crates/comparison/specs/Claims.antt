-- 02, Req 06: the list is empty exactly if memory, registers and picture agree.
use Rattle.std.specs.Prelude.{ℕ, ◌+◌, ◌<◌, ◌≡◌, true, List, length}
use Rattle.state.specs.State.{valid_registers}
use Rattle.display.specs.Frame.{frame_of}
use Rattle.comparison.specs.Types.{Panel}
use Rattle.whole.specs.Whole.{RanWhole}
use Rattle.comparison.specs.Apart.{dots_apart}
use Rattle.comparison.specs.Verdict.{memory_apart, registers_apart}

-- two machines after their runs
abbrev pub entries_of : RanWhole → RanWhole → ℕ
entries_of a b = length (memory_apart a b) + length (registers_apart a b)

pub record AllAgree (p : Panel) (rom : List ℕ) (a b : RanWhole) : Type 0 where
  pub memory : a.memory ≡ b.memory
  pub registers : a.ran.registers ≡ b.ran.registers
  pub frames : frame_of p a.ran.registers.display a.memory rom ≡ frame_of p b.ran.registers.display b.memory rom
  pub dots : dots_apart p a.ran.registers.display a.memory b.ran.registers.display b.memory rom ≡ 0

-- of valid states, whose pending data are bytes, and memories of one length, which the runs leave
abbrev pub Same : Type 0
Same =
    (p : Panel) (rom : List ℕ) (a b : RanWhole)
    → valid_registers a.ran.registers ≡ true
    → valid_registers b.ran.registers ≡ true
    → a.ran.registers.bus.pending.older < 256
    → b.ran.registers.bus.pending.older < 256
    → length a.memory ≡ length b.memory
    → (entries_of a b ≡ 0 → AllAgree p rom a b) × (AllAgree p rom a b → entries_of a b ≡ 0)
