-- `font` meets its contract: the bank at the offset, the ROM over its first half if characters are internal.
use Prim.Native.Nat.{◌+◌, ◌-◌, ◌*◌}
use native.Mathlib.Omega.{arith}
use Rattle.display.proofs.Fonts.{all-memory, rom-over}
use Rattle.display.proofs.font.font.Goals as goal

pub returns-then-not-display : goal.returns-then-not-display
returns-then-not-display c = let a = c.args in
    (rom-over a.display a.mem.now a.rom.now _ (2048 * a.display.offset + 2048 - 2048 * a.display.offset) c.give.ensures (omega arith) c.requires.room c.requires.lent.0 c.requires.lent.2 c.if-not-display.true c.requires.lent.1 c.give-then-not-display.ensures).0

pub returns-else-not-display : goal.returns-else-not-display
returns-else-not-display c = let a = c.args in
    (all-memory a.display a.mem.now a.rom.now _ (2048 * a.display.offset + 2048 - 2048 * a.display.offset) c.give.ensures (omega arith) c.requires.room c.requires.lent.0 c.requires.lent.2 c.if-not-display.false).0
