-- 01, Bus pairs: what one pair does.
use Rattle.std.specs.Prelude.{ℕ, cond, not, ◌||◌, List, ◌==◌, nat_le}
use Rattle.effects.specs.Machine.{Machine, machine, display, bus, pointer, there, on_display, on_bus, storing}
use Rattle.sight.specs.Sight.{position, peek_of, copy_of}
use Rattle.ground.specs.Bytes.{with_bit}
use Rattle.sight.specs.Types.{Panel, Auto, Off, Write, Read, Command, Set, Mode, DisplayMode, Height, Run, Store, Load, Peek, Copy, Bit, Decoded, Defined, Undefined, Up}
use Rattle.state.specs.State.{none}
use Rattle.codes.specs.Command.{decode_of, needed_of, is_off, ends_auto}
use Rattle.effects.specs.Effect.{with_mode, with_display_bits, with_height, with_phase, with_pointer, with_auto, with_pending, with_latch, pushed, moved_of, set_of, status_of}

-- a pair is a kind and a byte
pub record Pair : Type 0 where
  pub kind : ℕ
  pub byte : ℕ

-- 0 data write, 1 command
abbrev pub datum : ℕ → Pair
datum b = record { kind = 0; byte = b }

abbrev pub code : ℕ → Pair
code b = record { kind = 1; byte = b }

-- what comes of a pair: done; done, with a byte read; or refused with a number, which changes nothing
pub data Step (M : Type 0) : Type 0 where
  done : M → Step M
  answered : M → ℕ → Step M
  refused : ℕ → Step M

-- the column Effect
abbrev pub effect_of : Panel → List ℕ → Machine → Command → Machine
effect_of p rom s (Set t) = machine (set_of t (bus s).pending.older (bus s).pending.newest s.registers) s.memory
effect_of p rom s (Mode e k) = on_display s (with_mode (display s) e k)
effect_of p rom s (DisplayMode b) = on_display s (with_display_bits (display s) b)
effect_of p rom s (Height h) = on_display s (with_height (display s) h)
effect_of p rom s (Run a) = on_bus s (with_auto (bus s) a)
effect_of p rom s (Store v) = on_bus (storing s (bus s).pending.newest) (with_pointer (bus s) (moved_of v (pointer s)))
effect_of p rom s (Load v) = on_bus s (with_pointer (with_latch (bus s) (there s)) (moved_of v (pointer s)))
effect_of p rom s Peek = on_bus s (peek_of p rom s (position p s.registers))
effect_of p rom s Copy = copy_of p rom s (position p s.registers)
effect_of p rom s (Bit on k) = storing s (with_bit (there s) k on)

-- an accepted command leaves no data pending
abbrev pub dropped : Machine → Machine
dropped s = on_bus s (with_pending (bus s) none)

-- 5 in auto, a defined code but B2H; 6 too few data pending
abbrev pub obey_of : Panel → List ℕ → Machine → Command → Step Machine
obey_of p rom s k =
    cond (ends_auto k || is_off (bus s).auto)
    (cond (nat_le (needed_of k) (bus s).pending.count) (done (dropped (effect_of p rom s k))) (refused 6))
    (refused 5)

-- a code is first taken apart; an undefined one ends the step there: 4
abbrev pub command_of : Panel → List ℕ → Machine → Decoded → Step Machine
command_of p rom s Undefined = refused 4
command_of p rom s (Defined k) = obey_of p rom s k

-- auto off: pending; in auto write stored at the pointer, which then moves by +1; in auto read 7
abbrev pub data_write_of : Auto → Machine → ℕ → Step Machine
data_write_of Off s b = done (on_bus s (with_pending (bus s) (pushed (bus s).pending b)))
data_write_of Write s b = done (on_bus (storing s b) (with_pointer (bus s) (moved_of Up (pointer s))))
data_write_of Read s b = refused 7

-- auto off: the latch, unchanged; in auto read the byte at the pointer, then +1, the latch stays; in auto write 7
abbrev pub data_read_of : Auto → Machine → Step Machine
data_read_of Off s = answered s (bus s).latch
data_read_of Write s = refused 7
data_read_of Read s = answered (on_bus s (with_pointer (bus s) (moved_of Up (pointer s)))) (there s)

-- blink tick: flips the phase (H)
abbrev pub tick_of : Machine → Machine
tick_of s = on_display s (with_phase (display s) (not (display s).phase))

-- 0 data write, 1 command, 2 data read, 3 status read, 4 blink tick; 3 for a kind above 4
abbrev pub step_of : Panel → List ℕ → Machine → Pair → Step Machine
step_of p rom s q =
    cond (q.kind == 0) (data_write_of (bus s).auto s q.byte)
    (cond (q.kind == 1) (command_of p rom s (decode_of q.byte))
    (cond (q.kind == 2) (data_read_of (bus s).auto s)
    (cond (q.kind == 3) (answered s (status_of s.registers))
    (cond (q.kind == 4) (done (tick_of s))
    (refused 3)))))
