-- What callers may use of a step: which registers and which memory it changes, and that a sound machine stays sound.
use mathlib.Core.Path.{◌≡◌, refl, sym, subst, ◌∙◌}
use mathlib.Core.Bool.{Bool, true, false, cond, ◌||◌, false≢true}
use mathlib.Core.List.{List}
use Prim.Native.Nat.{ℕ, ◌+◌, ◌<◌, ◌≤◌}
use native.Mathlib.Omega.{arith}
use lib.Dec.{ltb, leb, eqb}
use lib.ListN.{length, length-set}
use borrow.Author.Tests.{ltb-true}
use Rattle.ground.proofs.Stores.{stored-length}
use Rattle.ground.proofs.Tests.{cond_has, both, both_left, both_right}
use Rattle.codes.specs.Command.{needed_of, is_off, ends_auto, decode_of}
use Rattle.state.specs.declared.registers.Target.TheVariants as target
use Rattle.codes.proofs.Heights.{Sound, height, decode-sound}
use Rattle.state.specs.State.{valid_display, valid_bus, valid_registers, none}
use Rattle.state.specs.Combination.{is_attribute}
use Rattle.state.proofs.Valid.{Displaying, displaying, display-valid, Bussing, bussing, bus-valid}
use Rattle.controller.specs.Types.{Panel, Display, Pending, Registers, Auto, Off, Write, Read, Target, Command, Set, Mode, DisplayMode, Height, Run, Store, Load, Peek, Copy, Bit, Decoded, Defined, Undefined, Position, At, Nowhere}
use Rattle.effects.specs.Effect.{pushed, set_of, status_of}
use Rattle.sight.specs.Position.{position_of}
use Rattle.controller.proofs.Goings.{Leaves}
use Rattle.controller.specs.Access.{Pair, done, answered, refused, effect_of, dropped, obey_of, command_of, data_write_of, data_read_of, tick_of, step_of}
use Rattle.effects.specs.Machine.{Machine, machine}
use Rattle.sight.specs.Sight.{copied_of, copy_of}

-- the commands that leave the display group as it was: pointer, auto, transfer, peek, copy and bit
abbrev pub keeps_display : Command → Bool
keeps_display (Set target.Cursor) = false
keeps_display (Set target.Offset) = false
keeps_display (Set target.Pointer) = true
keeps_display (Set target.TextHome) = false
keeps_display (Set target.TextArea) = false
keeps_display (Set target.GraphicHome) = false
keeps_display (Set target.GraphicArea) = false
keeps_display (Mode e k) = false
keeps_display (DisplayMode b) = false
keeps_display (Height h) = false
keeps_display (Run a) = true
keeps_display (Store v) = true
keeps_display (Load v) = true
keeps_display Peek = true
keeps_display Copy = true
keeps_display (Bit on k) = true

-- the commands that leave memory as it was: all but a store, a copy and a bit
abbrev pub keeps_memory : Command → Bool
keeps_memory (Set t) = true
keeps_memory (Mode e k) = true
keeps_memory (DisplayMode b) = true
keeps_memory (Height h) = true
keeps_memory (Run a) = true
keeps_memory (Store v) = false
keeps_memory (Load v) = true
keeps_memory Peek = true
keeps_memory Copy = false
keeps_memory (Bit on k) = false

module _ (p : Panel) (rom : List ℕ) (s : Machine) where
  copy-display : (x : Position) → (copy_of p rom s x).registers.display ≡ s.registers.display
  copy-display (At r c) =
      cond_has (λ (m : Machine). m.registers.display ≡ s.registers.display) (p.dual || is_attribute s.registers.display.combination) refl refl
  copy-display Nowhere = refl

  pub display-kept : (k : Command) → keeps_display k ≡ true → (effect_of p rom s k).registers.display ≡ s.registers.display
  display-kept (Set target.Cursor) e = absurd (false≢true e)
  display-kept (Set target.Offset) e = absurd (false≢true e)
  display-kept (Set target.Pointer) e = refl
  display-kept (Set target.TextHome) e = absurd (false≢true e)
  display-kept (Set target.TextArea) e = absurd (false≢true e)
  display-kept (Set target.GraphicHome) e = absurd (false≢true e)
  display-kept (Set target.GraphicArea) e = absurd (false≢true e)
  display-kept (Mode f k) e = absurd (false≢true e)
  display-kept (DisplayMode b) e = absurd (false≢true e)
  display-kept (Height h) e = absurd (false≢true e)
  display-kept (Run a) e = refl
  display-kept (Store v) e = refl
  display-kept (Load v) e = refl
  display-kept Peek e = refl
  display-kept Copy e = copy-display (position_of p s.registers.display.graphic s.registers.bus.pointer)
  display-kept (Bit on k) e = refl

  pub memory_kept : (k : Command) → keeps_memory k ≡ true → (effect_of p rom s k).memory ≡ s.memory
  memory_kept (Set t) e = refl
  memory_kept (Mode f k) e = refl
  memory_kept (DisplayMode b) e = refl
  memory_kept (Height h) e = refl
  memory_kept (Run a) e = refl
  memory_kept (Store v) e = absurd (false≢true e)
  memory_kept (Load v) e = refl
  memory_kept Peek e = refl
  memory_kept Copy e = absurd (false≢true e)
  memory_kept (Bit on k) e = absurd (false≢true e)

-- a machine that may be acted on: a valid state and the whole memory
pub record Sounds (s : Machine) : Type 0 where
  pub display : Displaying s.registers.display.cursor s.registers.display.offset
  pub bus : Bussing s.registers.bus.pending
  pub memory : length s.memory ≡ 65536

pub sounds : (r : Registers) (mem : List ℕ) → valid_registers r ≡ true → length mem ≡ 65536 → Sounds (machine r mem)
sounds r mem e l =
    record {
      display = displaying r.display (both_left _ (valid_bus r.bus) e);
      bus = bussing r.bus (both_right (valid_display r.display) _ e);
      memory = l;
    }

pub sounds-valid : {s : Machine} → Sounds s → valid_registers s.registers ≡ true
sounds-valid {s} k = both (display-valid s.registers.display k.display) (bus-valid s.registers.bus k.bus)

none-bussing : Bussing none
none-bussing = record { count = omega arith; older = λ l. refl; newest = λ l. refl }

pushed-bussing : (q : Pending) (b : ℕ) → Bussing q → Bussing (pushed q b)
pushed-bussing q b k = let t = go (ltb q.count 2) refl in record { count = t.0; older = t.1; newest = t.2 }
  where
    go : (t : Bool) → ltb q.count 2 ≡ t
        → (cond t (q.count + 1) 2 ≤ 2) × (cond t (q.count + 1) 2 < 2 → q.newest ≡ 0) × (cond t (q.count + 1) 2 < 1 → b ≡ 0)
    go true e = let l : q.count < 2 = ltb-true q.count 2 e in (omega arith, λ m. k.newest (omega arith), λ m. absurd (omega arith))
    go false e = (omega arith, λ m. absurd (omega arith), λ m. absurd (omega arith))

module _ (p : Panel) (rom : List ℕ) (s : Machine) (k : Sounds s) where
  set-displaying : (t : Target) (d1 d2 : ℕ) → Displaying (set_of t d1 d2 s.registers).display.cursor (set_of t d1 d2 s.registers).display.offset
  set-displaying target.Cursor d1 d2 =
      record { x = omega arith; y = omega arith; offset = k.display.offset; some_height = k.display.some_height; height = k.display.height }
  set-displaying target.Offset d1 d2 =
      record { x = k.display.x; y = k.display.y; offset = omega arith; some_height = k.display.some_height; height = k.display.height }
  set-displaying target.Pointer d1 d2 = k.display
  set-displaying target.TextHome d1 d2 = k.display
  set-displaying target.TextArea d1 d2 = k.display
  set-displaying target.GraphicHome d1 d2 = k.display
  set-displaying target.GraphicArea d1 d2 = k.display

  pub effect-displaying : (c : Command) → Sound (Defined c) → Displaying (effect_of p rom s c).registers.display.cursor (effect_of p rom s c).registers.display.offset
  effect-displaying (Set t) h = set-displaying t s.registers.bus.pending.older s.registers.bus.pending.newest
  effect-displaying (Mode e q) h = k.display
  effect-displaying (DisplayMode b) h = k.display
  effect-displaying (Height n) (height l m) =
      record { x = k.display.x; y = k.display.y; offset = k.display.offset; some_height = l; height = m }
  effect-displaying (Run a) h = k.display
  effect-displaying (Store v) h = k.display
  effect-displaying (Load v) h = k.display
  effect-displaying Peek h = k.display
  effect-displaying Copy h =
      subst (λ (d : Display). Displaying d.cursor d.offset) (sym (display-kept p rom s Copy refl)) k.display
  effect-displaying (Bit on b) h = k.display

  copy-long : (x : Position) → length (copy_of p rom s x).memory ≡ length s.memory
  unfolding copied_of
  copy-long (At r c) =
      cond_has (λ (m : Machine). length m.memory ≡ length s.memory) (p.dual || is_attribute s.registers.display.combination) refl
      (stored-length s.memory _ _)
  copy-long Nowhere = refl

  pub effect-long : (c : Command) → length (effect_of p rom s c).memory ≡ length s.memory
  effect-long (Set t) = refl
  effect-long (Mode e q) = refl
  effect-long (DisplayMode b) = refl
  effect-long (Height h) = refl
  effect-long (Run a) = refl
  effect-long (Store v) = length-set s.memory _ _
  effect-long (Load v) = refl
  effect-long Peek = refl
  effect-long Copy = copy-long (position_of p s.registers.display.graphic s.registers.bus.pointer)
  effect-long (Bit on b) = length-set s.memory _ _

  obey-sound : (c : Command) → Sound (Defined c) → Leaves Sounds (obey_of p rom s c)
  obey-sound c h = go (ends_auto c || is_off s.registers.bus.auto) (leb (needed_of c) s.registers.bus.pending.count)
    where
      go : (t u : Bool) → Leaves Sounds (cond t (cond u (done (dropped (effect_of p rom s c))) (refused 6)) (refused 5))
      go true true = record { display = effect-displaying c h; bus = none-bussing; memory = effect-long c ∙ k.memory }
      go true false = tt
      go false u = tt

  command-sound : (d : Decoded) → Sound d → Leaves Sounds (command_of p rom s d)
  command-sound (Defined c) h = obey-sound c h
  command-sound Undefined h = tt

  write-sound : (a : Auto) (b : ℕ) → Leaves Sounds (data_write_of a s b)
  write-sound Off b = record { display = k.display; bus = pushed-bussing s.registers.bus.pending b k.bus; memory = k.memory }
  write-sound Write b =
      record {
        display = k.display;
        bus = k.bus;
        memory = length-set s.memory _ _ ∙ k.memory;
      }
  write-sound Read b = tt

  read-sound : (a : Auto) → Leaves Sounds (data_read_of a s)
  read-sound Off = k
  read-sound Write = tt
  read-sound Read =
      record { display = k.display; bus = k.bus; memory = k.memory }

  -- a valid state stays valid, and memory keeps its length
  pub step-sound : (q : Pair) → Leaves Sounds (step_of p rom s q)
  step-sound q = go (eqb q.kind 0) (eqb q.kind 1) (eqb q.kind 2) (eqb q.kind 3) (eqb q.kind 4)
    where
      go : (a b c d e : Bool)
          → Leaves Sounds (cond a (data_write_of s.registers.bus.auto s q.byte) (cond b (command_of p rom s (decode_of q.byte)) (cond c (data_read_of s.registers.bus.auto s) (cond d (answered s (status_of s.registers)) (cond e (done (tick_of s)) (refused 3))))))
      go true b c d e = write-sound s.registers.bus.auto q.byte
      go false true c d e = command-sound (decode_of q.byte) (decode-sound q.byte)
      go false false true d e = read-sound s.registers.bus.auto
      go false false false true e = k
      go false false false false true =
          record {
            display = k.display;
            bus = k.bus;
            memory = k.memory;
          }
      go false false false false false = tt
