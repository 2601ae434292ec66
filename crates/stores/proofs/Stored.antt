-- What an accepted pair stores: every other byte is kept, and a pair that stores leaves the display group as it was.
use mathlib.Core.Path.{◌≡◌, refl, ap, sym, subst, ◌∙◌}
use mathlib.Core.Bool.{Bool, true, false, cond, ◌||◌}
use mathlib.Core.List.{List, [], ◌∷◌}
use Prim.Native.Nat.{ℕ, suc, ◌+◌, ◌-◌, ◌%◌, ◌<◌}
use native.Mathlib.Decide.{dec_lt}
use native.Mathlib.Omega.{arith}
use lib.Dec.{leb, eqb}
use lib.ListN.{length, get_or, set}
use lib.Seq.{get_or-set_other, set_out}
use Rattle.ground.specs.Lists.{build, stored}
use Rattle.ground.proofs.Lists.{build-length}
use Rattle.state.specs.Combination.{is_attribute}
use Rattle.codes.specs.Command.{needed_of, is_off, ends_auto, decode_of}
use Rattle.state.specs.Address.{address_of}
use Rattle.display.specs.Displayed.{displayed_byte}
use Rattle.effects.specs.Machine.{Machine, machine, on_bus}
use Rattle.effects.specs.Effect.{with_bus, with_error, is_write, status_of}
use Rattle.sight.specs.Position.{position_of}
use Rattle.sight.specs.Sight.{copied_of, copy_of}
use Rattle.sight.proofs.Positions.{Within, position-within}
use Rattle.controller.specs.Types.{Panel, Auto, Off, Write, Read, Command, Set, Mode, DisplayMode, Height, Run, Store, Load, Peek, Copy, Bit, Decoded, Defined, Undefined, Position, At, Nowhere}
use Rattle.controller.specs.Access.{Pair, done, answered, refused, effect_of, dropped, obey_of, command_of, data_write_of, data_read_of, tick_of, step_of}
use Rattle.stores.specs.Stores.{copy_stores, command_stores, code_stores, stores_of, from_address}
use Rattle.controller.proofs.Goings.{Leaves}

-- n bytes from an address on may differ, every other one is kept
pub record Stored (at n : ℕ) (mem memory : List ℕ) : Type 0 where
  pub kept : (x : ℕ) → ((j : ℕ) → j < n → x ≡ from_address at j → ⊥) → get_or memory x 0 ≡ get_or mem x 0

none : (at : ℕ) (mem : List ℕ) → Stored at 0 mem mem
none at mem = record { kept = λ x h. refl }

-- one byte: a memory of 65,536 has no place behind it to store in
pub one-stored : (at b : ℕ) (mem : List ℕ) → length mem ≡ 65536 → Stored at 1 mem (set mem at b)
one-stored at b mem l = record { kept = λ x h. go (dec_lt at 65536) x h }
  where
    go : Dec (at < 65536) → (x : ℕ) → ((j : ℕ) → j < 1 → x ≡ from_address at j → ⊥) → get_or (set mem at b) x 0 ≡ get_or mem x 0
    go (yes f) x h = get_or-set_other mem at x b 0 (λ e. h 0 (omega arith) (omega arith))
    go (no f) x h = ap (λ (m : List ℕ). get_or m x 0) (set_out mem at b (omega arith))

-- bytes one after the other
pub many-stored : (bs mem : List ℕ) (at : ℕ) → at < 65536 → Stored at (length bs) mem (stored mem at bs)
unfolding stored
many-stored [] mem at l = none at mem
many-stored (b ∷ bs) mem at l =
    record {
      kept = λ x h.
          (many-stored bs (set mem at b) ((at + 1) % 65536) (omega arith)).kept x
          (λ j m e. h (suc j) (omega arith) (e ∙ (let f : ((at + 1) % 65536 + j) % 65536 ≡ (at + suc j) % 65536 = omega arith in f)))
          ∙ get_or-set_other mem at x b 0 (λ e. h 0 (omega arith) (omega arith));
    }

module _ (p : Panel) (rom : List ℕ) (s : Machine) (l : length s.memory ≡ 65536) where
  abbrev Storing : ℕ → Machine → Type 0
  Storing n t = Stored s.registers.bus.pointer n s.memory t.memory

  copied : (r c : ℕ) → s.registers.bus.pointer ≡ address_of s.registers.display.graphic r c
      → Stored s.registers.bus.pointer (p.columns - c) s.memory (copied_of p rom s r c)
  unfolding copied_of
  copied r c e =
      let bytes : List ℕ = build (p.columns - c) (λ j. displayed_byte p s.registers.display s.memory rom r (c + j)) in
      subst (λ (n : ℕ). Stored s.registers.bus.pointer n s.memory (stored s.memory (address_of s.registers.display.graphic r c) bytes))
      (build-length (p.columns - c) (λ j. displayed_byte p s.registers.display s.memory rom r (c + j)))
      (subst (λ (a : ℕ). Stored a (length bytes) s.memory (stored s.memory (address_of s.registers.display.graphic r c) bytes)) (sym e)
      (many-stored bytes s.memory (address_of s.registers.display.graphic r c) (omega arith)))

  copy-stores : (x : Position) → Within p s.registers.display.graphic s.registers.bus.pointer x
      → Storing (copy_stores p s.registers.display x) (copy_of p rom s x)
  copy-stores (At r c) w = go (p.dual || is_attribute s.registers.display.combination)
    where
      go : (t : Bool)
          → Storing (cond t 0 (p.columns - c))
          (cond t (on_bus s (with_error s.registers.bus true)) (machine (with_bus s.registers (with_error s.registers.bus false)) (copied_of p rom s r c)))
      go true = none s.registers.bus.pointer s.memory
      go false = copied r c w.2
  copy-stores Nowhere w = none s.registers.bus.pointer s.memory

  effect-stores : (k : Command) → Storing (command_stores p s.registers k) (effect_of p rom s k)
  effect-stores (Set t) = none _ _
  effect-stores (Mode e k) = none _ _
  effect-stores (DisplayMode b) = none _ _
  effect-stores (Height h) = none _ _
  effect-stores (Run a) = none _ _
  effect-stores (Store v) = one-stored s.registers.bus.pointer _ s.memory l
  effect-stores (Load v) = none _ _
  effect-stores Peek = none _ _
  effect-stores Copy =
      copy-stores (position_of p s.registers.display.graphic s.registers.bus.pointer) (position-within p s.registers.display.graphic s.registers.bus.pointer)
  effect-stores (Bit on k) = one-stored s.registers.bus.pointer _ s.memory l

  obey-stores : (k : Command) → Leaves (Storing (command_stores p s.registers k)) (obey_of p rom s k)
  obey-stores k = go (ends_auto k || is_off s.registers.bus.auto) (leb (needed_of k) s.registers.bus.pending.count)
    where
      go : (t u : Bool) → Leaves (Storing (command_stores p s.registers k)) (cond t (cond u (done (dropped (effect_of p rom s k))) (refused 6)) (refused 5))
      go true true = effect-stores k
      go true false = tt
      go false u = tt

  command-stores : (d : Decoded) → Leaves (Storing (code_stores p s.registers d)) (command_of p rom s d)
  command-stores (Defined k) = obey-stores k
  command-stores Undefined = tt

  write-stores : (a : Auto) (b : ℕ) → Leaves (Storing (cond (is_write a) 1 0)) (data_write_of a s b)
  write-stores Off b = none _ _
  write-stores Write b = one-stored s.registers.bus.pointer b s.memory l
  write-stores Read b = tt

  read-stores : (a : Auto) → Leaves (Storing 0) (data_read_of a s)
  read-stores Off = none _ _
  read-stores Write = tt
  read-stores Read = none _ _

  -- what a step leaves: the bytes that the pair stores, and every other one as it was
  pub step-stores : (q : Pair) → Leaves (Storing (stores_of p s.registers q)) (step_of p rom s q)
  step-stores q = go (eqb q.kind 0) (eqb q.kind 1) (eqb q.kind 2) (eqb q.kind 3) (eqb q.kind 4)
    where
      go : (a b c d e : Bool)
          → Leaves (Storing (cond a (cond (is_write s.registers.bus.auto) 1 0) (cond b (code_stores p s.registers (decode_of q.byte)) 0)))
          (cond a (data_write_of s.registers.bus.auto s q.byte) (cond b (command_of p rom s (decode_of q.byte)) (cond c (data_read_of s.registers.bus.auto s) (cond d (answered s (status_of s.registers)) (cond e (done (tick_of s)) (refused 3))))))
      go true b c d e = write-stores s.registers.bus.auto q.byte
      go false true c d e = command-stores (decode_of q.byte)
      go false false true d e = read-stores s.registers.bus.auto
      go false false false true e = none _ _
      go false false false false true = none _ _
      go false false false false false = tt
