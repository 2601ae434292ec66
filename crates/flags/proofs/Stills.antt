-- A pair that answers stores nothing and alters nothing that is shown.
use Rattle.std.proofs.Common.{◌≡◌, ℕ, Bool, true, false, cond, ◌||◌, eqb, leb, List, refl}
use Rattle.ground.proofs.Tests.{cond_has}
use Rattle.codes.specs.Command.{decode_of, ends_auto, needed_of, is_off}
use Rattle.effects.specs.Effect.{is_write, status_of}
use Rattle.effects.specs.Machine.{Machine, display}
use Rattle.controller.specs.Types.{Auto, Off, Write, Read, Decoded, Defined, Undefined}
use Rattle.controller.specs.Access.{Pair, Step, done, answered, refused, command_of, data_write_of, data_read_of, tick_of, step_of}
use Rattle.stores.specs.Stores.{code_stores, stores_of}
use Rattle.flags.specs.Types.{Panel}

-- what is answered leaves what is shown, and stores n bytes, which are none
abbrev pub Still : Machine → ℕ → Step Machine → Type 0
Still s n (done t) = Unit {0}
Still s n (answered t b) = (display t ≡ display s) × (n ≡ 0)
Still s n (refused m) = Unit {0}

module _ (p : Panel) (rom : List ℕ) (s : Machine) where
  wrote : (n : ℕ) (a : Auto) (b : ℕ) → Still s n (data_write_of a s b)
  wrote n Off b = tt
  wrote n Write b = tt
  wrote n Read b = tt

  obeyed : (n : ℕ) (d : Decoded) → Still s n (command_of p rom s d)
  obeyed n (Defined k) =
      cond_has (Still s n) (ends_auto k || is_off s.registers.bus.auto) (cond_has (Still s n) (leb (needed_of k) s.registers.bus.pending.count) tt tt) tt
  obeyed n Undefined = tt

  was-read : (a : Auto) → Still s 0 (data_read_of a s)
  was-read Off = (refl, refl)
  was-read Write = tt
  was-read Read = (refl, refl)

  pub stills : (q : Pair) → Still s (stores_of p s.registers q) (step_of p rom s q)
  stills q = go (eqb q.kind 0) (eqb q.kind 1) (eqb q.kind 2) (eqb q.kind 3) (eqb q.kind 4)
    where
      go : (a b c d e : Bool)
          → Still s (cond a (cond (is_write s.registers.bus.auto) 1 0) (cond b (code_stores p s.registers (decode_of q.byte)) 0))
          (cond a (data_write_of s.registers.bus.auto s q.byte)
          (cond b (command_of p rom s (decode_of q.byte))
          (cond c (data_read_of s.registers.bus.auto s) (cond d (answered s (status_of s.registers)) (cond e (done (tick_of s)) (refused 3))))))
      go true b c d e = wrote _ s.registers.bus.auto q.byte
      go false true c d e = obeyed _ (decode_of q.byte)
      go false false true d e = was-read s.registers.bus.auto
      go false false false true e = (refl, refl)
      go false false false false true = tt
      go false false false false false = tt
