-- A code that sets the cursor's height sets one from 1 to 8.
use mathlib.Core.Path.{◌≡◌, refl}
use mathlib.Core.Bool.{Bool, true, false, cond}
use Prim.Native.Nat.{ℕ, ◌+◌, ◌/◌, ◌%◌, ◌≤◌, ◌<◌}
use native.Mathlib.Omega.{arith}
use lib.Dec.{ltb, eqb}
use borrow.Author.Tests.{ltb-true}
use Rattle.ground.proofs.Tests.{cond_has}
use Rattle.state.specs.declared.registers.Auto.{Auto}
use Rattle.state.specs.declared.registers.Combination.{Combination}
use Rattle.state.specs.declared.registers.DisplayBits.{DisplayBits}
use Rattle.state.specs.declared.registers.Target.{Target}
use Rattle.state.specs.declared.registers.Move.{Move}
use Rattle.codes.specs.Types.{Set, Mode, DisplayMode, Height, Run, Store, Load, Peek, Copy, Bit, Decoded, Defined, Undefined}
use Rattle.codes.specs.Command.{height_of, group_of, decode_of}

-- any command, but a height in range
pub data Sound : Decoded → Type 0 where
  set : {t : Target} → Sound (Defined (Set t))
  mode : {e : Bool} {k : Combination} → Sound (Defined (Mode e k))
  show : {s : DisplayBits} → Sound (Defined (DisplayMode s))
  height : {h : ℕ} → 1 ≤ h → h ≤ 8 → Sound (Defined (Height h))
  run : {a : Auto} → Sound (Defined (Run a))
  store : {m : Move} → Sound (Defined (Store m))
  load : {m : Move} → Sound (Defined (Load m))
  peek : Sound (Defined Peek)
  copy : Sound (Defined Copy)
  bit : {s : Bool} {k : ℕ} → Sound (Defined (Bit s k))
  undefined : Sound Undefined

height-sound : (low : ℕ) → Sound (height_of low)
height-sound low = go (ltb low 8) (λ e. e)
  where
    go : (t : Bool) → (t ≡ true → ltb low 8 ≡ true) → Sound (cond t (Defined (Height (low + 1))) Undefined)
    go true h = let l : low < 8 = ltb-true low 8 (h refl) in height {h = low + 1} (omega arith) (omega arith)
    go false h = undefined

key : (t : Bool) {x y : Decoded} → Sound x → Sound y → Sound (cond t x y)
key t h k = cond_has Sound t h k

group-sound : (high low : ℕ) → Sound (group_of high low)
group-sound high low =
    key (eqb high 2) (key (eqb low 1) set (key (eqb low 2) set (key (eqb low 4) set undefined)))
    (key (eqb high 4) (key (eqb low 0) set (key (eqb low 1) set (key (eqb low 2) set (key (eqb low 3) set undefined))))
    (key (eqb high 8) (key (eqb (low % 8) 0) mode (key (eqb (low % 8) 1) mode (key (eqb (low % 8) 3) mode (key (eqb (low % 8) 4) mode undefined))))
    (key (eqb high 9) show
    (key (eqb high 10) (height-sound low)
    (key (eqb high 11) (key (eqb low 0) run (key (eqb low 1) run (key (eqb low 2) run undefined)))
    (key (eqb high 12) (key (eqb low 0) store (key (eqb low 1) load (key (eqb low 2) store (key (eqb low 3) load (key (eqb low 4) store (key (eqb low 5) load undefined))))))
    (key (eqb high 14) (key (eqb low 0) peek (key (eqb low 8) copy undefined))
    (key (eqb high 15) bit undefined))))))))

pub decode-sound : (code : ℕ) → Sound (decode_of code)
decode-sound code = group-sound (code / 16) (code % 16)
