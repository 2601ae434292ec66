-- One turn of a run: which steps answer, that a refusal's number is 3 to 7, and what the code's turn comes to.
use Rattle.std.proofs.Common.{zero}
use mathlib.Core.Path.{◌≡◌, refl, ap, sym, subst}
use mathlib.Core.Logic.{◌⊎◌, inl, inr}
use mathlib.Core.Bool.{Bool, true, false, cond, ◌||◌, true≢false}
use mathlib.Core.List.{List}
use Prim.Native.Nat.{ℕ, suc, ◌<◌, ◌≤◌}
use native.Mathlib.Omega.{arith}
use lib.Dec.{leb, eqb}
use borrow.Author.Tests.{eqb-true}
use Rattle.ground.proofs.Tests.{cond_has, either}
use Rattle.codes.specs.Command.{needed_of, is_off, ends_auto, decode_of}
use Rattle.controller.specs.Types.{Panel, Registers, Auto, Off, Write, Read, Command, Decoded, Defined, Undefined}
use Rattle.effects.specs.Effect.{status_of}
use Rattle.controller.specs.Access.{Step, done, answered, refused, obey_of, command_of, data_write_of, data_read_of, tick_of, step_of}
use Rattle.effects.specs.Machine.{Machine, machine}

-- from s a step that answers and leaves memory, or is refused by a number from 3 to 7
pub data Answering (s : Machine) : Step Machine → Type 0 where
  answers : {r : Registers} {b : ℕ} → Answering s (answered (machine r s.memory) b)
  declines : {n : ℕ} → 2 ≤ n → n < 7 → Answering s (refused (suc n))

-- a step that acts without an answer, or is refused by a number from 3 to 7
pub data Acting : Step Machine → Type 0 where
  acts : {s : Machine} → Acting (done s)
  refuses : {n : ℕ} → 2 ≤ n → n < 7 → Acting (refused (suc n))

abbrev refusal_of : Step Machine → ℕ
refusal_of (done s) = 0
refusal_of (answered s b) = 0
refusal_of (refused n) = n

abbrev kind_of : Step Machine → ℕ
kind_of (done s) = 0
kind_of (answered s b) = 0
kind_of (refused n) = 1

module _ (p : Panel) (rom : List ℕ) (s : Machine) where
  pub read-answering : (a : Auto) → Answering s (data_read_of a s)
  read-answering Off = answers
  read-answering Write = declines {n = 6} (omega arith) (omega arith)
  read-answering Read = answers

  pub write-acting : (a : Auto) (b : ℕ) → Acting (data_write_of a s b)
  write-acting Off b = acts
  write-acting Write b = acts
  write-acting Read b = refuses {n = 6} (omega arith) (omega arith)

  obey-acting : (k : Command) → Acting (obey_of p rom s k)
  obey-acting k =
      cond_has Acting (ends_auto k || is_off s.registers.bus.auto)
      (cond_has Acting (leb (needed_of k) s.registers.bus.pending.count) acts (refuses {n = 5} (omega arith) (omega arith))) (refuses {n = 4} (omega arith) (omega arith))

  pub command-acting : (d : Decoded) → Acting (command_of p rom s d)
  command-acting (Defined k) = obey-acting k
  command-acting Undefined = refuses {n = 3} (omega arith) (omega arith)

  -- kinds 2 and 3 answer
  pub step-answering : (k b : ℕ) → (eqb k 2 || eqb k 3) ≡ true → Answering s (step_of p rom s (record { kind = k; byte = b }))
  step-answering k b e = go (either (eqb k 2) (eqb k 3) e)
    where
      go : (eqb k 2 ≡ true) ⊎ (eqb k 3 ≡ true) → Answering s (step_of p rom s (record { kind = k; byte = b }))
      go (inl h) = subst (λ (n : ℕ). Answering s (step_of p rom s (record { kind = n; byte = b }))) (sym (eqb-true k 2 h)) (read-answering s.registers.bus.auto)
      go (inr h) = subst (λ (n : ℕ). Answering s (step_of p rom s (record { kind = n; byte = b }))) (sym (eqb-true k 3 h)) answers

  -- the others do not
  pub step-acting : (k b : ℕ) → (eqb k 2 || eqb k 3) ≡ false → Acting (step_of p rom s (record { kind = k; byte = b }))
  step-acting k b e = go (eqb k 2) (eqb k 3) e
    where
      go : (t u : Bool) → (t || u) ≡ false
          → Acting (cond (eqb k 0) (data_write_of s.registers.bus.auto s b) (cond (eqb k 1) (command_of p rom s (decode_of b)) (cond t (data_read_of s.registers.bus.auto s) (cond u (answered s (status_of s.registers)) (cond (eqb k 4) (done (tick_of s)) (refused 3))))))
      go true u h = absurd (true≢false h)
      go false true h = absurd (true≢false h)
      go false false h =
          cond_has Acting (eqb k 0) (write-acting s.registers.bus.auto b)
          (cond_has Acting (eqb k 1) (command-acting (decode_of b)) (cond_has Acting (eqb k 4) acts (refuses {n = 2} (omega arith) (omega arith))))

  -- a refused pair's number
  pub step-number : (k b n : ℕ) → step_of p rom s (record { kind = k; byte = b }) ≡ refused n → (3 ≤ n) × (n ≤ 7)
  step-number k b n e = go (eqb k 2 || eqb k 3) refl
    where
      by-answering : (o : Step Machine) → Answering s o → o ≡ refused n → (3 ≤ n) × (n ≤ 7)
      by-answering (refused (suc m)) (declines many few) f = let g : suc m ≡ n = ap refusal_of f in (omega arith, omega arith)
      by-answering (answered x c) answers f = let g : ◌≡◌ {A = ℕ} 0 1 = ap kind_of f in absurd (let y : ⊥ = omega arith in y)
      by-answering (done _) x3 f = elim x3 [ ]
      by-answering (refused zero) x6 f = elim x6 [ ]

      by-acting : (o : Step Machine) → Acting o → o ≡ refused n → (3 ≤ n) × (n ≤ 7)
      by-acting (refused (suc m)) (refuses many few) f = let g : suc m ≡ n = ap refusal_of f in (omega arith, omega arith)
      by-acting (done x) acts f = let g : ◌≡◌ {A = ℕ} 0 1 = ap kind_of f in absurd (let y : ⊥ = omega arith in y)
      by-acting (answered _ _) x4 f = elim x4 [ ]
      by-acting (refused zero) x5 f = elim x5 [ ]

      go : (t : Bool) → (eqb k 2 || eqb k 3) ≡ t → (3 ≤ n) × (n ≤ 7)
      go true h = by-answering _ (step-answering k b h) e
      go false h = by-acting _ (step-acting k b h) e
