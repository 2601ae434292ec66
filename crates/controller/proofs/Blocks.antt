-- A block of data in auto write: its bytes stored from the pointer on, and the pointer behind them.
use mathlib.Core.Path.{◌≡◌, refl, ap, sym, ◌∙◌}
use mathlib.Core.Bool.{Bool, true, false≢true}
use mathlib.Core.List.{List, [], ◌∷◌}
use Prim.Native.Nat.{ℕ, zero, suc, ◌+◌, ◌-◌, ◌%◌, ◌<◌, ◌≤◌}
use native.Mathlib.Omega.{arith}
use lib.ListN.{length, take, drop, set}
use lib.Seq.{drop-drop}
use Rattle.ground.specs.Lists.{stored}
use Rattle.controller.specs.Types.{Panel, Auto, Off, Write, Read, Registers}
use Rattle.effects.specs.Effect.{with_bus, with_pointer, is_write}
use Rattle.controller.specs.Access.{Pair, data_write_of, step_of}
use Rattle.effects.specs.Machine.{Machine, machine}
use Rattle.controller.specs.Run.{pairs_of, turn_of, after_turn, Run, run_from, short}
use Rattle.controller.specs.Skip.{Skipping, skip_by, skip_step}
use Rattle.controller.specs.Ready.{standing, standing_on, pairs_from, data_of}
pub use Rattle.turns.proofs.Blocks.{pair_at, pair-next, pairs-here, data-none, block-moves}

drop-take : {A : Type 0} (n m : ℕ) (l : List A) → drop n (take m l) ≡ take (m - n) (drop n l)
drop-take zero m l = ap (λ (k : ℕ). take k l) (let e : m ≡ m - 0 = omega arith in e)
drop-take (suc n) zero l = ap (λ (k : ℕ). take k (drop (suc n) l)) (let e : 0 ≡ 0 - suc n = omega arith in e)
drop-take {A} (suc n) (suc m) [] = sym (take_none (suc m - suc n))
  where
    take_none : (k : ℕ) → ◌≡◌ {A = List A} (take k []) []
    take_none zero = refl
    take_none (suc k) = refl
drop-take (suc n) (suc m) (x ∷ l) = drop-take n m l ∙ ap (λ (k : ℕ). take k (drop n l)) (let e : m - n ≡ suc m - suc n = omega arith in e)

pub pairs-behind : (log : List ℕ) (total i n : ℕ) → drop n (pairs_from log i total) ≡ pairs_from log (i + n) total
pairs-behind log total i n =
    drop-take n (total - i) (drop i (pairs_of log))
    ∙ (λ t. take ((let e : total - i - n ≡ total - (i + n) = omega arith in e) t) (drop-drop n i (pairs_of log) t))

pub write-only : (a : Auto) → is_write a ≡ true → a ≡ Write
write-only Off e = absurd (false≢true e)
write-only Write e = refl
write-only Read e = absurd (false≢true e)

-- either run over a block of data in auto write: as many pairs on, its bytes stored, the pointer behind them
module _ (p : Panel) (rom : List ℕ) (on : Bool) (skips : List ℕ) (listed : ℕ) where
  abbrev behind_block : List Pair → ℕ → Registers → List ℕ → List ℕ → ℕ → ℕ → Run (Skipping Machine)
  behind_block qs k r m a g place =
      run_from (skip_step on (step_of p rom)) (k + length (data_of qs)) (drop (length (data_of qs)) qs)
      (standing_on (standing (with_bus r (with_pointer r.bus ((r.bus.pointer + length (data_of qs)) % 65536))) (stored m r.bus.pointer (data_of qs)) a g) skips listed (place + length (data_of qs)))

  none-run : (qs : List Pair) (k : ℕ) (r : Registers) (m a : List ℕ) (g place : ℕ) → r.bus.pointer < 65536 → data_of qs ≡ []
      → run_from (skip_step on (step_of p rom)) k qs (standing_on (standing r m a g) skips listed place) ≡ behind_block qs k r m a g place
  unfolding stored
  none-run qs k r m a g place l e =
      let i : k ≡ k + 0 = omega arith in
      let j : r.bus.pointer ≡ (r.bus.pointer + 0) % 65536 = omega arith in
      let h : place ≡ place + 0 = omega arith in
      (λ t. run_from (skip_step on (step_of p rom)) (i t) qs (standing_on (standing (with_bus r (with_pointer r.bus (j t))) m a g) skips listed (h t)))
      ∙ (λ t. run_from (skip_step on (step_of p rom)) (k + length (sym e t)) (drop (length (sym e t)) qs) (standing_on (standing (with_bus r (with_pointer r.bus ((r.bus.pointer + length (sym e t)) % 65536))) (stored m r.bus.pointer (sym e t)) a g) skips listed (place + length (sym e t))))

  pub block_run : (qs : List Pair) (k : ℕ) (r : Registers) (m a : List ℕ) (g place : ℕ) → r.bus.auto ≡ Write → r.bus.pointer < 65536
      → run_from (skip_step on (step_of p rom)) k qs (standing_on (standing r m a g) skips listed place) ≡ behind_block qs k r m a g place
  unfolding run_from data_of stored
  block_run [] k r m a g place w l = none-run [] k r m a g place l refl
  block_run (q ∷ qs) k r m a g place w l =
      go q.kind q.byte (λ b. block_run qs (suc k) (with_bus r (with_pointer r.bus ((r.bus.pointer + 1) % 65536))) (set m r.bus.pointer b) a g (place + 1) w (omega arith))
    where
      go : (n b : ℕ)
          → ((b : ℕ) → run_from (skip_step on (step_of p rom)) (suc k) qs (standing_on (standing (with_bus r (with_pointer r.bus ((r.bus.pointer + 1) % 65536))) (set m r.bus.pointer b) a g) skips listed (place + 1))
          ≡ behind_block qs (suc k) (with_bus r (with_pointer r.bus ((r.bus.pointer + 1) % 65536))) (set m r.bus.pointer b) a g (place + 1))
          → run_from (skip_step on (step_of p rom)) k (record { kind = n; byte = b } ∷ qs) (standing_on (standing r m a g) skips listed place)
          ≡ behind_block (record { kind = n; byte = b } ∷ qs) k r m a g place
      go zero b rest =
          let i : suc k + length (data_of qs) ≡ k + suc (length (data_of qs)) = omega arith in
          let j : ((r.bus.pointer + 1) % 65536 + length (data_of qs)) % 65536 ≡ (r.bus.pointer + suc (length (data_of qs))) % 65536 = omega arith in
          let h : place + 1 + length (data_of qs) ≡ place + suc (length (data_of qs)) = omega arith in
          ap
          (λ (x : Auto). after_turn (turn_of (standing_on (standing r m a g) skips listed place) (skip_by on (standing_on (standing r m a g) skips listed place).machine (data_write_of x (machine r m) b)))
          (λ t. run_from (skip_step on (step_of p rom)) (suc k) qs t)
          (λ n. record { standing = standing_on (standing r m a g) skips listed place; taken = k; end = short n })) w
          ∙ rest b
          ∙ (λ t. run_from (skip_step on (step_of p rom)) (i t) (drop (length (data_of qs)) qs) (standing_on (standing (with_bus r (with_pointer r.bus (j t))) (stored (set m r.bus.pointer b) ((r.bus.pointer + 1) % 65536) (data_of qs)) a g) skips listed (h t)))
      go (suc n) b rest = none-run (record { kind = suc n; byte = b } ∷ qs) k r m a g place l (data-none (record { kind = suc n; byte = b }) qs (λ e. omega arith))

-- one pair on, one less is left
pub nearer : {i total : ℕ} → i < total → total - (i + 1) < total - i
nearer h = omega arith

pub nearly : {i total : ℕ} → i < total → i ≤ total
nearly h = omega arith
