-- Ticks and status reads change the phase alone; a byte stored by C4H leaves the pointer.
use mathlib.Core.Path.{◌≡◌, refl, sym, ap, subst}
use mathlib.Core.Bool.{Bool, true, false, cond, not, ◌&&◌, ◌||◌}
use mathlib.Core.List.{List, [], ◌∷◌}
use mathlib.Core.Logic.{◌⊎◌, inl, inr}
use Prim.Native.Nat.{ℕ, zero, suc, ◌+◌, ◌/◌, ◌%◌}
use lib.Dec.{ltb, eqb}
use lib.ListN.{length, set, take}
use borrow.Author.Tests.{eqb-true}
use Rattle.ground.proofs.Tests.{both, both_left, both_right, either}
use Rattle.state.specs.declared.panel.Panel.{Panel}
use Rattle.state.specs.declared.registers.Display.{Display}
use Rattle.state.specs.declared.registers.Registers.{Registers}
use Rattle.state.specs.State.{valid_panel, valid_registers}
use Rattle.display.specs.Frame.{lent_lengths}
use Rattle.effects.specs.Effect.{with_phase}
use Rattle.effects.specs.Machine.{Machine, machine}
use Rattle.controller.specs.Access.{Pair, datum, code, Step, step_of}
use Rattle.controller.specs.Run.{Standing, went, halted, turn_of, after_turn, Run, short, run_from, RanAll, ran_of, ran_none, pairs_of, log_of, stopping_of}
use Rattle.controller.proofs.Logs.{log-pairs}
use Rattle.controller.proofs.Takes.{Takes, takes-both, takes_one, resting}
use Rattle.rehearsal.specs.Changes.{all_idle}

pub stay-taken : (p : Panel) (rom : List ℕ) (d : Display) (pointer latch : ℕ) (error : Bool) (mem : List ℕ) (b : ℕ)
    → Takes (step_of p rom) (datum b ∷ code 0xc4 ∷ []) (resting d pointer latch error mem) (resting d pointer latch error (set mem pointer b))
stay-taken p rom d pointer latch error mem b = takes-both {ps = datum b ∷ []} (takes_one refl) (takes_one refl)

-- the machine as it was, but for the phase
pub record Idled (r : Registers) (mem : List ℕ) (m : Machine) : Type 0 where
  pub phase : Bool
  pub is : m ≡ machine (record { display = with_phase r.display phase; bus = r.bus }) mem

pub idled-none : (r : Registers) (mem : List ℕ) → Idled r mem (machine r mem)
idled-none r mem = record { phase = r.display.phase; is = refl }

module _ (p : Panel) (rom : List ℕ) (r : Registers) (mem : List ℕ) where
  abbrev on : ℕ → List Pair → Standing Machine → Step Machine → Run Machine
  on k qs s o =
      after_turn (turn_of s o) (λ t. run_from (step_of p rom) (suc k) qs t) (λ n. record { standing = s; taken = k; end = short n })

  idle-from : (qs : List Pair) → all_idle qs ≡ true → (k : ℕ) (s : Standing Machine) → Idled r mem s.machine
      → Idled r mem (run_from (step_of p rom) k qs s).standing.machine
  unfolding run_from
  idle-from [] e k s i = i
  idle-from (q ∷ qs) e k s i =
      by (either (eqb q.kind 3) (eqb q.kind 4) (both_left (eqb q.kind 3 || eqb q.kind 4) (all_idle qs) e))
      (λ t j. idle-from qs (both_right (eqb q.kind 3 || eqb q.kind 4) (all_idle qs) e) (suc k) t j)
    where
      -- a status read is answered where there is room
      room : (t : Bool) (b : ℕ) → ((t : Standing Machine) → Idled r mem t.machine → Idled r mem (run_from (step_of p rom) (suc k) qs t).standing.machine)
          → Idled r mem
          (after_turn (cond t (went (record { machine = s.machine; answers = set s.answers s.given b; given = s.given + 1 })) (halted 13))
          (λ u. run_from (step_of p rom) (suc k) qs u) (λ n. record { standing = s; taken = k; end = short n })).standing.machine
      room true b more = more (record { machine = s.machine; answers = set s.answers s.given b; given = s.given + 1 }) i
      room false b more = i

      by : (eqb q.kind 3 ≡ true) ⊎ (eqb q.kind 4 ≡ true)
          → ((t : Standing Machine) → Idled r mem t.machine → Idled r mem (run_from (step_of p rom) (suc k) qs t).standing.machine)
          → Idled r mem (on k qs s (step_of p rom s.machine q)).standing.machine
      by (inl h) more =
          subst (λ (n : ℕ). Idled r mem (on k qs s (step_of p rom s.machine (record { kind = n; byte = q.byte }))).standing.machine) (sym (eqb-true q.kind 3 h))
          (room (ltb s.given (length s.answers)) _ more)
      by (inr h) more =
          subst (λ (n : ℕ). Idled r mem (on k qs s (step_of p rom s.machine (record { kind = n; byte = q.byte }))).standing.machine) (sym (eqb-true q.kind 4 h))
          (more (record { machine = _; answers = s.answers; given = s.given }) ticked)
        where
          ticked : Idled r mem
              (machine
              (record { display = with_phase s.machine.registers.display (not s.machine.registers.display.phase); bus = s.machine.registers.bus })
              s.machine.memory)
          ticked =
              record {
                phase = not i.phase;
                is = ap (λ (m : Machine). machine (record { display = with_phase m.registers.display (not m.registers.display.phase); bus = m.registers.bus }) m.memory) i.is;
              }

  idle-take : (n : ℕ) (qs : List Pair) → all_idle qs ≡ true → all_idle (take n qs) ≡ true
  idle-take zero qs e = refl
  idle-take (suc n) [] e = refl
  idle-take (suc n) (q ∷ qs) e =
      both (both_left (eqb q.kind 3 || eqb q.kind 4) (all_idle qs) e) (idle-take n qs (both_right (eqb q.kind 3 || eqb q.kind 4) (all_idle qs) e))

  -- a run that takes no pair leaves all as it was
  by_tests : (u w e : Bool) (n : ℕ) (o : RanAll) (answers : List ℕ) → Idled r mem (machine o.ran.registers o.memory)
      → Idled r mem
      (machine (cond u (cond w (cond e o (ran_none 8 n r mem answers)) (ran_none 2 0 r mem answers)) (ran_none 1 0 r mem answers)).ran.registers
      (cond u (cond w (cond e o (ran_none 8 n r mem answers)) (ran_none 2 0 r mem answers)) (ran_none 1 0 r mem answers)).memory)
  by_tests true true true n o answers i = i
  by_tests true true false n o answers i = idled-none r mem
  by_tests true false e n o answers i = idled-none r mem
  by_tests false w e n o answers i = idled-none r mem

  -- a whole run of them, wherever it ends
  pub idle-run : (qs : List Pair) → all_idle qs ≡ true → (limit : ℕ) (answers : List ℕ)
      → Idled r mem (machine (stopping_of p r mem rom (log_of qs) limit answers).ran.registers (stopping_of p r mem rom (log_of qs) limit answers).memory)
  unfolding stopping_of
  idle-run qs e limit answers =
      by_tests (valid_panel p && valid_registers r) (lent_lengths mem rom) (eqb (length (log_of qs) % 2) 0) (length (log_of qs) / 2)
      (ran_of (run_from (step_of p rom) 0 (take limit (pairs_of (log_of qs))) (record { machine = machine r mem; answers = answers; given = 0 }))) answers
      (idle-from (take limit (pairs_of (log_of qs))) (rw (log-pairs qs) (idle-take limit qs e)) 0 (record { machine = machine r mem; answers = answers; given = 0 }) (idled-none r mem))
