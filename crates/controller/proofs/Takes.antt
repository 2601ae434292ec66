-- What callers may use of a run: pairs that are all taken, one stretch after another, and what the commonest of them do to a machine at rest.
use mathlib.Core.Path.{◌≡◌, refl, ap, ◌∙◌}
use mathlib.Core.Bool.{Bool, cond}
use mathlib.Core.List.{List, [], ◌∷◌, ◌++◌, map}
use Prim.Native.Nat.{ℕ, suc, ◌+◌, ◌%◌}
use native.Mathlib.Omega.{arith}
use lib.ListN.{length, get_or, set, length-append}
use borrow.Author.Tests.{le-leb}
use Rattle.ground.specs.Bytes.{with_bit, word_of}
use Rattle.ground.specs.Lists.{stored}
use Rattle.state.specs.State.{none}
use Rattle.codes.specs.Command.{decode_of}
use Rattle.controller.specs.Types.{Panel, DisplayBits, Combination, Display, Off, Write, Target, Set, Mode, DisplayMode, Height, Bit, Defined}
use Rattle.state.specs.declared.registers.Target.TheVariants as target
use Rattle.effects.specs.Effect.{with_mode, with_display_bits, with_cursor, set_of}
use Rattle.controller.specs.Access.{Pair, datum, code, Step, done, refused, command_of, step_of}
use Rattle.effects.specs.Machine.{Machine, machine}
use Rattle.controller.specs.Run.{turn_of, after_turn, run_from, short}
use Rattle.controller.proofs.Splits.{ended, run-append}

-- all of them taken, none with an answer, from any place on
pub record Takes {M : Type 0} (step : M → Pair → Step M) (qs : List Pair) (s t : M) : Type 0 where
  pub run : (k : ℕ) (answers : List ℕ) (given : ℕ)
      → run_from step k qs (record { machine = s; answers = answers; given = given })
      ≡ ended (record { machine = t; answers = answers; given = given }) (k + length qs)

module _ {M : Type 0} {step : M → Pair → Step M} where
  pub takes_none : {s : M} → Takes step [] s s
  unfolding run_from
  takes_none {s} =
      record { run = λ k answers given. ap (ended (record { machine = s; answers = answers; given = given })) (let e : k ≡ k + 0 = omega arith in e) }

  pub takes_one : {q : Pair} {s t : M} → step s q ≡ done t → Takes step (q ∷ []) s t
  unfolding run_from
  takes_one {q} {s} {t} h =
      record {
        run = λ k answers given.
            ap (λ (o : Step M). after_turn (turn_of (record { machine = s; answers = answers; given = given }) o) (λ u. run_from step (suc k) [] u) (λ n. record { standing = record { machine = s; answers = answers; given = given }; taken = k; end = short n })) h
            ∙ ap (ended (record { machine = t; answers = answers; given = given })) (let e : suc k ≡ k + 1 = omega arith in e);
      }

  pub takes-both : {ps qs : List Pair} {s t u : M} → Takes step ps s t → Takes step qs t u → Takes step (ps ++ qs) s u
  takes-both {ps} {qs} {s} {t} {u} x y =
      record {
        run = λ k answers given.
            run-append step ps qs k (k + length ps) (record { machine = s; answers = answers; given = given }) (record { machine = t; answers = answers; given = given }) (x.run k answers given)
            ∙ y.run (k + length ps) answers given
            ∙ ap (ended (record { machine = u; answers = answers; given = given })) (let e : k + length ps + length qs ≡ k + length (ps ++ qs) = rw length-append (omega arith) in e);
      }

-- auto off and none pending
abbrev pub resting : Display → ℕ → ℕ → Bool → List ℕ → Machine
resting d pointer latch error mem =
    machine (record { display = d; bus = record { pointer = pointer; auto = Off; pending = none; latch = latch; error = error } }) mem

-- in auto write, none pending
abbrev writing : Display → ℕ → ℕ → Bool → List ℕ → Machine
writing d pointer latch error mem =
    machine (record { display = d; bus = record { pointer = pointer; auto = Write; pending = none; latch = latch; error = error } }) mem

-- the pointer behind so many bytes
unfoldable pub behind_bytes : ℕ → List ℕ → ℕ
behind_bytes at [] = at
behind_bytes at (b ∷ bs) = behind_bytes ((at + 1) % 65536) bs

module _ (p : Panel) (rom : List ℕ) where
  -- B2H is taken in any state
  pub off-taken : (s : Machine)
      → Takes (step_of p rom) (code 0xb2 ∷ []) s
      (resting s.registers.display s.registers.bus.pointer s.registers.bus.latch s.registers.bus.error s.memory)
  off-taken s =
      takes_one
      (ap
      (λ (t : Bool). cond t (done (resting s.registers.display s.registers.bus.pointer s.registers.bus.latch s.registers.bus.error s.memory)) (refused 6))
      (le-leb 0 s.registers.bus.pending.count (omega arith)))

  module _ (d : Display) (pointer latch : ℕ) (error : Bool) (mem : List ℕ) where
    -- two data and a code that sets a register
    pub word-taken : (t : Target) (k a b : ℕ) → decode_of k ≡ Defined (Set t)
        → Takes (step_of p rom) (datum a ∷ datum b ∷ code k ∷ []) (resting d pointer latch error mem)
        (resting (set_of t a b (resting d pointer latch error mem).registers).display (set_of t a b (resting d pointer latch error mem).registers).bus.pointer latch error mem)
    word-taken t k a b h =
        takes-both {ps = datum a ∷ []} (takes_one refl) (takes-both {ps = datum b ∷ []} (takes_one refl) (takes_one (ap (command_of p rom (machine (record { display = d; bus = record { pointer = pointer; auto = Off; pending = record { count = 2; older = a; newest = b }; latch = latch; error = error } }) mem)) h ∙ sets t)))
      where
        sets : (t : Target)
            → command_of p rom
            (machine (record { display = d; bus = record { pointer = pointer; auto = Off; pending = record { count = 2; older = a; newest = b }; latch = latch; error = error } }) mem)
            (Defined (Set t))
            ≡ done (resting (set_of t a b (resting d pointer latch error mem).registers).display (set_of t a b (resting d pointer latch error mem).registers).bus.pointer latch error mem)
        sets target.Cursor = refl
        sets target.Offset = refl
        sets target.Pointer = refl
        sets target.TextHome = refl
        sets target.TextArea = refl
        sets target.GraphicHome = refl
        sets target.GraphicArea = refl

    pub mode-taken : (k : ℕ) {e : Bool} {q : Combination} → decode_of k ≡ Defined (Mode e q)
        → Takes (step_of p rom) (code k ∷ []) (resting d pointer latch error mem) (resting (with_mode d e q) pointer latch error mem)
    mode-taken k h = takes_one (ap (command_of p rom (resting d pointer latch error mem)) h)

    pub show-taken : (k : ℕ) {b : DisplayBits} → decode_of k ≡ Defined (DisplayMode b)
        → Takes (step_of p rom) (code k ∷ []) (resting d pointer latch error mem) (resting (with_display_bits d b) pointer latch error mem)
    show-taken k h = takes_one (ap (command_of p rom (resting d pointer latch error mem)) h)

    pub height-taken : (k : ℕ) {h : ℕ} → decode_of k ≡ Defined (Height h)
        → Takes (step_of p rom) (code k ∷ []) (resting d pointer latch error mem)
        (resting (with_cursor d (record { x = d.cursor.x; y = d.cursor.y; height = h })) pointer latch error mem)
    height-taken k h = takes_one (ap (command_of p rom (resting d pointer latch error mem)) h)

    pub bit-taken : (k : ℕ) {on : Bool} {n : ℕ} → decode_of k ≡ Defined (Bit on n)
        → Takes (step_of p rom) (code k ∷ []) (resting d pointer latch error mem)
        (resting d pointer latch error (set mem pointer (with_bit (get_or mem pointer 0) n on)))
    bit-taken k h = takes_one (ap (command_of p rom (resting d pointer latch error mem)) h)

    write-taken : Takes (step_of p rom) (code 0xb0 ∷ []) (resting d pointer latch error mem) (writing d pointer latch error mem)
    write-taken = takes_one refl

  bytes-taken : (d : Display) (pointer latch : ℕ) (error : Bool) (mem bytes : List ℕ)
      → Takes (step_of p rom) (map datum bytes) (writing d pointer latch error mem) (writing d (behind_bytes pointer bytes) latch error (stored mem pointer bytes))
  unfolding behind_bytes stored
  bytes-taken d pointer latch error mem [] = takes_none
  bytes-taken d pointer latch error mem (b ∷ bs) =
      takes-both {ps = datum b ∷ []} (takes_one refl) (bytes-taken d ((pointer + 1) % 65536) latch error (set mem pointer b) bs)

  -- pointer set, B0H, the bytes, B2H
  pub block-taken : (d : Display) (pointer latch : ℕ) (error : Bool) (mem : List ℕ) (low high : ℕ) (bytes : List ℕ)
      → Takes (step_of p rom) ((datum low ∷ datum high ∷ code 0x24 ∷ []) ++ (code 0xb0 ∷ (map datum bytes ++ (code 0xb2 ∷ [])))) (resting d pointer latch error mem)
      (resting d (behind_bytes (word_of low high) bytes) latch error (stored mem (word_of low high) bytes))
  block-taken d pointer latch error mem low high bytes =
      takes-both (word-taken d pointer latch error mem target.Pointer 0x24 low high refl)
      (takes-both {ps = code 0xb0 ∷ []} (write-taken d (word_of low high) latch error mem)
      (takes-both (bytes-taken d (word_of low high) latch error mem bytes) (off-taken (writing d (behind_bytes (word_of low high) bytes) latch error (stored mem (word_of low high) bytes)))))
