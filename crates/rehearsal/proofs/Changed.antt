-- Request 14: A's stream, ticks and status reads, then the short stream; beside it B's full one.
use mathlib.Core.Path.{◌≡◌, refl, sym, ap, subst, ◌∙◌}
use mathlib.Core.Bool.{Bool, true}
use mathlib.Core.List.{List, []}
use Prim.Native.Nat.{ℕ, ◌*◌, ◌<◌}
use native.Mathlib.Omega.{arith}
use lib.ListN.{length, get_or, take}
use lib.Seq.{sets}
use borrow.Author.Tests.{eq-eqb}
use Rattle.ground.proofs.Tests.{both}
use Rattle.state.specs.declared.panel.Panel.{Panel}
use Rattle.state.specs.declared.registers.Registers.{Registers}
use Rattle.state.specs.State.{valid_panel, valid_registers}
use Rattle.display.specs.Frame.{frame_of}
use Rattle.effects.specs.Effect.{with_phase}
use Rattle.effects.specs.Machine.{Machine, machine}
use Rattle.controller.specs.Access.{Pair, step_of}
use Rattle.controller.specs.Run.{RanAll, ran_all, log_of, stopping_of}
use Rattle.controller.proofs.Logs.{log-length, run-takes}
use Rattle.controller.proofs.SplittingOn.{agree}
use Rattle.controller.proofs.Takes.{Takes}
use Rattle.book.specs.Operation.{Operation}
use Rattle.book.specs.Screen.{screen, screen_of}
use Rattle.writer.specs.Stream.{count_of}
use Rattle.writer.specs.Written.{Wrote, wrote}
use Rattle.writer.proofs.Answers.{write-fits}
use Rattle.picture.specs.Picture.{Picture, picture_of}
use Rattle.difference.specs.Short.{short_stream, short_count}
use Rattle.difference.specs.Change.{change_of}
use Rattle.difference.proofs.Answers.{short-length, change-fits}
use Rattle.difference.proofs.Screens.{laid-range}
use Rattle.rehearsal.specs.Demand3.{holding}
use Rattle.rehearsal.specs.Changes.{all_idle, Lent, Enough, ran_screen, ran_on, ran_short, ran_short_on, Changed, Changes}
use Rattle.rehearsal.proofs.Areas.{laid, stored-over}
use Rattle.rehearsal.proofs.Cells.{frame_same}
use Rattle.rehearsal.proofs.Demand3.{written-log, holding-length, came, over-room, drawn, demand-3}
use Rattle.rehearsal.proofs.Idles.{Idled, idle-run}
use Rattle.rehearsal.proofs.Openings.{first_gap, second_gap, Drawn}
use Rattle.rehearsal.proofs.Shortened.{Turns, short-turns}
use Rattle.rehearsal.proofs.Simulated.{display_for, machine_for}

-- the machine that a run leaves
abbrev standing : RanAll → Machine
standing e = machine e.ran.registers e.memory

-- other registers, in another phase
abbrev in_phase : Registers → Bool → Registers
in_phase r phase = record { display = with_phase r.display phase; bus = r.bus }

phase-for : (p : Panel) (r : Registers) (g h : List ℕ) (a : Picture) (q : ℕ) (phase : Bool)
    → machine (in_phase (machine_for p r g h a q).registers phase) (machine_for p r g h a q).memory ≡ machine_for p (in_phase r phase) g h a q
unfolding display_for
phase-for p r g h a q phase = refl

module _ (p : Panel) (v : valid_panel p ≡ true) (rom book : List ℕ) (bytes : (i : ℕ) → get_or book i 0 < 256) (a b : ℕ) {os qs : List Operation}
    (e : screen_of p book a ≡ screen os) (f : screen_of p book b ≡ screen qs) (r : Registers) (mem : List ℕ)
    (valid : valid_registers r ≡ true) (size : length mem ≡ 65536) (characters : length rom ≡ 1024) where
  abbrev A : Picture
  A = picture_of p os

  abbrev B : Picture
  B = picture_of p qs

  abbrev g : List ℕ
  g = first_gap p mem

  abbrev h : List ℕ
  h = second_gap p mem

  abbrev x : Drawn p v mem size rom r os
  x = drawn p v book bytes a e r mem rom valid size characters

  abbrev y : Drawn p v mem size rom r qs
  y = drawn p v book bytes b f r mem rom valid size characters

  module _ (l : Lent) (enough : Enough l (count_of p os)) where
    abbrev one : RanAll
    one = ran_screen p rom book a os l r mem

    one-is : one ≡ came p v book bytes a e r mem rom valid size characters l.answers
    one-is =
        ap (λ (w : Wrote). stopping_of p r mem rom (take (2 * count_of p os) w.room) l.limit l.answers) (write-fits p book a l.room v e enough.room)
        ∙ over-room p v book bytes a e r mem rom valid size characters l.answers l.limit enough.limit l.room enough.room

    one-standing : standing one ≡ machine_for p r g h A x.pointer
    one-standing = ap standing one-is

    one-valid : valid_registers one.ran.registers ≡ true
    one-valid =
        (demand-3 p book a os l.room r mem rom l.answers [] l.limit bytes v e enough.room valid size characters enough.limit).1.valid

    module _ (idle : List Pair) (i : all_idle idle ≡ true) (m : Lent) where
      abbrev two : RanAll
      two = ran_on p rom book idle m one

      idled : Idled one.ran.registers one.memory (standing two)
      idled = idle-run p rom one.ran.registers one.memory idle i m.limit m.answers

      -- the registers that a screen would have found in that phase
      s : Registers
      s = in_phase r idled.phase

      two-standing : standing two ≡ machine_for p s g h A x.pointer
      unfolding s
      two-standing =
          idled.is
          ∙ ap (λ (n : Machine). machine (in_phase n.registers idled.phase) n.memory) one-standing
          ∙ phase-for p r g h A x.pointer idled.phase

      two-valid : valid_registers two.ran.registers ≡ true
      two-valid = ap (λ (n : Machine). valid_registers n.registers) idled.is ∙ one-valid

      two-memory : two.memory ≡ laid g h A.graphic A.codes A.glyphs
      two-memory = ap (λ (n : Machine). n.memory) two-standing

      two_size : length two.memory ≡ 65536
      two_size =
          ap length (two-memory ∙ sym (ap (λ (n : Machine). n.memory) one-standing)
          ∙ (demand-3 p book a os l.room r mem rom l.answers [] l.limit bytes v e enough.room valid size characters enough.limit).1.memory)
          ∙ holding-length p mem A ∙ size

      turns : Turns p rom s g h (short_stream p A B) A B x.pointer
      turns = short-turns p v rom s g h A B x.shape y.shape (laid-range p book b f) x.pointer

      takes : Takes (step_of p rom) (short_stream p A B) (standing two) (machine_for p turns.next g h B turns.last)
      takes = subst (λ (n : Machine). Takes (step_of p rom) (short_stream p A B) n (machine_for p turns.next g h B turns.last)) (sym two-standing) turns.run

      module _ (n : Lent) (roomy : Enough n (short_count A B)) where
        wrote-is : change_of p book a b n.room ≡ wrote 0 0 (short_count A B) (sets n.room 0 (log_of (short_stream p A B)))
        wrote-is = change-fits p book a b n.room v e f roomy.room

        abbrev three : RanAll
        three = ran_short p rom book a b (short_count A B) n two

        three-is : three
            ≡ ran_all (record { number = 0; place = 0; taken = length (short_stream p A B); answers = 0; registers = (machine_for p turns.next g h B turns.last).registers })
            (laid g h B.graphic B.codes B.glyphs) n.answers
        three-is =
            ap (λ (w : Wrote). stopping_of p two.ran.registers two.memory rom (take (2 * short_count A B) w.room) n.limit n.answers) wrote-is
            ∙ ap (λ (k : List ℕ). stopping_of p two.ran.registers two.memory rom k n.limit n.answers)
            (written-log n.room (log_of (short_stream p A B)) (omega (arith, short-length p A B, log-length (short_stream p A B))) roomy.room)
            ∙ run-takes p two.ran.registers two.memory rom (short_stream p A B) n.limit n.answers v two-valid
            (both (eq-eqb (length two.memory) 65536 two_size) (eq-eqb (length rom) 1024 characters))
            (omega (arith, short-length p A B, roomy.limit)) takes

        module _ (o : Lent) (enough-b : Enough o (count_of p qs)) where
          abbrev four : RanAll
          four = ran_screen p rom book b qs o two.ran.registers two.memory

          -- B's planes over A's
          over : laid g h B.graphic B.codes B.glyphs ≡ holding p two.memory B
          over =
              sym
              (ap (λ (k : List ℕ). holding p k B) two-memory
              ∙ stored-over g h A.graphic A.codes A.glyphs B.graphic B.codes B.glyphs x.shape.fits
              (y.shape.graphic ∙ sym x.shape.graphic) (y.shape.codes ∙ sym x.shape.codes) (y.shape.fits.glyphs ∙ sym x.shape.fits.glyphs))

          pub short-changes : Changed p rom A B (change_of p book a b n.room) three (ran_short_on p rom book a b (short_count A B) n two) four
          unfolding display_for
          short-changes =
              record {
                accepted = ap (λ (w : Wrote). w.written) wrote-is;
                number = ap (λ (w : RanAll). w.ran.number) three-is;
                place = ap (λ (w : RanAll). w.ran.place) three-is;
                taken = ap (λ (w : RanAll). w.ran.taken) three-is ∙ short-length p A B;
                frame = λ phase.
                    ap (λ (w : RanAll). frame_in w phase) three-is ∙ frame_same p v g h B y.shape turns.next.display rom phase;
                either = λ skips.
                    agree p two.ran.registers two.memory rom (take (2 * short_count A B) (change_of p book a b n.room).room) n.limit n.answers skips
                    (ap (λ (w : RanAll). w.ran.number) three-is);
                memory = ap (λ (w : RanAll). w.memory) three-is ∙ over
                    ∙ sym
                    (demand-3 p book b qs o.room two.ran.registers two.memory rom o.answers [] o.limit bytes v f enough-b.room two-valid two_size characters enough-b.limit).1.memory;
              }
            where
              frame_in : RanAll → Bool → List ℕ
              frame_in w phase = frame_of p (with_phase w.ran.registers.display phase) w.memory rom

pub changes : Changes
changes p rom book a b os qs idle first between short full r mem bytes v e f i enough roomy enough-b valid size characters =
    short-changes p v rom book bytes a b e f r mem valid size characters first enough idle i between short roomy full enough-b
