-- What rehearsing a screen answers, from what writing, running and painting answered.
use mathlib.Core.Path.{◌≡◌, refl, sym, ap, subst, ◌∙◌}
use mathlib.Core.Bool.{Bool, true, false, cond, ◌&&◌}
use mathlib.Core.List.{List, []}
use Prim.Native.Nat.{ℕ, ◌*◌, ◌<◌, ◌≤◌}
use native.Mathlib.Omega.{arith}
use lib.Dec.{ltb, eqb}
use lib.ListN.{length, get_or, take}
use lib.Seq.{sets}
use borrow.Author.Tests.{eqb-true, eq-eqb, le-ltb}
use Rattle.ground.proofs.Tests.{both, both_left, both_right, settled}
use Rattle.state.specs.declared.panel.Panel.{Panel}
use Rattle.state.specs.declared.registers.Registers.{Registers}
use Rattle.std.specs.Prelude.{Result, Ok, Err}
use Rattle.state.specs.declared.refusal.Refusal.{Refusal}
use Rattle.state.specs.declared.refusal.Refused.{Refused}
use Rattle.state.proofs.RefusalNumbers.{not_zero, same_number}
use Rattle.rehearsal.specs.declared.rehearse.Rehearsed.{Rehearsed as Rehearsal-Run}
use Rattle.state.specs.Replies.{Reply, reply}
use Rattle.state.specs.Sizes.{frame_size, valid_size}
use Rattle.state.proofs.Sizes.{is-size}
use Rattle.state.specs.State.{valid_panel, valid_registers}
use Rattle.display.specs.Frame.{lent_lengths, frame_fits, Painted, painted, paint_of, reply_of, frame_of}
use Rattle.display.proofs.Doors.{painted-is}
use Rattle.controller.specs.declared.run.Ran.{Ran}
use Rattle.controller.specs.Run.{log_of, RanAll, ran_all, stopping_of}
use Rattle.book.specs.Operation.{Operation}
use Rattle.book.specs.Screen.{Screen, screen, refused, screen_of}
use Rattle.writer.specs.Stream.{stream_of, count_of}
use Rattle.writer.specs.Written.{Written, written_reply, Wrote, wrote_all, wrote, write_screen, write_of}
use Rattle.writer.proofs.Answers.{Streamed, write-accepted}
use Rattle.picture.specs.Picture.{picture_of, picture_frame}
use Rattle.rehearsal.specs.Demand3.{Shows}
use Rattle.rehearsal.specs.Rehearsed.{Rehearsed, rehearsed_reply, Rehearsal, rehearsed_all, refused_rehearsal, refusal, shown_of, rehearse_screen, rehearse_of, Outright}
use Rattle.rehearsal.proofs.Demand3.{holding-length, bits, registers-then}

module _ (p : Panel) (r : Registers) (mem rom book : List ℕ) (number : ℕ) (room frame : List ℕ) where
  abbrev Meets : Rehearsed → List ℕ → List ℕ → List ℕ → Type 0
  Meets x m b f =
      (rehearsed_all x m b f ≡ rehearse_of p r mem rom book number room frame) × Outright p r mem rom book number x m f

  -- what the code tests at the door
  pub valid-is : {a b : Bool} (t : Bool) → a ≡ valid_panel p → b ≡ valid_registers r → (a && b) ≡ t → (valid_panel p && valid_registers r) ≡ t
  valid-is t i j e = sym (λ k. i k && j k) ∙ e

  pub fits-is : {n : ℕ} (t : Bool) → (valid_panel p && valid_registers r) ≡ true → n ≡ valid_size p (frame_size p) → (lent_lengths mem rom && eqb (length frame) n) ≡ t
      → (lent_lengths mem rom && frame_fits p frame) ≡ t
  fits-is t v i e =
      sym (λ k. lent_lengths mem rom && eqb (length frame) (is-size p (both_left (valid_panel p) (valid_registers r) v) i k)) ∙ e

  -- past the tests at the door
  pub record Door : Type 0 where
    pub valid : (valid_panel p && valid_registers r) ≡ true
    pub lent : (lent_lengths mem rom && frame_fits p frame) ≡ true

  pub door-open : {a b : Bool} {n : ℕ} → a ≡ valid_panel p → b ≡ valid_registers r → (a && b) ≡ true → n ≡ valid_size p (frame_size p)
      → (lent_lengths mem rom && eqb (length frame) n) ≡ true → Door
  door-open i j e k f = let v = valid-is true i j e in record { valid = v; lent = fits-is true v k f }

  -- a refusal that leaves memory as it was says nothing of the frame
  refuses : {x : Rehearsed} {f : List ℕ} → (x.number ≡ 0 → ⊥) → Outright p r mem rom book number x mem f
  refuses nz = record { picture = λ z. absurd (nz z); pairs = λ z. absurd (nz z); outside = λ i e. refl }

  door : (v : Bool) → (valid_panel p && valid_registers r) ≡ v
      → cond v (cond (lent_lengths mem rom && frame_fits p frame) (rehearse_screen p r mem rom room frame (screen_of p book number)) (refusal p r mem rom room frame 2 0)) (refusal p r mem rom room frame 1 0)
      ≡ rehearse_of p r mem rom book number room frame
  unfolding rehearse_of
  door v e =
      ap (λ (t : Bool). cond t (cond (lent_lengths mem rom && frame_fits p frame) (rehearse_screen p r mem rom room frame (screen_of p book number)) (refusal p r mem rom room frame 2 0)) (refusal p r mem rom room frame 1 0))
      (sym e)

  pub rehearse-1 : {a b : Bool} → a ≡ valid_panel p → b ≡ valid_registers r → (a && b) ≡ false
      → refusal p r mem rom room frame 1 0 ≡ rehearse_of p r mem rom book number room frame
  rehearse-1 i j e = door false (valid-is false i j e)

  module _ (v : (valid_panel p && valid_registers r) ≡ true) where
    inner : (t : Bool) → (lent_lengths mem rom && frame_fits p frame) ≡ t
        → cond t (rehearse_screen p r mem rom room frame (screen_of p book number)) (refusal p r mem rom room frame 2 0) ≡ rehearse_of p r mem rom book number room frame
    inner t e =
        ap (λ (t : Bool). cond t (rehearse_screen p r mem rom room frame (screen_of p book number)) (refusal p r mem rom room frame 2 0)) (sym e) ∙ door true v

    inner-2 : (lent_lengths mem rom && frame_fits p frame) ≡ false → refusal p r mem rom room frame 2 0 ≡ rehearse_of p r mem rom book number room frame
    inner-2 e = inner false e

    module _ (l : (lent_lengths mem rom && frame_fits p frame) ≡ true) {w : Written} {after : List ℕ} (h : wrote_all w after ≡ write_of p book number room) where
      -- what the writer refused is refused with its number and place, and the room is as it was
      same-refusal : (s : Screen) → wrote_all w after ≡ write_screen p room s → (w.number ≡ 0 → ⊥)
          → rehearsed_all (refused_rehearsal w.number w.place r) mem after frame ≡ rehearse_screen p r mem rom room frame s
      same-refusal (screen os) e nz = go (ltb (length room) (2 * count_of p os)) e
        where
          go : (t : Bool) → wrote_all w after ≡ cond t (wrote 12 (count_of p os) 0 room) (wrote 0 0 (count_of p os) (sets room 0 (log_of (stream_of p os))))
              → rehearsed_all (refused_rehearsal w.number w.place r) mem after frame ≡ cond t (refusal p r mem rom room frame 12 (count_of p os)) (shown_of p r mem rom room frame os)
          go true e = ap (λ (o : Wrote). rehearsed_all (refused_rehearsal o.written.number o.written.place r) mem o.room frame) e
          go false e = absurd (nz (ap (λ (o : Wrote). o.written.number) e))
      same-refusal (refused n place) e nz = ap (λ (o : Wrote). rehearsed_all (refused_rehearsal o.written.number o.written.place r) mem o.room frame) e

      rehearse-refused : (w.number ≡ 0 → ⊥) → rehearsed_all (refused_rehearsal w.number w.place r) mem after frame ≡ rehearse_of p r mem rom book number room frame
      unfolding write_of
      rehearse-refused nz =
          same-refusal (screen_of p book number) (h ∙ ap (λ (t : Bool). cond t (write_screen p room (screen_of p book number)) (wrote 1 0 0 room)) (both_left (valid_panel p) (valid_registers r) v)) nz
          ∙ inner true l

      module _ (bytes : (i : ℕ) → get_or book i 0 < 256) (z : w.number ≡ 0) where
        streamed : Streamed p book number room w after
        streamed = write-accepted p book number room h z

        valid : valid_registers r ≡ true
        valid = both_right (valid_panel p) (valid_registers r) v

        lent : lent_lengths mem rom ≡ true
        lent = both_left _ (frame_fits p frame) l

        size : length mem ≡ 65536
        size = eqb-true (length mem) 65536 (both_left _ (eqb (length rom) 1024) lent)

        characters : length rom ≡ 1024
        characters = eqb-true (length rom) 1024 (both_right (eqb (length mem) 65536) _ lent)

        abbrev os : List Operation
        os = streamed.os

        fits : 2 * count_of p os ≤ length room
        fits = omega (arith, streamed.fits, streamed.pairs)

        -- the screen has no other operations
        same : (qs : List Operation) → screen_of p book number ≡ screen qs → os ≡ qs
        same qs e = let q : screen os ≡ screen qs = sym streamed.whole ∙ e in cc

        module _ (buffer : List ℕ) {ran : Ran} {m c : List ℕ} (k : ran_all ran m c ≡ stopping_of p r mem rom (take (2 * w.pairs) after) w.pairs buffer) where
          came : ran_all ran m c ≡ stopping_of p r mem rom (take (2 * count_of p os) (sets room 0 (log_of (stream_of p os)))) (count_of p os) buffer
          came = k ∙ (λ i. stopping_of p r mem rom (take (2 * streamed.pairs i) (streamed.holds i)) (streamed.pairs i) buffer)

          shown : Shows p os r mem rom buffer (ran_all ran m c)
          shown =
              subst (λ (e : RanAll). Shows p os r mem rom buffer e) (sym came)
              (bits p streamed.valid book bytes number streamed.whole r mem rom valid size characters buffer (count_of p os) (omega arith) room fits)

          module _ {y : Reply} {f : List ℕ} (d : painted y f ≡ paint_of p ran.registers m rom frame) where
            long : length m ≡ 65536
            long = ap length shown.memory ∙ holding-length p mem (picture_of p os) ∙ size

            painted-0 : painted y f ≡ painted (reply_of 0) (frame_of p ran.registers.display m rom)
            painted-0 =
                d
                ∙ painted-is p ran.registers m rom frame (both streamed.valid shown.valid)
                (both (both (eq-eqb (length m) 65536 long) (eq-eqb (length rom) 1024 characters)) (both_right (lent_lengths mem rom) _ l))

            -- the frame is not refused
            no-refusal : y.number ≡ 0
            no-refusal = ap (λ (o : Painted). o.reply.number) painted-0

            picture-is : f ≡ picture_frame p rom (picture_of p os) r.display.phase
            picture-is =
                ap (λ (o : Painted). o.frame) painted-0
                ∙ shown.frame ran.registers.display.phase
                ∙ ap (picture_frame p rom (picture_of p os)) shown.phase

            registers-are : ran.registers ≡ (stopping_of p r mem rom (log_of (stream_of p os)) (count_of p os) []).ran.registers
            registers-are =
                ap (λ (e : RanAll). e.ran.registers) came
                ∙ registers-then p streamed.valid book bytes number streamed.whole r mem rom valid size characters buffer room fits

            is-shown : rehearsed_all (record { number = 0; place = 0; pairs = w.pairs; registers = ran.registers }) m after f ≡ shown_of p r mem rom room frame os
            is-shown =
                λ i. rehearsed_all (record { number = 0; place = 0; pairs = streamed.pairs i; registers = registers-are i }) (shown.memory i) (streamed.holds i) (picture-is i)

            rehearse-0 : Meets (record { number = 0; place = 0; pairs = w.pairs; registers = ran.registers }) m after f
            rehearse-0 = (
              is-shown
                  ∙ sym
                  (ap (λ (t : Bool). cond t (refusal p r mem rom room frame 12 (count_of p os)) (shown_of p r mem rom room frame os))
                  (le-ltb (length room) (2 * count_of p os) fits))
                  ∙ ap (rehearse_screen p r mem rom room frame) (sym streamed.whole)
                  ∙ inner true l,
              record {
                picture = λ z qs e. picture-is ∙ ap (λ (xs : List Operation). picture_frame p rom (picture_of p xs) r.display.phase) (same qs e);
                pairs = λ z qs e. streamed.pairs ∙ ap (count_of p) (same qs e);
                outside = λ i e. shown.outside i e;
              },
            )

-- past the door
module _ (p : Panel) (r : Registers) (mem rom book : List ℕ) (number : ℕ) (room frame : List ℕ) where
  pub rehearse-2 : {a b : Bool} {n : ℕ} → a ≡ valid_panel p → b ≡ valid_registers r → (a && b) ≡ true → n ≡ valid_size p (frame_size p)
      → (lent_lengths mem rom && eqb (length frame) n) ≡ false → refusal p r mem rom room frame 2 0 ≡ rehearse_of p r mem rom book number room frame
  rehearse-2 i j e k f =
      let v = valid-is p r mem rom book number room frame true i j e in
      inner-2 p r mem rom book number room frame v (fits-is p r mem rom book number room frame false v k f)

  module _ (d : Door p r mem rom book number room frame) {after : List ℕ} where
    pub rehearse-err : (e : Refused) → wrote_all (written_reply (Err e)) after ≡ write_of p book number room
        → rehearsed_all (rehearsed_reply r (Err e)) mem after frame ≡ rehearse_of p r mem rom book number room frame
    rehearse-err e h = rehearse-refused p r mem rom book number room frame d.valid d.lent h (not_zero e.refusal)

    module _ (bytes : (i : ℕ) → get_or book i 0 < 256) {n : ℕ} (h : wrote_all (written_reply (Ok n)) after ≡ write_of p book number room) where
      pub written : Streamed p book number room (written_reply (Ok n)) after
      written = write-accepted p book number room h refl

      module _ (buffer : List ℕ) {ran : Ran} {m c : List ℕ} (k : ran_all ran m c ≡ stopping_of p r mem rom (take (2 * n) after) n buffer) {f : List ℕ} where
        pub rehearse-paints : (e : Refusal) → painted (reply (Err e)) f ≡ paint_of p ran.registers m rom frame → ⊥
        rehearse-paints e y = not_zero e (no-refusal p r mem rom book number room frame d.valid d.lent h bytes refl buffer k y)

        pub rehearse-ok : painted (reply (Ok tt)) f ≡ paint_of p ran.registers m rom frame
            → Meets p r mem rom book number room frame (record { number = 0; place = 0; pairs = n; registers = ran.registers }) m after f
        rehearse-ok y = rehearse-0 p r mem rom book number room frame d.valid d.lent h bytes refl buffer k y

-- two replies that meet the promise of `rehearse` are equal
pub rehearse-settled : {x y : Rehearsed} {m n b c f g : List ℕ} (p : Panel) (r : Registers) (mem rom book : List ℕ) (number : ℕ) (room frame : List ℕ)
    → rehearsed_all x m b f ≡ rehearse_of p r mem rom book number room frame → rehearsed_all y n c g ≡ rehearse_of p r mem rom book number room frame
    → (x ≡ y) × (m ≡ n) × (b ≡ c) × (f ≡ g)
rehearse-settled p r mem rom book number room frame h k = (
  ap (λ (o : Rehearsal). o.rehearsed) (settled h k),
  ap (λ (o : Rehearsal). o.memory) (settled h k),
  ap (λ (o : Rehearsal). o.room) (settled h k),
  ap (λ (o : Rehearsal). o.frame) (settled h k),
)

same_rehearsed : (r : Registers) (x y : Result Rehearsal-Run Refused) → rehearsed_reply r x ≡ rehearsed_reply r y → x ≡ y
same_rehearsed r (Ok m) (Ok n) h =
    let c = ap (λ (o : Rehearsed). o.pairs) h in
    let e = ap (λ (o : Rehearsed). o.registers) h in
    λ i. Ok (record { pairs = c i; registers = e i })
same_rehearsed r (Ok m) (Err e) h = absurd (not_zero e.refusal (ap (λ (o : Rehearsed). o.number) (sym h)))
same_rehearsed r (Err d) (Ok n) h = absurd (not_zero d.refusal (ap (λ (o : Rehearsed). o.number) h))
same_rehearsed r (Err d) (Err e) h =
    let n = same_number d.refusal e.refusal (ap (λ (o : Rehearsed). o.number) h) in
    let p = ap (λ (o : Rehearsed). o.place) h in
    λ i. Err (record { refusal = n i; place = p i })

-- and so are the results that stand for them
pub rehearse-result-settled : {x y : Result Rehearsal-Run Refused} {m n b c f g : List ℕ} (p : Panel) (r : Registers) (mem rom book : List ℕ) (number : ℕ) (room frame : List ℕ)
    → rehearsed_all (rehearsed_reply r x) m b f ≡ rehearse_of p r mem rom book number room frame
    → rehearsed_all (rehearsed_reply r y) n c g ≡ rehearse_of p r mem rom book number room frame → (x ≡ y) × (m ≡ n) × (b ≡ c) × (f ≡ g)
rehearse-result-settled {x} {y} p r mem rom book number room frame h k =
    let s = rehearse-settled p r mem rom book number room frame h k in (same_rehearsed r x y s.0, s.1, s.2, s.3)
