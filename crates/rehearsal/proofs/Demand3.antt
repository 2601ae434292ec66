-- The theorem of demand 3.
use mathlib.Core.Path.{◌≡◌, refl, sym, ap, subst, ◌∙◌}
use mathlib.Core.Bool.{Bool, true, false, ◌&&◌, ◌||◌, true≢false}
use mathlib.Core.List.{List, [], ◌∷◌}
use mathlib.Core.Logic.{◌⊎◌, inl, inr}
use Prim.Native.Nat.{ℕ, suc, ◌+◌, ◌*◌, ◌<◌, ◌≤◌}
use native.Mathlib.Omega.{arith}
use lib.Dec.{ltb, leb}
use lib.ListN.{length, get_or, set, take, drop}
use lib.Seq.{sets, sets-eq, length-sets, take_at, get_or-set_other}
use borrow.Author.Tests.{ltb-false, leb-false, eq-eqb}
use Rattle.ground.proofs.Tests.{both}
use Rattle.state.specs.declared.panel.Panel.{Panel}
use Rattle.state.specs.declared.registers.Registers.{Registers}
use Rattle.state.specs.State.{valid_panel, valid_registers}
use Rattle.controller.specs.Skip.{run_of}
use Rattle.controller.proofs.SplittingOn.{agree}
use Rattle.controller.specs.Run.{log_of, RanAll, ran_all, stopping_of}
use Rattle.controller.proofs.Logs.{log-length, run-takes, takes-valid}
use Rattle.book.specs.Operation.{Operation}
use Rattle.book.specs.Screen.{screen, screen_of}
use Rattle.writer.specs.Homes.{graphic_home, text_home, glyph_home}
use Rattle.writer.specs.Stream.{stream_of, count_of}
use Rattle.writer.specs.Written.{Wrote, wrote, write_of}
use Rattle.writer.proofs.Lengths.{stream-length}
use Rattle.writer.proofs.Answers.{write-fits}
use Rattle.picture.specs.Picture.{Picture, picture_of}
use Rattle.rehearsal.specs.Demand3.{in_areas, holding, Shows, ShowsOn, Demand3}
use Rattle.rehearsal.proofs.Areas.{laid, stored-over}
use Rattle.rehearsal.proofs.Simulated.{display_for, machine_for, Shape}
use Rattle.rehearsal.proofs.Openings.{first_gap, second_gap, found, found-laid, found-shape, Drawn, stream-draws}
use Rattle.rehearsal.proofs.Cells.{frame_same}

-- a place that is not stored to
apart : (vs l : List ℕ) (i j : ℕ) → (j < i) ⊎ (i + length vs ≤ j) → get_or (sets l i vs) j 0 ≡ get_or l j 0
apart [] l i j h = refl
apart (v ∷ vs) l i j h = apart vs (set l i v) (suc i) j (next h) ∙ get_or-set_other l i j v 0 (other h)
  where
    next : (j < i) ⊎ (i + suc (length vs) ≤ j) → (j < suc i) ⊎ (suc i + length vs ≤ j)
    next (inl a) = inl (omega arith)
    next (inr a) = inr (omega arith)

    other : (j < i) ⊎ (i + suc (length vs) ≤ j) → j ≡ i → ⊥
    other (inl a) e = omega arith
    other (inr a) e = omega arith

neither : (a b : Bool) → (a || b) ≡ false → (a ≡ false) × (b ≡ false)
neither true b e = absurd (true≢false e)
neither false b e = (refl, e)

not-both : (a b : Bool) → (a && b) ≡ false → (a ≡ false) ⊎ (b ≡ false)
not-both true b e = inr e
not-both false b e = inl refl

module _ (p : Panel) (mem : List ℕ) (a : Picture) (graphic : length a.graphic ≡ 8 * p.lines * p.columns) (codes : length a.codes ≡ p.lines * p.columns) where
  -- outside the areas nothing is stored
  holding-outside : (i : ℕ) → in_areas p i ≡ false → get_or (holding p mem a) i 0 ≡ get_or mem i 0
  holding-outside i e =
      let below : Bool = ltb i (graphic_home + 8 * p.lines * p.columns) in
      let from : Bool = leb (text_home p) i in
      let upto : Bool = ltb i (text_home p + p.lines * p.columns) in
      let one = neither (below || (from && upto)) (leb glyph_home i) e in
      let two = neither below (from && upto) one.0 in
      let low : graphic_home + 8 * p.lines * p.columns ≤ i = ltb-false i (graphic_home + 8 * p.lines * p.columns) two.0 in
      apart a.glyphs _ glyph_home i (inl (leb-false glyph_home i one.1))
      ∙ apart a.codes _ (text_home p) i (text (not-both from upto two.1))
      ∙ apart a.graphic mem graphic_home i (inr (omega (arith, graphic)))
    where
      text : (leb (text_home p) i ≡ false) ⊎ (ltb i (text_home p + p.lines * p.columns) ≡ false) → (i < text_home p) ⊎ (text_home p + length a.codes ≤ i)
      text (inl h) = inl (leb-false (text_home p) i h)
      text (inr h) = inr (let l : text_home p + p.lines * p.columns ≤ i = ltb-false i (text_home p + p.lines * p.columns) h in omega (arith, codes))

pub holding-length : (p : Panel) (mem : List ℕ) (a : Picture) → length (holding p mem a) ≡ length mem
holding-length p mem a =
    length-sets (sets (sets mem graphic_home a.graphic) (text_home p) a.codes) glyph_home a.glyphs
    ∙ length-sets (sets mem graphic_home a.graphic) (text_home p) a.codes ∙ length-sets mem graphic_home a.graphic

-- the room's start is the stream
pub written-log : (room log : List ℕ) {n : ℕ} → n ≡ length log → n ≤ length room → take n (sets room 0 log) ≡ log
written-log room log {n} e l =
    ap (take n) (sets-eq log room 0 (omega arith)) ∙ take_at log (drop (0 + length log) room) n (sym e)

module _ (p : Panel) (v : valid_panel p ≡ true) (book : List ℕ) (bytes : (i : ℕ) → get_or book i 0 < 256) (number : ℕ) {os : List Operation}
    (whole : screen_of p book number ≡ screen os) (r : Registers) (mem rom : List ℕ)
    (valid : valid_registers r ≡ true) (size : length mem ≡ 65536) (characters : length rom ≡ 1024) where
  abbrev pub g : List ℕ
  g = first_gap p mem

  abbrev pub h : List ℕ
  h = second_gap p mem

  abbrev pub a : Picture
  a = picture_of p os

  pub drawn : Drawn p v mem size rom r os
  drawn = stream-draws p v mem size rom r book bytes number whole

  long : length (stream_of p os) ≡ count_of p os
  long = stream-length p book number whole

  module _ (buffer : List ℕ) where
    -- what the run over the stream comes to
    abbrev pub came : RanAll
    came =
        ran_all (record { number = 0; place = 0; taken = length (stream_of p os); answers = 0; registers = (machine_for p r g h a drawn.pointer).registers })
        (laid g h a.graphic a.codes a.glyphs) buffer

    holds : laid g h a.graphic a.codes a.glyphs ≡ holding p mem a
    holds =
        let s : Shape p g h (found p mem) = found-shape p v mem size in
        sym
        (ap (λ (m : List ℕ). holding p m a) (found-laid p v mem)
        ∙ stored-over g h (found p mem).graphic (found p mem).codes (found p mem).glyphs a.graphic a.codes a.glyphs s.fits
        (drawn.shape.graphic ∙ sym s.graphic) (drawn.shape.codes ∙ sym s.codes) (drawn.shape.fits.glyphs ∙ sym s.fits.glyphs))

    came-shows : Shows p os r mem rom buffer came
    unfolding display_for
    came-shows =
        record {
          number = refl;
          place = refl;
          taken = long;
          frame = λ phase. frame_same p v g h a drawn.shape r.display rom phase;
          outside = λ i e. ap (λ (m : List ℕ). get_or m i 0) holds ∙ holding-outside p mem a drawn.shape.graphic drawn.shape.codes i e;
          memory = holds;
          phase = refl;
          valid = takes-valid p r mem rom valid size drawn.run;
          none = refl;
          answers = refl;
        }

    module _ (limit : ℕ) (few : count_of p os ≤ limit) where
      over-stream : stopping_of p r mem rom (log_of (stream_of p os)) limit buffer ≡ came
      over-stream =
          run-takes p r mem rom (stream_of p os) limit buffer v valid (both (eq-eqb (length mem) 65536 size) (eq-eqb (length rom) 1024 characters))
          (omega (arith, long)) drawn.run

      module _ (room : List ℕ) (fits : 2 * count_of p os ≤ length room) where
        pub over-room : stopping_of p r mem rom (take (2 * count_of p os) (sets room 0 (log_of (stream_of p os)))) limit buffer ≡ came
        over-room =
            ap (λ (l : List ℕ). stopping_of p r mem rom l limit buffer)
            (written-log room (log_of (stream_of p os)) (omega (arith, long, log-length (stream_of p os))) fits)
            ∙ over-stream

        -- the run over the written room
        pub bits : Shows p os r mem rom buffer (stopping_of p r mem rom (take (2 * count_of p os) (sets room 0 (log_of (stream_of p os)))) limit buffer)
        bits = subst (λ (e : RanAll). Shows p os r mem rom buffer e) (sym over-room) came-shows

  -- the registers then, whatever buffer is lent
  pub registers-then : (buffer room : List ℕ) → 2 * count_of p os ≤ length room
      → (stopping_of p r mem rom (take (2 * count_of p os) (sets room 0 (log_of (stream_of p os)))) (count_of p os) buffer).ran.registers
      ≡ (stopping_of p r mem rom (log_of (stream_of p os)) (count_of p os) []).ran.registers
  registers-then buffer room fits =
      ap (λ (e : RanAll). e.ran.registers) (over-room buffer (count_of p os) (omega arith) room fits)
      ∙ sym (ap (λ (e : RanAll). e.ran.registers) (over-stream [] (count_of p os) (omega arith)))

-- where a run shows the picture, so does the ordinary one
shows-on : (p : Panel) (os : List Operation) (r : Registers) (mem rom log answers skips : List ℕ) (limit : ℕ)
    → Shows p os r mem rom answers (stopping_of p r mem rom log limit answers) → ShowsOn p os r mem rom answers skips (run_of p r mem rom log limit answers skips)
shows-on p os r mem rom log answers skips limit h =
    subst (ShowsOn p os r mem rom answers skips) (sym (agree p r mem rom log limit answers skips h.number)) (record { shows = h; skipped = refl; skips = refl })

pub demand-3 : Demand3
demand-3 p book number os room r mem rom answers skips limit bytes v whole fits valid size characters few =
    let e : write_of p book number room ≡ wrote 0 0 (count_of p os) (sets room 0 (log_of (stream_of p os))) = write-fits p book number room v whole fits in
    let shown =
    subst (λ (o : Wrote). Shows p os r mem rom answers (stopping_of p r mem rom (take (2 * count_of p os) o.room) limit answers)) (sym e)
    (bits p v book bytes number whole r mem rom valid size characters answers limit few room fits) in (
      ap (λ (o : Wrote). o.written) e,
      shown,
      shows-on p os r mem rom (take (2 * count_of p os) (write_of p book number room).room) answers skips limit shown,
    )
