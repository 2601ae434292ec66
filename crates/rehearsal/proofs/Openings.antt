-- Any memory is planes at their homes; the opening, from any state, leaves the machine that shows the blank picture; a whole stream the one that shows its picture.
use mathlib.Core.Path.{◌≡◌, refl, sym, ap, subst, ◌∙◌}
use mathlib.Core.Bool.{true, false}
use mathlib.Core.List.{List, ◌++◌}
use Prim.Native.Nat.{ℕ, ◌+◌, ◌-◌, ◌*◌, ◌/◌, ◌%◌, ◌≤◌, ◌<◌}
use native.Mathlib.Nat.{add-zero}
use native.Mathlib.Omega.{arith}
use lib.ListN.{length, get_or, take, drop, length-take, length-drop, length-replicate, take-append-drop}
use lib.Seq.{sets, drop-drop}
use Rattle.ground.specs.Bytes.{word_of}
use Rattle.ground.specs.Lists.{zeros}
use Rattle.ground.proofs.Stores.{sets-all}
use Rattle.state.specs.declared.panel.Panel.{Panel}
use Rattle.state.specs.declared.registers.Combination.TheVariants.{Or}
use Rattle.state.specs.declared.registers.Registers.{Registers}
use Rattle.state.specs.State.{valid_panel}
use Rattle.display.proofs.Plain.{plain}
use Rattle.state.specs.declared.registers.Target.TheVariants as target
use Rattle.controller.specs.Access.{Pair, step_of}
use Rattle.effects.specs.Machine.{Machine, machine}
use Rattle.controller.proofs.Takes.{Takes, takes-both, resting, off-taken, word-taken, mode-taken, show-taken}
use Rattle.contents.specs.Replies.{Asked, Body, Refused}
use Rattle.book.specs.Operation.{Operation}
use Rattle.book.specs.Screen.{screen, screen_in, screen_of}
use Rattle.contents.specs.Asked.{asked_of}
use Rattle.writer.specs.Homes.{graphic_home, text_home, glyph_home}
use Rattle.writer.specs.Stream.{block, set_up, opening, body_pairs, stream_of}
use Rattle.writer.proofs.Apart.{graphic-below-text, text-below-glyphs}
use Rattle.picture.specs.Laid.{Nowhere}
use Rattle.picture.specs.Picture.{Picture, blank, with_planes, picture_of}
use Rattle.rehearsal.proofs.Areas.{laid}
use Rattle.rehearsal.proofs.Simulated.{plane_at, display_for, machine_for, Shape, Simulates, sim-both, sim-graphic, sim-codes, sim-glyphs, sim-body}

-- the lengths of the graphic and the text plane
unfoldable pub graphic_bytes : Panel → ℕ
graphic_bytes p = 8 * p.lines * p.columns

unfoldable pub text_bytes : Panel → ℕ
text_bytes p = p.lines * p.columns

-- what lies between the areas
unfoldable pub first_gap : Panel → List ℕ → List ℕ
first_gap p m = take (text_home p - graphic_bytes p) (drop (graphic_bytes p) m)

unfoldable pub second_gap : Panel → List ℕ → List ℕ
second_gap p m = take (glyph_home - (text_home p + text_bytes p)) (drop (text_home p + text_bytes p) m)

-- the areas as they are found, as planes
unfoldable pub found : Panel → List ℕ → Picture
found p m =
    record {
      graphic = take (graphic_bytes p) m;
      codes = take (text_bytes p) (drop (text_home p) m);
      glyphs = drop glyph_home m;
      combination = Or;
      cursor = Nowhere;
    }

-- a list from place k on is its next n and the rest
part : (n k : ℕ) (m : List ℕ) → drop k m ≡ take n (drop k m) ++ drop (k + n) m
part n k m = sym (take-append-drop n (drop k m)) ∙ ap (λ (l : List ℕ). take n (drop k m) ++ l) (drop-drop n k m)

zeros-length : (n : ℕ) → length (zeros n) ≡ n
unfolding zeros
zeros-length n = length-replicate n 0

all-zeros : (l : List ℕ) (n : ℕ) → length l ≡ n → sets l 0 (zeros n) ≡ zeros n
all-zeros l n e = sets-all l (zeros n) (zeros-length n ∙ sym e)

module _ (p : Panel) (v : valid_panel p ≡ true) (m : List ℕ) where
  graphic-below : graphic_bytes p ≤ text_home p
  unfolding graphic_bytes
  graphic-below = omega (arith, graphic-below-text p v)

  text-below : text_home p + text_bytes p ≤ glyph_home
  unfolding text_bytes
  text-below = text-below-glyphs p v

  pub found-laid : m ≡ laid (first_gap p m) (second_gap p m) (found p m).graphic (found p m).codes (found p m).glyphs
  unfolding laid first_gap second_gap found
  found-laid =
      let n : ℕ = graphic_bytes p in
      let t : ℕ = text_bytes p in
      let u : ℕ = text_home p in
      let e : n + (u - n) ≡ u = omega (arith, graphic-below) in
      let f : u + t + (glyph_home - (u + t)) ≡ glyph_home = omega (arith, text-below) in
      sym (take-append-drop n m)
      ∙ ap (λ (l : List ℕ). take n m ++ l)
      (part (u - n) n m
      ∙ ap (λ (l : List ℕ). take (u - n) (drop n m) ++ l)
      (ap (λ (j : ℕ). drop j m) e
      ∙ part t u m
      ∙ ap (λ (l : List ℕ). take t (drop u m) ++ l)
      (part (glyph_home - (u + t)) (u + t) m
      ∙ ap (λ (j : ℕ). take (glyph_home - (u + t)) (drop (u + t) m) ++ drop j m) f)))

  module _ (size : length m ≡ 65536) where
    pub found-shape : Shape p (first_gap p m) (second_gap p m) (found p m)
    unfolding first_gap second_gap found graphic_bytes text_bytes
    found-shape =
        record {
          fits = record {
            text_at = simp (length-take, length-drop) (omega (arith, graphic-below, text-below));
            glyphs_at = simp (length-take, length-drop) (omega (arith, text-below));
            glyphs = simp length-drop (omega arith);
          };
          graphic = simp length-take (omega (arith, graphic-below, text-below));
          codes = simp (length-take, length-drop) (omega (arith, text-below));
          plain = refl;
          laid_on = tt;
        }

    module _ (rom : List ℕ) (r : Registers) where
      -- the registers set, in any state
      set-up : Takes (step_of p rom) (set_up p) (machine r m) (resting (display_for p r.display (found p m)) r.bus.pointer r.bus.latch r.bus.error m)
      unfolding set_up display_for found
      set-up =
          let w : word_of (text_home p % 256) (text_home p / 256) ≡ text_home p = omega arith in
          subst (λ (n : ℕ). Takes (step_of p rom) (set_up p) (machine r m) (at_home n)) w
          (takes-both (off-taken p rom (machine r m))
          (takes-both (word-taken p rom _ r.bus.pointer r.bus.latch r.bus.error m target.TextHome 0x40 (text_home p % 256) (text_home p / 256) refl)
          (takes-both (word-taken p rom _ r.bus.pointer r.bus.latch r.bus.error m target.TextArea 0x41 p.columns 0x00 refl)
          (takes-both (word-taken p rom _ r.bus.pointer r.bus.latch r.bus.error m target.GraphicHome 0x42 0x00 0x00 refl)
          (takes-both (word-taken p rom _ r.bus.pointer r.bus.latch r.bus.error m target.GraphicArea 0x43 p.columns 0x00 refl)
          (takes-both (word-taken p rom _ r.bus.pointer r.bus.latch r.bus.error m target.Offset 0x22 0x1f 0x00 refl)
          (takes-both (mode-taken p rom _ r.bus.pointer r.bus.latch r.bus.error m 0x80 refl)
          (show-taken p rom _ r.bus.pointer r.bus.latch r.bus.error m 0x9c refl))))))))
        where
          at_home : ℕ → Machine
          at_home n = resting (plain (plane_at n p) (plane_at graphic_home p) 0x1f Or false false r.display.cursor r.display.phase) r.bus.pointer r.bus.latch r.bus.error m

      set-up-found : Takes (step_of p rom) (set_up p) (machine r m) (machine_for p r (first_gap p m) (second_gap p m) (found p m) r.bus.pointer)
      set-up-found =
          subst (λ (l : List ℕ). Takes (step_of p rom) (set_up p) (machine r m) (resting (display_for p r.display (found p m)) r.bus.pointer r.bus.latch r.bus.error l))
          found-laid set-up

      abbrev Sim : List Pair → Picture → Picture → ℕ → Type 0
      Sim = Simulates p rom r (first_gap p m) (second_gap p m)

      -- the found areas with the first, the first two, all of them cleared
      first : Picture
      first = with_planes (found p m) (zeros (graphic_bytes p)) (found p m).codes (found p m).glyphs

      second : Picture
      second = with_planes (found p m) (zeros (graphic_bytes p)) (zeros (text_bytes p)) (found p m).glyphs

      clear-graphic : (q : ℕ) → Sim (block graphic_home (zeros (graphic_bytes p))) (found p m) first q
      unfolding first graphic_bytes
      clear-graphic q =
          rw (all-zeros (found p m).graphic (graphic_bytes p) found-shape.graphic) at
          (sim-graphic p v rom r (first_gap p m) (second_gap p m) (found p m) found-shape 0 (zeros (graphic_bytes p)) (omega (arith, zeros-length (graphic_bytes p), found-shape.graphic)) q)

      clear-text : (s : Shape p (first_gap p m) (second_gap p m) first) (q : ℕ) → Sim (block (text_home p) (zeros (text_bytes p))) first second q
      unfolding first second text_bytes
      clear-text s q =
          rw (add-zero, all-zeros (found p m).codes (text_bytes p) found-shape.codes) at
          (sim-codes p v rom r (first_gap p m) (second_gap p m) first s 0 (zeros (text_bytes p)) (omega (arith, zeros-length (text_bytes p), s.codes)) q)

      clear-glyphs : (s : Shape p (first_gap p m) (second_gap p m) second) (q : ℕ) → Sim (block glyph_home (zeros 1024)) second (blank p) q
      unfolding first second blank found graphic_bytes text_bytes
      clear-glyphs s q =
          rw (all-zeros (found p m).glyphs 1024 found-shape.fits.glyphs) at
          (sim-glyphs p v rom r (first_gap p m) (second_gap p m) second s 0 (zeros 1024) (omega (arith, zeros-length 1024)) q)

      cleared : Sim (block graphic_home (zeros (graphic_bytes p)) ++ (block (text_home p) (zeros (text_bytes p)) ++ block glyph_home (zeros 1024))) (found p m) (blank p) r.bus.pointer
      cleared =
          let x : Sim (block graphic_home (zeros (graphic_bytes p))) (found p m) first r.bus.pointer = clear-graphic r.bus.pointer in
          let y : Sim (block (text_home p) (zeros (text_bytes p))) first second x.last = clear-text x.shape x.last in
          sim-both p v rom r (first_gap p m) (second_gap p m) x (sim-both p v rom r (first_gap p m) (second_gap p m) y (clear-glyphs y.shape y.last))

      -- what a whole stream leaves
      pub record Drawn (os : List Operation) : Type 0 where
        pub pointer : ℕ
        pub run : Takes (step_of p rom) (stream_of p os) (machine r m) (machine_for p r (first_gap p m) (second_gap p m) (picture_of p os) pointer)
        pub shape : Shape p (first_gap p m) (second_gap p m) (picture_of p os)

      pub stream-draws : (book : List ℕ) → ((i : ℕ) → get_or book i 0 < 256) → (number : ℕ) {os : List Operation} → screen_of p book number ≡ screen os → Drawn os
      unfolding screen_of stream_of opening picture_of graphic_bytes text_bytes
      stream-draws book bytes number {os} e = go (asked_of book number) e
        where
          go : (a : Asked) → screen_in p book a ≡ screen os → Drawn os
          go (Body start end) e =
              let x : Sim (body_pairs p os) (blank p) (picture_of p os) cleared.last = sim-body p v rom r (first_gap p m) (second_gap p m) book bytes end (end - start) start e (blank p) cleared.shape cleared.last in
              record { pointer = x.last; run = takes-both (takes-both set-up-found cleared.run) x.run; shape = x.shape }
          go (Refused n place) e = let z : ◌≡◌ {A = ℕ} 0 1 = cc in absurd (let y : ⊥ = omega arith in y)
