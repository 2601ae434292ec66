-- The short stream against the picture: each change moves the machine from one plane to the next, the end sets mode and cursor.
use mathlib.Core.Path.{◌≡◌, refl, sym, ap, subst, ◌∙◌}
use mathlib.Core.Bool.{Bool, true, false, cond}
use mathlib.Core.List.{List, [], ◌∷◌, ◌++◌}
use Prim.Native.Nat.{ℕ, suc, ◌+◌, ◌/◌, ◌%◌, ◌<◌}
use native.Mathlib.Nat.{add-zero}
use native.Mathlib.Omega.{arith}
use lib.Dec.{eqb}
use lib.ListN.{length, set, length-set, length-append}
use lib.Seq.{set-append_seam, append_snoc}
use borrow.Author.Tests.{eqb-true}
use Rattle.ground.specs.Bytes.{word_of}
use Rattle.ground.specs.Lists.{stored}
use Rattle.state.specs.declared.panel.Panel.{Panel}
use Rattle.state.specs.declared.registers.Registers.{Registers}
use Rattle.state.specs.State.{valid_panel}
use Rattle.state.specs.declared.registers.Target.TheVariants as target
use Rattle.controller.specs.Access.{Pair, step_of}
use Rattle.effects.specs.Machine.{Machine}
use Rattle.controller.proofs.Takes.{Takes, takes-both, resting, word-taken, show-taken}
use Rattle.writer.specs.Homes.{graphic_home, text_home, glyph_home}
use Rattle.writer.specs.Stream.{point_to, code, combination_code, operation_pairs}
use Rattle.picture.specs.Laid.{Laid, Nowhere, Over}
use Rattle.picture.specs.Picture.{Picture, with_planes, applied}
use Rattle.difference.specs.Short.{change_at, changes_from, end_pairs, short_over, short_stream}
use Rattle.difference.specs.Differing.{LaidRange}
use Rattle.rehearsal.proofs.Areas.{laid, store-graphic, store-text, store-glyphs}
use Rattle.rehearsal.proofs.Idles.{stay-taken}
use Rattle.rehearsal.proofs.Simulated.{display_for, machine_for, Shape, Simulates, shape-planes, sim-none, sim-both, sim-cursor, sim-combine}

-- pairs that take the machine of picture a to that of picture b, the cursor that b finds being the one a left
pub record Turns (p : Panel) (rom : List ℕ) (r : Registers) (g h : List ℕ) (qs : List Pair) (a b : Picture) (pointer : ℕ) : Type 0 where
  pub next : Registers
  pub last : ℕ
  pub run : Takes (step_of p rom) qs (machine_for p r g h a pointer) (machine_for p next g h b last)

module _ (p : Panel) (v : valid_panel p ≡ true) (rom : List ℕ) (r : Registers) (g h : List ℕ) where
  abbrev Sim : List Pair → Picture → Picture → ℕ → Type 0
  Sim = Simulates p rom r g h

  -- one byte, into whatever plane it falls
  sim-store : (at b : ℕ) (a : Picture) (x y z : List ℕ) → stored (laid g h a.graphic a.codes a.glyphs) at (b ∷ []) ≡ laid g h x y z
      → Shape p g h (with_planes a x y z) → (q : ℕ) → Sim (change_at at b) a (with_planes a x y z) q
  unfolding change_at point_to display_for stored
  sim-store at b a x y z e s q =
      let w : word_of (at % 256) (at / 256) ≡ at = omega arith in
      let m : List ℕ = laid g h a.graphic a.codes a.glyphs in
      record {
        last = at;
        run = subst
            (λ (t : Machine). Takes (step_of p rom) (change_at at b) (machine_for p r g h a q) t)
            ((λ i. resting (display_for p r.display a) (w i) r.bus.latch r.bus.error (set m (w i) b))
            ∙ (λ i. resting (display_for p r.display a) at r.bus.latch r.bus.error (e i)))
            (takes-both (word-taken p rom _ q r.bus.latch r.bus.error m target.Pointer 0x24 (at % 256) (at / 256) refl)
            (stay-taken p rom _ (word_of (at % 256) (at / 256)) r.bus.latch r.bus.error m b));
        shape = s;
      }

  module _ (a : Picture) (s : Shape p g h a) (i b q : ℕ) where
    one-graphic : i < length a.graphic → Sim (change_at (graphic_home + i) b) a (with_planes a (set a.graphic i b) a.codes a.glyphs) q
    one-graphic l =
        sim-store (graphic_home + i) b a (set a.graphic i b) a.codes a.glyphs
        (ap (λ (n : ℕ). stored (laid g h a.graphic a.codes a.glyphs) n (b ∷ [])) (let e : graphic_home + i ≡ i = omega arith in e) ∙ store-graphic g h a.graphic a.codes a.glyphs s.fits i (b ∷ []) (omega arith))
        (shape-planes s _ _ _ (length-set a.graphic i b) refl refl) q

    one_code : i < length a.codes → Sim (change_at (text_home p + i) b) a (with_planes a a.graphic (set a.codes i b) a.glyphs) q
    one_code l =
        sim-store (text_home p + i) b a a.graphic (set a.codes i b) a.glyphs
        (store-text g h a.graphic a.codes a.glyphs s.fits i (b ∷ []) (omega arith))
        (shape-planes s _ _ _ refl (length-set a.codes i b) refl) q

    one-glyph : i < length a.glyphs → Sim (change_at (glyph_home + i) b) a (with_planes a a.graphic a.codes (set a.glyphs i b)) q
    one-glyph l =
        sim-store (glyph_home + i) b a a.graphic a.codes (set a.glyphs i b)
        (store-glyphs g h a.graphic a.codes a.glyphs s.fits i (b ∷ []) (omega (arith, s.fits.glyphs)))
        (shape-planes s _ _ _ refl refl (length-set a.glyphs i b)) q

  -- a plane at a home, of pictures that differ in it alone
  module _ (home : ℕ) (P : List ℕ → Picture)
      (one : (x : List ℕ) → Shape p g h (P x) → (i b q : ℕ) → i < length x → Sim (change_at (home + i) b) (P x) (P (set x i b)) q) where
    sim-changes : (old new pre : List ℕ) → length old ≡ length new → Shape p g h (P (pre ++ old)) → (q : ℕ)
        → Sim (changes_from (home + length pre) old new) (P (pre ++ old)) (P (pre ++ new)) q
    unfolding changes_from
    sim-changes [] [] pre e s q = sim-none p v rom r g h s q
    sim-changes [] (y ∷ new) pre e s q = absurd (let z : ⊥ = omega arith in z)
    sim-changes (x ∷ old) [] pre e s q = absurd (let z : ⊥ = omega arith in z)
    sim-changes (x ∷ old) (y ∷ new) pre e s q = go (eqb x y) refl (λ t n. sim-changes old new (pre ++ (y ∷ [])) (omega arith) t n)
      where
        -- the rest, once this byte is the new one
        rest : ((t : Shape p g h (P ((pre ++ (y ∷ [])) ++ old))) (n : ℕ)
            → Sim (changes_from (home + length (pre ++ (y ∷ []))) old new) (P ((pre ++ (y ∷ [])) ++ old)) (P ((pre ++ (y ∷ [])) ++ new)) n)
            → (t : Shape p g h (P (pre ++ (y ∷ old)))) (n : ℕ) → Sim (changes_from (suc (home + length pre)) old new) (P (pre ++ (y ∷ old))) (P (pre ++ (y ∷ new))) n
        rest more t n =
            let j : home + length (pre ++ (y ∷ [])) ≡ suc (home + length pre) = rw length-append (omega arith) in
            rw (j, append_snoc pre y old, append_snoc pre y new) at (more (rw (append_snoc pre y old) t) n)

        go : (t : Bool) → eqb x y ≡ t
            → ((t : Shape p g h (P ((pre ++ (y ∷ [])) ++ old))) (n : ℕ)
            → Sim (changes_from (home + length (pre ++ (y ∷ []))) old new) (P ((pre ++ (y ∷ [])) ++ old)) (P ((pre ++ (y ∷ [])) ++ new)) n)
            → Sim (cond t [] (change_at (home + length pre) y) ++ changes_from (suc (home + length pre)) old new) (P (pre ++ (x ∷ old))) (P (pre ++ (y ∷ new))) q
        go true d more =
            let i : x ≡ y = eqb-true x y d in
            subst (λ (n : ℕ). Sim (changes_from (suc (home + length pre)) old new) (P (pre ++ (n ∷ old))) (P (pre ++ (y ∷ new))) q) (sym i)
            (rest more (subst (λ (n : ℕ). Shape p g h (P (pre ++ (n ∷ old)))) i s) q)
        go false d more =
            let f : Sim (change_at (home + length pre) y) (P (pre ++ (x ∷ old))) (P (pre ++ (y ∷ old))) q
            = rw (set-append_seam pre x old y) at (one (pre ++ (x ∷ old)) s (length pre) y q (rw length-append (omega arith))) in
            sim-both p v rom r g h f (rest more f.shape f.last)

  module _ (a b : Picture) (s : Shape p g h a) (u : Shape p g h b) (range : LaidRange p b.cursor) where
    -- a with the first plane, the first two, all three and the combination of b
    abbrev first : Picture
    first = with_planes a b.graphic a.codes a.glyphs

    abbrev second : Picture
    second = with_planes a b.graphic b.codes a.glyphs

    abbrev third : Picture
    third = with_planes a b.graphic b.codes b.glyphs

    abbrev fourth : Laid → Picture
    fourth cursor = record { graphic = b.graphic; codes = b.codes; glyphs = b.glyphs; combination = b.combination; cursor = cursor }

    to-first : (q : ℕ) → Sim (changes_from graphic_home a.graphic b.graphic) a first q
    to-first q =
        sim-changes graphic_home (λ x. with_planes a x a.codes a.glyphs) (λ x t i c n l. one-graphic (with_planes a x a.codes a.glyphs) t i c n l) a.graphic b.graphic []
        (s.graphic ∙ sym u.graphic) s q

    to-second : Shape p g h first → (q : ℕ) → Sim (changes_from (text_home p) a.codes b.codes) first second q
    to-second t q =
        rw add-zero at
        (sim-changes (text_home p) (λ x. with_planes a b.graphic x a.glyphs) (λ x t i c n l. one_code (with_planes a b.graphic x a.glyphs) t i c n l) a.codes b.codes []
        (s.codes ∙ sym u.codes) t q)

    to-third : Shape p g h second → (q : ℕ) → Sim (changes_from glyph_home a.glyphs b.glyphs) second third q
    to-third t q =
        sim-changes glyph_home (λ x. with_planes a b.graphic b.codes x) (λ x t i c n l. one-glyph (with_planes a b.graphic b.codes x) t i c n l) a.glyphs b.glyphs []
        (s.fits.glyphs ∙ sym u.fits.glyphs) t q

    to-fourth : Shape p g h third → (q : ℕ) → Sim (code (combination_code b.combination) ∷ []) third (fourth a.cursor) q
    unfolding operation_pairs applied
    to-fourth t q = sim-combine p v rom r g h third t b.combination u.plain q

    to_end : (cursor : Laid) → LaidRange p cursor → Shape p g h (fourth a.cursor) → (q : ℕ) → Turns p rom r g h (end_pairs p cursor) (fourth a.cursor) (fourth cursor) q
    unfolding applied display_for
    to_end Nowhere l t q =
        record {
          next = record { display = display_for p r.display (fourth a.cursor); bus = r.bus };
          last = q;
          run = show-taken p rom _ q r.bus.latch r.bus.error (laid g h b.graphic b.codes b.glyphs) 0x9c refl;
        }
    to_end (Over k blink) l t q =
        let x = sim-cursor p v rom r g h (fourth a.cursor) t k.y k.x k.height blink l q in
        record { next = r; last = x.last; run = x.run }

    pub short-turns : (q : ℕ) → Turns p rom r g h (short_stream p a b) a b q
    unfolding short_over
    short-turns q =
        let one = to-first q in
        let two = to-second one.shape one.last in
        let three = to-third two.shape two.last in
        let four = to-fourth three.shape three.last in
        let end = to_end b.cursor range four.shape four.last in
        record {
          next = end.next;
          last = end.last;
          run = takes-both one.run (takes-both two.run (takes-both three.run (takes-both four.run end.run)));
        }
