-- A short stream part by part: room for each, and what is answered.
use mathlib.Core.Path.{◌≡◌, ap, sym, ◌∙◌}
use mathlib.Core.Bool.{Bool, true, false, cond, not}
use mathlib.Core.List.{List, ◌∷◌}
use Prim.Native.Nat.{ℕ, ◌+◌, ◌*◌, ◌≤◌, ◌<◌}
use native.Mathlib.Omega.{arith}
use lib.Dec.{eqb, ltb}
use Rattle.std.specs.List.{count_by, zip}
use lib.ListN.{length}
use lib.Seq.{sets}
use borrow.Author.Tests.{lt-ltb, le-ltb}
use Rattle.state.specs.declared.panel.Panel.{Panel}
use Rattle.state.proofs.Sizes.{cells-few, graphic-few}
use Rattle.controller.specs.Run.{log_of}
use Rattle.writer.specs.Stream.{code, graphic_home, text_home, glyph_home, combination_code}
use Rattle.writer.specs.declared.put.Stream.{Stream}
use Rattle.writer.specs.Put.{Puts}
use Rattle.writer.specs.Written.{wrote}
use Rattle.writer.proofs.Apart.{graphic-below-text, text-below-glyphs}
use Rattle.writer.proofs.Puts.{put_both}
use Rattle.picture.specs.Picture.{Picture}
use Rattle.difference.specs.Short.{changes_from, end_pairs, short_over, change_count, end_count, count_over}
use Rattle.difference.specs.Change.{write_short}
use Rattle.difference.specs.declared.changes.Planes.{Planes}
use Rattle.difference.specs.Differing.{Changing, Ending, Between, BetweenRoomy}
use Rattle.difference.proofs.Comparing.{changes-length, counted, count-few}
use Rattle.difference.proofs.Ends.{end-few}

module _ {p : Panel} {a : Planes} {b : Picture} {s : Stream} (k : BetweenRoomy p a b s) where
  pub short-first : Changing graphic_home a.graphic.now b.graphic s
  unfolding count_over
  short-first =
      record {
        same = k.both.old.graphic ∙ sym k.both.new.graphic;
        low = omega (arith, k.both.new.graphic, graphic-below-text p k.both.valid, text-below-glyphs p k.both.valid);
        fits = omega (arith, k.fits);
      }

  module _ {s₁ : Stream} (x : Puts s (changes_from graphic_home a.graphic.now b.graphic) s₁) {home : ℕ} (e : home ≡ text_home p) where
    pub short-second : Changing home a.codes.now b.codes s₁
    unfolding count_over
    short-second =
        record {
          same = k.both.old.codes ∙ sym k.both.new.codes;
          low = omega (arith, e, k.both.new.codes, text-below-glyphs p k.both.valid);
          fits = omega (arith, k.fits, x.ends, changes-length graphic_home a.graphic.now b.graphic, x.kept);
        }

    module _ {s₂ : Stream} (y : Puts s₁ (changes_from home a.codes.now b.codes) s₂) where
      pub short-third : Changing glyph_home a.glyphs.now b.glyphs s₂
      unfolding count_over
      short-third =
          record {
            same = k.both.old.glyphs ∙ sym k.both.new.glyphs;
            low = omega (arith, k.both.new.glyphs);
            fits = omega (arith, k.fits, x.ends, changes-length graphic_home a.graphic.now b.graphic, x.kept, y.ends, changes-length home a.codes.now b.codes, y.kept);
          }

      module _ {s₃ : Stream} (z : Puts s₂ (changes_from glyph_home a.glyphs.now b.glyphs) s₃) where
        pub short-fourth : Ending p b.cursor s₃
        unfolding count_over
        short-fourth =
            record {
              valid = k.both.valid;
              range = k.both.range;
              fits = omega (arith, k.fits, x.ends, changes-length graphic_home a.graphic.now b.graphic, x.kept, y.ends, changes-length home a.codes.now b.codes, y.kept, z.ends, changes-length glyph_home a.glyphs.now b.glyphs, z.kept);
            }

        pub short-all : {s₄ : Stream} → Puts s₃ (code (combination_code b.combination) ∷ end_pairs p b.cursor) s₄
            → Puts s (short_over p a.graphic.now a.codes.now a.glyphs.now b) s₄
        unfolding short_over
        short-all w = put_both x (put_both (rw e at y) (put_both z w))

-- as the code counts them
abbrev differing : List ℕ → List ℕ → ℕ
differing xs ys = count_by (λ (q : ℕ × ℕ). not (eqb q.0 q.1)) (zip xs ys)

module _ {p : Panel} {o : Planes} {b : Picture} (k : Between p o b) where
  abbrev g : List ℕ
  g = o.graphic.now

  abbrev t : List ℕ
  t = o.codes.now

  abbrev h : List ℕ
  h = o.glyphs.now

  module _ {a c d : ℕ} (u : a ≡ differing g b.graphic) (v : c ≡ differing t b.codes) (w : d ≡ differing h b.glyphs) where
    i : a ≡ change_count g b.graphic
    i = u ∙ counted g b.graphic

    j : c ≡ change_count t b.codes
    j = v ∙ counted t b.codes

    l : d ≡ change_count h b.glyphs
    l = w ∙ counted h b.glyphs

    pub changes-few : a + c + d ≤ 24064
    changes-few =
        omega (arith, i, j, l, count-few g b.graphic, count-few t b.codes, count-few h b.glyphs, k.new.graphic, k.new.codes, k.new.glyphs, graphic-few p k.valid, cells-few p k.valid)

    module _ {e : ℕ} (m : e ≡ end_count b.cursor) where
      abbrev total : ℕ
      total = 5 * (a + c + d) + e

      pub total-few : total ≤ 120326
      total-few = omega (arith, changes-few, m, (end-few b.cursor).1)

      total-is : total ≡ count_over g t h b
      unfolding count_over
      total-is = λ q. 5 * (i q + j q + l q) + m q

      module _ (room : List ℕ) where
        by-room : (v : Bool) → ltb (length room) (2 * total) ≡ v → cond v (wrote 12 total 0 room) (wrote 0 0 total (sets room 0 (log_of (short_over p g t h b)))) ≡ write_short p g t h b room
        unfolding write_short
        by-room v f =
            ap (λ (u : Bool). cond u (wrote 12 total 0 room) (wrote 0 0 total (sets room 0 (log_of (short_over p g t h b))))) (sym f)
            ∙ ap (λ (n : ℕ). cond (ltb (length room) (2 * n)) (wrote 12 n 0 room) (wrote 0 0 n (sets room 0 (log_of (short_over p g t h b))))) total-is

        pub short-12 : length room < 2 * total → wrote 12 total 0 room ≡ write_short p g t h b room
        short-12 f = by-room true (lt-ltb (length room) (2 * total) f)

        module _ (f : 2 * total ≤ length room) where
          module _ {s : Stream} (z : s.at ≡ 0) (r : s.room.now ≡ room) where
            pub short-roomy : BetweenRoomy p o b s
            short-roomy = record { both = k; fits = omega (arith, f, total-is, z, ap length r) }

            -- the lent room ends as the stream's
            pub short-0 : {e : Stream} → Puts s (short_over p g t h b) e → {after : List ℕ} → after ≡ e.room.now → wrote 0 0 total after ≡ write_short p g t h b room
            short-0 x q =
                ap (wrote 0 0 total) (q ∙ x.holds ∙ (λ i. sets (r i) (z i) (log_of (short_over p g t h b))))
                ∙ by-room false (le-ltb (length room) (2 * total) f)
