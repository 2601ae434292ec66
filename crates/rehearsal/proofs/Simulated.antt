-- The machine that shows a picture, and each operation's pairs against the picture's operation.
use mathlib.Core.Path.{◌≡◌, refl, ap, subst, ◌∙◌}
use mathlib.Core.Bool.{Bool, true, false, cond}
use mathlib.Core.List.{List, [], ◌++◌}
use Prim.Native.Nat.{ℕ, zero, suc, ◌+◌, ◌-◌, ◌*◌, ◌/◌, ◌%◌, ◌≤◌, ◌<◌}
use native.Mathlib.Nat.{mul-le-mul_right, div-lt_iff_lt-mul, mod-eq_of_lt}
use native.Mathlib.Omega.{arith}
use lib.ListN.{length, get_or, set, take, drop, replicate, length-replicate, length-set}
use lib.Seq.{sets, length-sets}
use Rattle.ground.specs.Bytes.{with_bit, word_of}
use Rattle.ground.specs.Lists.{stored}
use Rattle.state.specs.declared.panel.Panel.{Panel}
use Rattle.state.specs.declared.registers.Plane.{Plane}
use Rattle.state.specs.declared.registers.Cursor.{Cursor}
use Rattle.state.specs.declared.registers.Combination.{Combination}
use Rattle.state.specs.declared.registers.Combination.TheVariants.{Or, Exor, And, Attribute}
use Rattle.state.specs.declared.registers.Display.{Display}
use Rattle.state.specs.declared.registers.Registers.{Registers}
use Rattle.state.specs.State.{valid_panel}
use Rattle.state.specs.Combination.{is_attribute}
use Rattle.display.proofs.Plain.{plain}
use Rattle.codes.specs.Command.{decode_of}
use Rattle.state.specs.declared.registers.Target.TheVariants as target
use Rattle.codes.specs.declared.command.Command.TheVariants.{Mode}
use Rattle.codes.specs.Decoded.{Defined}
use Rattle.codes.proofs.Computed.{decode-height, decode-bit, decode-cursor}
use Rattle.controller.specs.Access.{Pair, step_of}
use Rattle.effects.specs.Machine.{Machine}
use Rattle.controller.proofs.Takes.{Takes, takes_none, takes-both, resting, behind_bytes, word-taken, mode-taken, show-taken, height-taken, bit-taken, block-taken}
use Rattle.book.specs.declared.operation.Placed.{Placed}
use Rattle.book.specs.declared.operation.Placed.TheVariants.{Text, Rectangle, Dot, Glyph, Cursor as Placed-Cursor, Combine}
use Rattle.book.specs.Operation.{Operation, dot, cursor, combine, operation_of, dot_byte, dot_bit}
use Rattle.book.specs.Range.{DotRange, CursorRange, InRange, ByteSized}
use Rattle.book.specs.Screen.{screen, operations_from}
use Rattle.book.proofs.Walking.{walk-all}
use Rattle.writer.specs.Homes.{graphic_home, text_home, glyph_home}
use Rattle.writer.specs.Stream.{point_to, block, row_blocks, combination_code, operation_pairs, body_pairs}
use Rattle.writer.proofs.Lengths.{part_length}
use Rattle.state.specs.Halves.{cursor_y}
use Rattle.state.proofs.Halves.{y-few}
use Rattle.state.proofs.Sizes.{some-width, columns-few}
use Rattle.book.proofs.Places.{bit-few}
use Rattle.picture.specs.Laid.{Laid, Nowhere, Over}
use Rattle.picture.specs.Picture.{Picture, with_planes, filled, applied, applied_all}
use Rattle.rehearsal.proofs.Areas.{laid, Fits, store-graphic, store-text, store-glyphs, set-graphic, graphic-at}

abbrev pub cursor_on : Laid → Bool
cursor_on Nowhere = false
cursor_on (Over k blink) = true

abbrev pub cursor_blinks : Laid → Bool
cursor_blinks Nowhere = false
cursor_blinks (Over k blink) = blink

-- with none laid the cursor registers are as they were found; else Y is the line's
abbrev pub cursor_in : Panel → Cursor → Laid → Cursor
cursor_in p found Nowhere = found
cursor_in p found (Over k blink) = record { x = k.x; y = cursor_y p k.y; height = k.height }

-- a cursor laid stands on a line of the panel
abbrev pub LaidOn : Panel → Laid → Type 0
LaidOn p Nowhere = Unit {0}
LaidOn p (Over k blink) = k.y < p.lines

abbrev pub plane_at : ℕ → Panel → Plane
plane_at home p = record { home = home; area = p.columns }

-- the display group that shows a picture; d has what a screen leaves alone
unfoldable pub display_for : Panel → Display → Picture → Display
display_for p d a =
    plain (plane_at (text_home p) p) (plane_at graphic_home p) 0x1f a.combination (cursor_on a.cursor) (cursor_blinks a.cursor) (cursor_in p d.cursor a.cursor) d.phase

-- the machine that shows a picture, at rest, with this pointer
abbrev pub machine_for : Panel → Registers → List ℕ → List ℕ → Picture → ℕ → Machine
machine_for p r g h a pointer =
    resting (display_for p r.display a) pointer r.bus.latch r.bus.error (laid g h a.graphic a.codes a.glyphs)

-- planes of the panel's lengths, no attributes, the cursor on the panel
pub record Shape (p : Panel) (g h : List ℕ) (a : Picture) : Type 0 where
  pub fits : Fits (text_home p) g h a.graphic a.codes a.glyphs
  pub graphic : length a.graphic ≡ 8 * p.lines * p.columns
  pub codes : length a.codes ≡ p.lines * p.columns
  pub plain : is_attribute a.combination ≡ false
  pub laid_on : LaidOn p a.cursor

-- pairs that take the machine of picture a to that of picture b, whatever the pointer
pub record Simulates (p : Panel) (rom : List ℕ) (r : Registers) (g h : List ℕ) (qs : List Pair) (a b : Picture) (pointer : ℕ) : Type 0 where
  pub last : ℕ
  pub run : Takes (step_of p rom) qs (machine_for p r g h a pointer) (machine_for p r g h b last)
  pub shape : Shape p g h b

pub shape-planes : {p : Panel} {g h : List ℕ} {a : Picture} → Shape p g h a → (x y z : List ℕ)
    → length x ≡ length a.graphic → length y ≡ length a.codes → length z ≡ length a.glyphs → Shape p g h (with_planes a x y z)
shape-planes s x y z i j k =
    record {
      fits = record {
        text_at = omega (arith, s.fits.text_at);
        glyphs_at = omega (arith, s.fits.glyphs_at);
        glyphs = k ∙ s.fits.glyphs;
      };
      graphic = i ∙ s.graphic;
      codes = j ∙ s.codes;
      plain = s.plain;
      laid_on = s.laid_on;
    }

module _ (p : Panel) (v : valid_panel p ≡ true) (rom : List ℕ) (r : Registers) (g h : List ℕ) where
  abbrev Sim : List Pair → Picture → Picture → ℕ → Type 0
  Sim = Simulates p rom r g h

  pub sim-none : {a : Picture} → Shape p g h a → (q : ℕ) → Sim [] a a q
  sim-none s q = record { last = q; run = takes_none; shape = s }

  pub sim-both : {ps qs : List Pair} {a b c : Picture} {q : ℕ} → (x : Sim ps a b q) → Sim qs b c x.last → Sim (ps ++ qs) a c q
  sim-both x y = record { last = y.last; run = takes-both x.run y.run; shape = y.shape }

  -- a block that turns the planes into others
  sim-block : (at : ℕ) (vs : List ℕ) (a : Picture) (x y z : List ℕ) → stored (laid g h a.graphic a.codes a.glyphs) at vs ≡ laid g h x y z
      → Shape p g h (with_planes a x y z) → (q : ℕ) → Sim (block at vs) a (with_planes a x y z) q
  unfolding block point_to display_for
  sim-block at vs a x y z e s q =
      let w : word_of (at % 256) (at / 256) ≡ at = omega arith in
      record {
        last = behind_bytes at vs;
        run = subst
            (λ (m : Machine). Takes (step_of p rom) (block at vs) (machine_for p r g h a q) m)
            ((λ i. resting (display_for p r.display a) (behind_bytes (w i) vs) r.bus.latch r.bus.error (stored (laid g h a.graphic a.codes a.glyphs) (w i) vs))
            ∙ (λ i. resting (display_for p r.display a) (behind_bytes at vs) r.bus.latch r.bus.error (e i)))
            (block-taken p rom (display_for p r.display a) q r.bus.latch r.bus.error (laid g h a.graphic a.codes a.glyphs) (at % 256) (at / 256) vs);
        shape = s;
      }

  module _ (a : Picture) (s : Shape p g h a) where
    pub sim-graphic : (i : ℕ) (vs : List ℕ) → i + length vs ≤ length a.graphic → (q : ℕ)
        → Sim (block (graphic_home + i) vs) a (with_planes a (sets a.graphic i vs) a.codes a.glyphs) q
    sim-graphic i vs l q =
        sim-block (graphic_home + i) vs a (sets a.graphic i vs) a.codes a.glyphs
        (ap (λ (n : ℕ). stored (laid g h a.graphic a.codes a.glyphs) n vs) (let e : graphic_home + i ≡ i = omega arith in e) ∙ store-graphic g h a.graphic a.codes a.glyphs s.fits i vs l)
        (shape-planes s _ _ _ (length-sets a.graphic i vs) refl refl) q

    pub sim-codes : (i : ℕ) (vs : List ℕ) → i + length vs ≤ length a.codes → (q : ℕ)
        → Sim (block (text_home p + i) vs) a (with_planes a a.graphic (sets a.codes i vs) a.glyphs) q
    sim-codes i vs l q =
        sim-block (text_home p + i) vs a a.graphic (sets a.codes i vs) a.glyphs
        (store-text g h a.graphic a.codes a.glyphs s.fits i vs l)
        (shape-planes s _ _ _ refl (length-sets a.codes i vs) refl) q

    pub sim-glyphs : (i : ℕ) (vs : List ℕ) → i + length vs ≤ 1024 → (q : ℕ)
        → Sim (block (glyph_home + i) vs) a (with_planes a a.graphic a.codes (sets a.glyphs i vs)) q
    sim-glyphs i vs l q =
        sim-block (glyph_home + i) vs a a.graphic a.codes (sets a.glyphs i vs)
        (store-glyphs g h a.graphic a.codes a.glyphs s.fits i vs l)
        (shape-planes s _ _ _ refl refl (length-sets a.glyphs i vs)) q

    pub sim-cursor : (line column height : ℕ) (blink : Bool) → CursorRange p line column height → (q : ℕ)
        → Sim (operation_pairs p (cursor line column height blink)) a (applied p (cursor line column height blink) a) q
    unfolding operation_pairs applied display_for
    sim-cursor line column height blink k q =
        let m : List ℕ = laid g h a.graphic a.codes a.glyphs in
        let x : column % 128 ≡ column = omega (arith, k.across, columns-few p v) in
        let y : cursor_y p line % 32 ≡ cursor_y p line = mod-eq_of_lt (y-few p v line k.down) in
        record {
          last = q;
          run = subst
              (λ (t : Machine). Takes (step_of p rom) (operation_pairs p (cursor line column height blink)) (machine_for p r g h a q) t)
              (λ i. resting
              (plain (plane_at (text_home p) p) (plane_at graphic_home p) 0x1f a.combination true blink (record { x = x i; y = y i; height = height }) r.display.phase)
              q r.bus.latch r.bus.error m)
              (takes-both (word-taken p rom _ q r.bus.latch r.bus.error m target.Cursor 0x21 column (cursor_y p line) refl)
              (takes-both (height-taken p rom _ q r.bus.latch r.bus.error m (0xa0 + (height - 1)) (decode-height height k.some k.few))
              (show-taken p rom _ q r.bus.latch r.bus.error m (cond blink 0x9f 0x9e) (decode-cursor blink))));
          shape = record { fits = s.fits; graphic = s.graphic; codes = s.codes; plain = s.plain; laid_on = k.down };
        }

    pub sim-combine : (k : Combination) → is_attribute k ≡ false → (q : ℕ) → Sim (operation_pairs p (combine k)) a (applied p (combine k) a) q
    unfolding operation_pairs applied display_for
    sim-combine k e q =
        record {
          last = q;
          run = mode-taken p rom _ q r.bus.latch r.bus.error (laid g h a.graphic a.codes a.glyphs) (combination_code k) (mode k);
          shape = record { fits = s.fits; graphic = s.graphic; codes = s.codes; plain = e; laid_on = s.laid_on };
        }
      where
        mode : (k : Combination) → decode_of (combination_code k) ≡ Defined (Mode false k)
        mode Or = refl
        mode Exor = refl
        mode And = refl
        mode Attribute = refl

    sim-dot : (x y : ℕ) (on : Bool) → DotRange p x y → (q : ℕ) → Sim (operation_pairs p (dot x y on)) a (applied p (dot x y on) a) q
    unfolding operation_pairs applied display_for point_to
    sim-dot x y on k q =
        let i : ℕ = dot_byte p x y in
        let b : ℕ = dot_bit p x in
        let m : List ℕ = laid g h a.graphic a.codes a.glyphs in
        let column : x / p.width < p.columns = (div-lt_iff_lt-mul (some-width p v)).1 k.across in
        let l : i < length a.graphic = omega (arith, s.graphic, mul-le-mul_right p.columns k.down) in
        let w : word_of ((graphic_home + i) % 256) ((graphic_home + i) / 256) ≡ i = omega arith in
        record {
          last = i;
          run = subst
              (λ (t : Machine). Takes (step_of p rom) (operation_pairs p (dot x y on)) (machine_for p r g h a q) t)
              ((λ j. resting (display_for p r.display a) (w j) r.bus.latch r.bus.error (set m (w j) (with_bit (get_or m (w j) 0) b on)))
              ∙ (λ j. resting (display_for p r.display a) i r.bus.latch r.bus.error
              ((ap (λ (c : ℕ). set m i (with_bit c b on)) (graphic-at g h a.graphic a.codes a.glyphs s.fits i l)
              ∙ set-graphic g h a.graphic a.codes a.glyphs s.fits i (with_bit (get_or a.graphic i 0) b on) l) j)))
              (takes-both (word-taken p rom _ q r.bus.latch r.bus.error m target.Pointer 0x24 ((graphic_home + i) % 256) ((graphic_home + i) / 256) refl)
              (bit-taken p rom _ (word_of ((graphic_home + i) % 256) ((graphic_home + i) / 256)) r.bus.latch r.bus.error m (cond on 0xf8 0xf0 + b) (decode-bit on b (bit-few p v x))));
          shape = shape-planes s _ _ _ (length-set a.graphic i _) refl refl;
        }

  sim-rows : (height top column width value : ℕ) → top + height ≤ 8 * p.lines → column + width ≤ p.columns → (a : Picture) → Shape p g h a → (q : ℕ)
      → Sim (row_blocks p top column height width value) a (with_planes a (filled p top column height width value a.graphic) a.codes a.glyphs) q
  unfolding row_blocks filled
  sim-rows zero top column width value down across a s q = sim-none s q
  sim-rows (suc height) top column width value down across a s q =
      let row : Sim (block (graphic_home + (top * p.columns + column)) (replicate width value)) a (with_planes a (sets a.graphic (top * p.columns + column) (replicate width value)) a.codes a.glyphs) q
      = sim-graphic a s (top * p.columns + column) (replicate width value)
      (omega (arith, length-replicate width value, s.graphic, mul-le-mul_right p.columns (let t : top < 8 * p.lines = omega arith in t))) q in
      sim-both row
      (sim-rows height (suc top) column width value (omega arith) across
      (with_planes a (sets a.graphic (top * p.columns + column) (replicate width value)) a.codes a.glyphs) row.shape row.last)

  sim-operation : (book : List ℕ) (o : Placed) → InRange p book o → ByteSized o → (a : Picture) → Shape p g h a → (q : ℕ)
      → Sim (operation_pairs p (operation_of book o)) a (applied p (operation_of book o) a) q
  unfolding operation_pairs applied
  sim-operation book (Text line column from n) k b a s q =
      sim-codes a s (line * p.columns + column) (take n (drop from book))
      (omega (arith, part_length book from n k.inside, s.codes, k.across, mul-le-mul_right p.columns k.down)) q
  sim-operation book (Rectangle top column height width value) k b a s q = sim-rows height top column width value k.down k.across a s q
  sim-operation book (Dot x y on) k b a s q = sim-dot a s x y on k q
  sim-operation book (Glyph c from) k b a s q =
      sim-glyphs a s (8 * (c - 0x80)) (take 8 (drop from book)) (omega (arith, part_length book from 8 k.inside, k.high)) q
  sim-operation book (Placed-Cursor line column height blink) k b a s q = sim-cursor a s line column height blink k q
  sim-operation book (Combine c) k b a s q = sim-combine a s c k.plain q

  pub sim-body : (book : List ℕ) → ((i : ℕ) → get_or book i 0 < 256) → (end n at : ℕ) {os : List Operation} → operations_from n p book at end ≡ screen os
      → (a : Picture) → Shape p g h a → (q : ℕ) → Sim (body_pairs p os) a (applied_all p os a) q
  unfolding body_pairs applied_all
  sim-body book bytes end =
      walk-all p book end (λ n os. (a : Picture) → Shape p g h a → (q : ℕ) → Sim (body_pairs p os) a (applied_all p os a) q)
      (λ n a s q. sim-none s q)
      (λ n at next o os k more a s q.
      let x : Sim (operation_pairs p (operation_of book o)) a (applied p (operation_of book o) a) q = sim-operation book o k.range (k.bytes bytes) a s q in
      sim-both x (more (applied p (operation_of book o) a) x.shape x.last))
