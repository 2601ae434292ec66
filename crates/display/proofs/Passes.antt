-- The cells of a row, layer by layer: glyphs, attributes, graphic, cursor.
use mathlib.Core.Path.{◌≡◌, refl, ap, sym, ◌∙◌}
use mathlib.Core.Bool.{Bool, true, false, cond, not, ◌&&◌, true≢false}
use mathlib.Core.List.{List}
use mathlib.Core.Logic.{◌⊎◌, ⊎_elim}
use Prim.Native.Nat.{ℕ, ◌+◌, ◌-◌, ◌/◌, ◌%◌, ◌^◌, ◌<◌, ◌≤◌, min}
use native.Mathlib.Nat.{mod-eq_of_lt}
use native.Mathlib.Decide.{ℕ_discrete}
use native.Mathlib.Omega.{arith}
use lib.Dec.{ltb, leb, eqb}
use lib.Bits.{bit_and, bit_or, and_zero_r, or_zero_l, or_zero_r, and_mask}
use lib.Pow.{ones_sub-lt}
use lib.ListN.{length, get_or, set, length-set}
use lib.Seq.{get_or-set_same, get_or-set_other, ext_get_or}
use borrow.Author.Tests.{eq-eqb, ne_eqb, ltb-true, lt-ltb, le-ltb}
use Rattle.ground.specs.Lists.{build, read_round, given_to}
use Rattle.ground.proofs.Lists.{build-length, build-at, build-cong}
use Rattle.ground.specs.Packing.{row_bytes, row_from, pack_of}
use Rattle.ground.proofs.Lows.{full-low}
use Rattle.ground.proofs.Passes.{given-front, round-read}
use Rattle.ground.proofs.Packs.{packed-by-rule}
use Rattle.ground.proofs.Tests.{both, both_right}
use Rattle.display.specs.Types.{Panel, Display, Combination, Or, Exor, And, Attribute, Manner, Normal, Reverse, Inhibit}
use Rattle.display.proofs.Bounds.{glyph-lt}
use Rattle.display.proofs.Cases.{graphic-on, graphic-off, text-off, text-plain, text-attributed, shown, cell-shown, cell-cursor}
use Rattle.display.specs.Drawable.{GraphicOver}
use Rattle.state.specs.Halves.{cursor_y}
use Rattle.state.specs.Address.{address_of}
use Rattle.display.specs.Displayed.{attribute_byte, glyph_dots, text_dots, graphic_dots, displayed_byte, cursor_lit, cursor_covers, cell_byte}
use Rattle.state.specs.Attribute.{look_of, shown_as, attributed, shades_of, shaded, shaded_at, shaded_round}
use Rattle.state.proofs.Rounds.{all-shaded, all-mixed}
use Rattle.state.specs.Combination.{is_attribute, mixed, mixed_round}

-- a cell of a row that a rule has made
pub of-rule : (g : ℕ → ℕ) {l : List ℕ} {n : ℕ} → l ≡ build (length l) g → n < length l → get_or l n 0 ≡ g n
of-rule g {l} {n} e h = ap (λ (x : List ℕ). get_or x n 0) e ∙ build-at (length l) g n 0 h

-- one place of a list from a rule written over
pub over : (N : ℕ) (f g : ℕ → ℕ) {l : List ℕ} {x v : ℕ} → l ≡ build N f → x < N → v ≡ g x → ((c : ℕ) → (c ≡ x → ⊥) → f c ≡ g c) → set l x v ≡ build N g
over N f g {l} {x} {v} e h a o =
    ext_get_or 0 (set l x v) (build N g) (long ∙ sym (build-length N g)) (λ i m. each i (omega (arith, long)) (ℕ_discrete i x))
  where
    size : length l ≡ N
    size = ap length e ∙ build-length N f

    long : length (set l x v) ≡ N
    long = length-set l x v ∙ size

    each : (i : ℕ) → i < N → Dec (i ≡ x) → get_or (set l x v) i 0 ≡ get_or (build N g) i 0
    each i m (yes q) =
        ap (λ (j : ℕ). get_or (set l x v) j 0) q ∙ get_or-set_same l x v 0 (omega (arith, size)) ∙ a ∙ ap g (sym q) ∙ sym (build-at N g i 0 m)
    each i m (no q) =
        get_or-set_other l x i v 0 q ∙ ap (λ (y : List ℕ). get_or y i 0) e ∙ build-at N f i 0 m ∙ o i q ∙ sym (build-at N g i 0 m)

none : (t a b e f : Bool) → (t && (a && b && false && e && f)) ≡ false
none false a b e f = refl
none true false b e f = refl
none true true false e f = refl
none true true true e f = refl

module _ (p : Panel) (d : Display) (mem rom : List ℕ) (r : ℕ) where
  -- beside the cursor's column a cell is as displayed
  pub beside : (c : ℕ) → (c ≡ d.cursor.x → ⊥) → displayed_byte p d mem rom r c ≡ cell_byte p d mem rom r c
  unfolding cell_byte
  beside c n =
      sym (ap (λ (v : Bool). cond v (2 ^ p.width - 1) (displayed_byte p d mem rom r c))
      ((λ i. cursor_lit d.bits.cursor d.bits.blink d.phase && (ltb d.cursor.x p.columns && ltb (r / 8) p.lines && ne_eqb d.cursor.x c (λ e. n (sym e)) i && eqb d.cursor.y (cursor_y p (r / 8)) && leb (8 - d.cursor.height) (r % 8)))
      ∙ none (cursor_lit d.bits.cursor d.bits.blink d.phase) (ltb d.cursor.x p.columns) (ltb (r / 8) p.lines) (eqb d.cursor.y (cursor_y p (r / 8))) (leb (8 - d.cursor.height) (r % 8))))

  module _ {a b : Bool} (i : a ≡ cursor_lit d.bits.cursor d.bits.blink d.phase) (j : b ≡ cursor_covers p d.cursor (r / 8) (r % 8) d.cursor.x) where
    -- the cursor's column is on the panel
    pub inside : (a && b) ≡ true → d.cursor.x < p.columns
    inside e =
        ltb-true d.cursor.x p.columns
        (first (ltb d.cursor.x p.columns) (ltb (r / 8) p.lines) (eqb d.cursor.x d.cursor.x) (eqb d.cursor.y (cursor_y p (r / 8))) (leb (8 - d.cursor.height) (r % 8)) (sym j ∙ both_right a b e))
      where
        first : (t u v w x : Bool) → (t && u && v && w && x) ≡ true → t ≡ true
        first true u v w x h = refl
        first false u v w x h = h

    -- laid over its cell
    pub laid : {l : List ℕ} {n : ℕ} → (a && b) ≡ true → l ≡ build p.columns (displayed_byte p d mem rom r) → n ≡ 2 ^ p.width - 1
        → set l d.cursor.x n ≡ build p.columns (cell_byte p d mem rom r)
    laid e h k =
        over p.columns (displayed_byte p d mem rom r) (cell_byte p d mem rom r) h (inside e)
        (cell-cursor p d mem rom r d.cursor.x i j e k) (λ c n. beside c n)

    -- not shown, or beyond the panel
    pub unlaid : {l : List ℕ} → (a && b) ≡ false → l ≡ build p.columns (displayed_byte p d mem rom r) → l ≡ build p.columns (cell_byte p d mem rom r)
    unlaid e h = h ∙ build-cong p.columns (displayed_byte p d mem rom r) (cell_byte p d mem rom r) (λ c l. go c (ℕ_discrete c d.cursor.x))
      where
        go : (c : ℕ) → Dec (c ≡ d.cursor.x) → displayed_byte p d mem rom r c ≡ cell_byte p d mem rom r c
        go c (yes q) =
            ap (displayed_byte p d mem rom r) q ∙ cell-shown p d mem rom r d.cursor.x i j e refl ∙ ap (cell_byte p d mem rom r) (sym q)
        go c (no q) = beside c q

-- a table of a width that there is
pub eight-most : (w : ℕ) (normal : Bool) → (w ≡ 6) ⊎ (w ≡ 8) → shades_of (min w 8) normal ≡ shades_of w normal
eight-most w normal h = ap (λ (v : ℕ). shades_of v normal) (⊎_elim (λ (e : w ≡ 6). omega arith) (λ (e : w ≡ 8). omega arith) h)

-- both halves of the table
module _ (w : ℕ) (normal : Bool) {shades : List ℕ} (e : shades ≡ shades_of w normal) (code : ℕ) (h : code < 16) where
  all_set : get_or shades code 0 ≡ attributed w normal code (2 ^ w - 1)
  all_set =
      ap (λ (x : List ℕ). get_or x code 0) e ∙ build-at 32 _ code 0 (omega arith)
      ∙ ap (λ (b : Bool). attributed w normal code (cond b (2 ^ w - 1) 0)) (lt-ltb code 16 h)

  all-reset : get_or shades (code + 16) 0 ≡ attributed w normal code 0
  unfolding attributed
  all-reset =
      let late : 16 ≤ code + 16 = omega arith in
      let same : (code + 16) % 16 ≡ code % 16 = omega arith in
      ap (λ (x : List ℕ). get_or x (code + 16) 0) e ∙ build-at 32 _ (code + 16) 0 (omega arith)
      ∙ ap (λ (b : Bool). attributed w normal (code + 16) (cond b (2 ^ w - 1) 0)) (le-ltb (code + 16) 16 late)
      ∙ ap (λ (c : ℕ). cond ((look_of c).blinks && not normal) 0 (shown_as (look_of c).shown w 0)) same

module _ (w n : ℕ) (h : n < 2 ^ w) where
  -- over plain values: a row of the table made of the two
  two_ways : (b : Bool) (s : Manner)
      → bit_or (bit_and n (cond b 0 (shown_as s w (2 ^ w - 1)))) (bit_and (2 ^ w - 1 - n) (cond b 0 (shown_as s w 0))) ≡ cond b 0 (shown_as s w n)
  two_ways true s = λ i. bit_or (and_zero_r n i) (and_zero_r (2 ^ w - 1 - n) i)
  two_ways false Normal = (λ i. bit_or ((and_mask n w ∙ mod-eq_of_lt h) i) (and_zero_r (2 ^ w - 1 - n) i)) ∙ or_zero_r n
  two_ways false Reverse =
      let z : 2 ^ w - 1 - (2 ^ w - 1) ≡ 0 = omega arith in
      let k : bit_and (2 ^ w - 1 - n) (2 ^ w - 1 - 0) ≡ 2 ^ w - 1 - n =
      ap (bit_and (2 ^ w - 1 - n)) (omega arith) ∙ and_mask (2 ^ w - 1 - n) w ∙ mod-eq_of_lt (ones_sub-lt w n) in
      (λ i. bit_or ((ap (bit_and n) z ∙ and_zero_r n) i) (k i)) ∙ or_zero_l (2 ^ w - 1 - n)
  two_ways false Inhibit = λ i. bit_or (and_zero_r n i) (and_zero_r (2 ^ w - 1 - n) i)

  two-rows : (normal : Bool) (a : ℕ)
      → bit_or (bit_and n (attributed w normal (a % 16) (2 ^ w - 1))) (bit_and (2 ^ w - 1 - n) (attributed w normal (a % 16) 0)) ≡ attributed w normal a n
  unfolding attributed
  two-rows normal a =
      let e : a % 16 % 16 ≡ a % 16 = omega arith in
      two_ways ((look_of (a % 16 % 16)).blinks && not normal) (look_of (a % 16 % 16)).shown
      ∙ ap (λ (m : ℕ). cond ((look_of m).blinks && not normal) 0 (shown_as (look_of m).shown w n)) e

-- the dots that are reset
others : (w n : ℕ) → (w ≡ 6) ⊎ (w ≡ 8) → n < 2 ^ w → (2 ^ w - 1 + 256 - n) % 256 ≡ 2 ^ w - 1 - n
others w n h l =
    let few : 2 ^ w ≤ 256 = ⊎_elim (λ (e : w ≡ 6). rw e (omega arith)) (λ (e : w ≡ 8). rw e (omega arith)) h in
    omega arith

-- glyph rows under their attributes
module _ (p : Panel) (d : Display) (mem rom : List ℕ) (r first : ℕ) (xs ys shades : List ℕ) {start : ℕ} (w : (p.width ≡ 6) ⊎ (p.width ≡ 8))
    (i : shades ≡ shades_of p.width d.phase) (s : start ≡ address_of d.graphic (r / 8) first)
    (k : ys ≡ build (length xs) (λ j. glyph_dots p d mem rom r (first + j))) where
  glyph-at : (j : ℕ) → j < length xs → get_or ys j 0 ≡ glyph_dots p d mem rom r (first + j)
  glyph-at j h = ap (λ (l : List ℕ). get_or l j 0) k ∙ build-at (length xs) (λ j. glyph_dots p d mem rom r (first + j)) j 0 h

  shaded-right : (j : ℕ) → j < length xs
      → shaded_at p.width mem start shades ys j ≡ attributed p.width d.phase (attribute_byte d mem (r / 8) (first + j)) (get_or ys j 0)
  unfolding attribute_byte
  shaded-right j h =
      let a = attribute_byte d mem (r / 8) (first + j) in
      let at : get_or mem ((start + j) % 65536) 0 ≡ a = ap (λ (m : ℕ). get_or mem m 0) (omega (arith, s)) in
      let code : a % 16 < 16 = omega arith in
      let few : get_or ys j 0 < 2 ^ p.width = rw (glyph-at j h) (glyph-lt p d mem rom r (first + j)) in
      (λ q. shaded shades (full-low p.width w q) (at q % 16) (get_or ys j 0))
      ∙ ap (λ (n : ℕ). bit_or (bit_and (get_or ys j 0) (get_or shades (a % 16) 0)) (bit_and n (get_or shades (a % 16 + 16) 0))) (others p.width (get_or ys j 0) w few)
      ∙ (λ q. bit_or (bit_and (get_or ys j 0) (all_set p.width d.phase i (a % 16) code q)) (bit_and (2 ^ p.width - 1 - get_or ys j 0) (all-reset p.width d.phase i (a % 16) code q)))
      ∙ two-rows p.width (get_or ys j 0) few d.phase a

  pub attributes-laid : {zs : List ℕ} → length mem ≡ 65536 → zs ≡ shaded_round p.width mem start shades ys
      → zs ≡ build (length xs) (λ j. attributed p.width d.phase (attribute_byte d mem (r / 8) (first + j)) (glyph_dots p d mem rom r (first + j)))
  attributes-laid {zs} whole e =
      let long : length shades ≡ 32 = ap length i ∙ build-length 32 _ in
      e ∙ all-shaded p.width mem start shades ys refl (both (eq-eqb (length mem) 65536 whole) (eq-eqb (length shades) 32 long))
      ∙ ap (λ (m : ℕ). build m (shaded_at p.width mem start shades ys)) (ap length k ∙ build-length (length xs) _)
      ∙ build-cong (length xs) _ _
      (λ j h. shaded-right j h ∙ ap (λ (n : ℕ). attributed p.width d.phase (attribute_byte d mem (r / 8) (first + j)) n) (glyph-at j h))

-- one layer after the other, each as long as the last
pub own-count : (f : ℕ → ℕ) (n : ℕ) {ys : List ℕ} → ys ≡ build n f → ys ≡ build (length ys) f
own-count f n {ys} e = e ∙ ap (λ (m : ℕ). build m f) (sym (ap length e ∙ build-length n f))

pub same_count : (f g : ℕ → ℕ) (xs ys : List ℕ) {zs : List ℕ} {n : ℕ} → length xs ≡ n → ys ≡ build (length xs) f → zs ≡ build (length ys) g → zs ≡ build n g
same_count f g xs ys {zs} {n} h e k = k ∙ ap (λ (m : ℕ). build m g) (ap length e ∙ build-length (length xs) f ∙ h)

-- the text of a row: off, under attributes, or plain
module _ (p : Panel) (d : Display) (mem rom : List ℕ) (r first : ℕ) where
  pub blank-text : (n : ℕ) {l : List ℕ} → not d.bits.text ≡ true → l ≡ build n (λ j. 0) → l ≡ build n (λ j. text_dots p d mem rom r (first + j))
  blank-text n e h = h ∙ build-cong n _ _ (λ j k. text-off p d mem rom r (first + j) e)

  pub plain-text : (n : ℕ) {b : Bool} {l : List ℕ} → not d.bits.text ≡ false → b ≡ is_attribute d.combination
      → (b && d.bits.graphic) ≡ false → l ≡ build n (λ j. glyph_dots p d mem rom r (first + j)) → l ≡ build n (λ j. text_dots p d mem rom r (first + j))
  plain-text n e i f h = h ∙ build-cong n _ _ (λ j k. text-plain p d mem rom r (first + j) e i f refl)

  pub shown-text : (n : ℕ) {b : Bool} {l : List ℕ} → not d.bits.text ≡ false → b ≡ is_attribute d.combination → (b && d.bits.graphic) ≡ true
      → l ≡ build n (λ j. attributed p.width d.phase (attribute_byte d mem (r / 8) (first + j)) (glyph_dots p d mem rom r (first + j)))
      → l ≡ build n (λ j. text_dots p d mem rom r (first + j))
  shown-text n e i f h = h ∙ build-cong n _ _ (λ j k. text-attributed p d mem rom r (first + j) e i f refl refl refl)

-- the text given out: the front of the cells
pub front_of : (f : ℕ → ℕ) (n : ℕ) (xs text : List ℕ) {t : List ℕ} → xs ≡ build n f → length text ≤ n
    → t ≡ given_to xs text → t ≡ build (length text) f
front_of f n xs text e h k =
    let long : length xs ≡ n = ap length e ∙ build-length n f in
    k ∙ given-front xs text (omega (arith, long)) ∙ build-cong (length text) _ f (λ j l. ap (λ (x : List ℕ). get_or x j 0) e ∙ build-at n f j 0 (omega arith))

-- the graphic given out
module _ (p : Panel) (d : Display) (mem : List ℕ) (r first : ℕ) (out : List ℕ) {b : Bool} (i : b ≡ (d.bits.graphic && not (is_attribute d.combination))) where
  pub lit-graphic : {start : ℕ} {l : List ℕ} → b ≡ true → start ≡ address_of d.graphic r first → length mem ≡ 65536
      → l ≡ read_round p.width mem start out → l ≡ build (length out) (λ j. graphic_dots p d mem r (first + j))
  lit-graphic {start} e s whole h =
      h ∙ round-read p.width mem start out whole
      ∙ build-cong (length out) _ _
      (λ j k.
      let at : (start + j) % 65536 ≡ address_of d.graphic r (first + j) = omega (arith, s) in
      graphic-on p d mem r (first + j) refl (sym i ∙ e) at refl refl)

  pub blank-graphic : {l : List ℕ} → b ≡ false → l ≡ build (length out) (λ j. 0) → l ≡ build (length out) (λ j. graphic_dots p d mem r (first + j))
  blank-graphic e h = h ∙ build-cong (length out) _ _ (λ j k. graphic-off p d mem r (first + j) refl (sym i ∙ e))

-- over plain values: graphic off, or attribute mode, and the text stands alone
alone : (t g : Bool) (k : Combination) (x : ℕ) → (g && not (is_attribute k)) ≡ false → (not t ≡ true → 0 ≡ x) → x ≡ mixed t g k x 0
alone true true Or x e h = absurd (true≢false e)
alone true true Exor x e h = absurd (true≢false e)
alone true true And x e h = absurd (true≢false e)
alone true true Attribute x e h = refl
alone true false k x e h = refl
alone false g k x e h = sym (h refl)

-- the graphic mixed with the text's dots
pub over-text : (p : Panel) (d : Display) (mem : List ℕ) (r first : ℕ) (l : List ℕ) {b : Bool} {start : ℕ} {after : List ℕ} → b ≡ (d.bits.graphic && not (is_attribute d.combination))
    → b ≡ true → start ≡ address_of d.graphic r first → length mem ≡ 65536
    → after ≡ mixed_round d.bits.text d.bits.graphic d.combination p.width mem start l → GraphicOver p d mem r first l after
over-text p d mem r first l {b} {start} i t s whole e =
    λ rom h.
    e ∙ all-mixed d.bits.text d.bits.graphic d.combination p.width mem start l whole
    ∙ build-cong (length l) _ _
    (λ j k.
    let at : (start + j) % 65536 ≡ address_of d.graphic r (first + j) = omega (arith, s) in
    shown p d mem rom r (first + j) (of-rule _ h k) (graphic-on p d mem r (first + j) refl (sym i ∙ t) at refl refl) refl)

pub text-alone : (p : Panel) (d : Display) (mem rom : List ℕ) (r first : ℕ) {b : Bool} {l : List ℕ} → b ≡ (d.bits.graphic && not (is_attribute d.combination))
    → b ≡ false → l ≡ build (length l) (λ j. text_dots p d mem rom r (first + j))
    → l ≡ build (length l) (λ j. displayed_byte p d mem rom r (first + j))
unfolding displayed_byte
text-alone p d mem rom r first {b} {l} i e h = h ∙ build-cong (length l) _ _ (λ j k. each (first + j))
  where
    each : (c : ℕ) → text_dots p d mem rom r c ≡ displayed_byte p d mem rom r c
    each c =
        alone d.bits.text d.bits.graphic d.combination (text_dots p d mem rom r c) (sym i ∙ e)
        (λ o. text-off p d mem rom r c o)
        ∙ ap (λ (g : ℕ). mixed d.bits.text d.bits.graphic d.combination (text_dots p d mem rom r c) g) (graphic-off p d mem r c refl (sym i ∙ e))

-- from the first column on, as many cells as the panel has columns
pub whole_row : (f : ℕ → ℕ) (n : ℕ) {l : List ℕ} {m : ℕ} → m ≡ n → l ≡ build m (λ j. f (0 + j)) → l ≡ build n f
whole_row f n {l} {m} e h = h ∙ ap (λ (k : ℕ). build k (λ j. f (0 + j))) e ∙ build-cong n _ f (λ j k. ap f (omega arith))

-- and packed
pub packed-row : (C w : ℕ) (f : ℕ → ℕ) (l x out : List ℕ) → l ≡ build C f → (w ≡ 6) ⊎ (w ≡ 8) → C ≤ 80 → length out ≡ row_bytes C w
    → x ≡ pack_of w l out → x ≡ row_from C w f
packed-row C w f l x out h k few m e =
    e ∙ ap (λ (z : List ℕ). pack_of w z out) h
    ∙ packed-by-rule C w (build C f) f (build-length C f) (λ c l. build-at C f c 0 l) k few out m
