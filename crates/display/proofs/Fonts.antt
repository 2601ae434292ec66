-- The glyphs of all codes side by side: from memory, or below 80H from the ROM; and the codes of a row looked up in them.
use mathlib.Core.Path.{◌≡◌, refl, ap, sym, ◌∙◌}
use mathlib.Core.List.{List}
use mathlib.Core.Bool.{Bool, true, false, cond, not, ◌&&◌}
use Prim.Native.Nat.{ℕ, ◌+◌, ◌-◌, ◌*◌, ◌/◌, ◌%◌, ◌^◌, ◌<◌}
use native.Mathlib.Decide.{dec_lt}
use native.Mathlib.Omega.{arith}
use lib.Dec.{ltb}
use lib.ListN.{length, get_or, take, drop, length-drop}
use lib.Seq.{get_or-take, get_or-drop, ext_get_or, length-take-le}
use borrow.Author.Tests.{eq-eqb, ltb-true, lt-ltb, le-ltb}
use Rattle.ground.specs.Lists.{build, round_byte, read_round, looked_up, given_to}
use Rattle.ground.proofs.Lists.{build-length, build-at, build-cong}
use Rattle.ground.proofs.Passes.{given-long, given-at, left_at, code-found, round-read}
use Rattle.ground.proofs.Tests.{both}
use Rattle.display.specs.Types.{Panel, Display}
use Rattle.ground.specs.Packing.{row_from}
use Rattle.state.specs.Attribute.{attributed}
use Rattle.state.specs.Combination.{is_attribute, mixed}
use Rattle.state.specs.Address.{address_of}
use Rattle.display.specs.Displayed.{text_code, glyph_row, attribute_byte, text_layer, glyph_dots, text_dots, graphic_dots, displayed_byte, cursor_lit, cursor_covers, cell_byte}
use Rattle.display.specs.Frame.{row_of}
use Rattle.display.specs.Shaded.{font_of, IsFont}

module _ (d : Display) (mem rom : List ℕ) where
  font-length : length (font_of d mem rom) ≡ 2048
  unfolding font_of
  font-length = build-length 2048 (λ i. glyph_row d mem rom (i / 8) (i % 8))

  -- a row of a code
  font-at : (code v : ℕ) → code < 256 → v < 8 → get_or (font_of d mem rom) (8 * code + v) 0 ≡ glyph_row d mem rom code v
  unfolding font_of
  font-at code v h l =
      let e : (8 * code + v) / 8 ≡ code = omega arith in
      let f : (8 * code + v) % 8 ≡ v = omega arith in
      build-at 2048 (λ i. glyph_row d mem rom (i / 8) (i % 8)) (8 * code + v) 0 (omega arith) ∙ (λ i. glyph_row d mem rom (e i) (f i))

  -- of the font as of the ROM that it is made of
  glyph-same : (code v : ℕ) → v < 8 → glyph_row d mem (font_of d mem rom) code v ≡ glyph_row d mem rom code v
  unfolding glyph_row
  glyph-same code v l = go d.external (ltb code 0x80) refl refl
    where
      go : (x t : Bool) → d.external ≡ x → ltb code 0x80 ≡ t
          → cond (not x && t) (get_or (font_of d mem rom) (8 * code + v) 0) (get_or mem (2048 * d.offset + 8 * code + v) 0) ≡ cond (not x && t) (get_or rom (8 * code + v) 0) (get_or mem (2048 * d.offset + 8 * code + v) 0)
      go true t f h = refl
      go false false f h = refl
      go false true f h =
          font-at code v (let k = ltb-true code 0x80 h in omega arith) l
          ∙ (λ i. cond (not (f i) && h i) (get_or rom (8 * code + v) 0) (get_or mem (2048 * d.offset + 8 * code + v) 0))

  own-font : IsFont d mem (font_of d mem rom)
  unfolding font_of
  own-font = build-cong 2048 (λ i. glyph_row d mem rom (i / 8) (i % 8)) (λ i. glyph_row d mem (font_of d mem rom) (i / 8) (i % 8)) (λ i h. sym (glyph-same (i / 8) (i % 8) (omega arith)))

  pub is-font : {font : List ℕ} → font ≡ font_of d mem rom → IsFont d mem font
  is-font e = e ∙ own-font ∙ ap (font_of d mem) (sym e)

  by_place : (i : ℕ) → 8 * (i / 8) + i % 8 ≡ i
  by_place i = omega arith

  from-memory : (i : ℕ) → (not d.external && ltb (i / 8) 0x80) ≡ false → get_or mem (2048 * d.offset + i) 0 ≡ glyph_row d mem rom (i / 8) (i % 8)
  unfolding glyph_row
  from-memory i e =
      ap (λ (m : ℕ). get_or mem m 0) (let f : 2048 * d.offset + i ≡ 2048 * d.offset + 8 * (i / 8) + i % 8 = omega arith in f)
      ∙ sym (ap (λ (t : Bool). cond t (get_or rom (8 * (i / 8) + i % 8) 0) (get_or mem (2048 * d.offset + 8 * (i / 8) + i % 8) 0)) e)

  from-rom : (i : ℕ) → (not d.external && ltb (i / 8) 0x80) ≡ true → get_or rom i 0 ≡ glyph_row d mem rom (i / 8) (i % 8)
  unfolding glyph_row
  from-rom i e =
      ap (λ (m : ℕ). get_or rom m 0) (sym (by_place i))
      ∙ sym (ap (λ (t : Bool). cond t (get_or rom (8 * (i / 8) + i % 8) 0) (get_or mem (2048 * d.offset + 8 * (i / 8) + i % 8) 0)) e)

  -- the bank at the offset, given to a list of as many bytes
  module _ {l : List ℕ} (z : List ℕ) (n : ℕ) (k : l ≡ given_to (take n (drop (2048 * d.offset) mem)) z) (s : n ≡ 2048) (t : length z ≡ 2048) (m : length mem ≡ 65536)
      (o : d.offset < 32) where
    font-long : length l ≡ 2048
    font-long = ap length k ∙ given-long (take n (drop (2048 * d.offset) mem)) z ∙ t

    banked : (j : ℕ) → j < 2048 → get_or l j 0 ≡ get_or mem (2048 * d.offset + j) 0
    banked j h =
        let bank : length (take n (drop (2048 * d.offset) mem)) ≡ n =
        length-take-le n (drop (2048 * d.offset) mem) (omega (arith, length-drop (2048 * d.offset) mem, m, s, o)) in
        ap (λ (x : List ℕ). get_or x j 0) k ∙ given-at (take n (drop (2048 * d.offset) mem)) z j (omega (arith, t)) (omega (arith, bank, s))
        ∙ get_or-take n (drop (2048 * d.offset) mem) j 0 (omega (arith, s)) ∙ get_or-drop (2048 * d.offset) mem j 0

    -- characters external
    pub all-memory : not d.external ≡ false → (l ≡ font_of d mem rom) × (2048 ≡ length l)
    unfolding font_of
    all-memory e = (
      ext_get_or 0 l (build 2048 (λ i. glyph_row d mem rom (i / 8) (i % 8))) (font-long ∙ sym (build-length 2048 (λ i. glyph_row d mem rom (i / 8) (i % 8))))
          (λ i h.
          let n : i < 2048 = omega (arith, font-long) in
          banked i n ∙ from-memory i (ap (λ (t : Bool). t && ltb (i / 8) 0x80) e) ∙ sym (build-at 2048 (λ i. glyph_row d mem rom (i / 8) (i % 8)) i 0 n)),
      sym font-long,
    )

    -- characters internal: the ROM's over the first half
    pub rom-over : {x : List ℕ} → not d.external ≡ true → length rom ≡ 1024 → x ≡ given_to rom l → (x ≡ font_of d mem rom) × (2048 ≡ length x)
    unfolding font_of
    rom-over {x} e h f = (
      ext_get_or 0 x (build 2048 (λ i. glyph_row d mem rom (i / 8) (i % 8))) (sym long ∙ sym (build-length 2048 (λ i. glyph_row d mem rom (i / 8) (i % 8))))
          (λ i h. let n : i < 2048 = omega (arith, long) in each i n (dec_lt i 1024) ∙ sym (build-at 2048 (λ i. glyph_row d mem rom (i / 8) (i % 8)) i 0 n)),
      long,
    )
      where
        long : 2048 ≡ length x
        long = sym (ap length f ∙ given-long rom l ∙ font-long)

        each : (i : ℕ) → i < 2048 → Dec (i < 1024) → get_or x i 0 ≡ glyph_row d mem rom (i / 8) (i % 8)
        each i n (yes q) =
            ap (λ (z : List ℕ). get_or z i 0) f ∙ given-at rom l i (omega (arith, font-long)) (omega (arith, h))
            ∙ from-rom i ((λ t. e t && lt-ltb (i / 8) 0x80 (omega arith) t))
        each i n (no q) =
            ap (λ (z : List ℕ). get_or z i 0) f ∙ left_at rom l i (omega (arith, font-long)) (omega (arith, h))
            ∙ banked i n ∙ from-memory i ((λ t. e t && le-ltb (i / 8) 0x80 (omega arith) t))

-- the codes of a line, looked up
module _ (p : Panel) (d : Display) (mem rom : List ℕ) (r first : ℕ) where
  pub looked-up : {start : ℕ} {font codes : List ℕ} (cells : List ℕ) → start ≡ address_of d.text (r / 8) first → font ≡ font_of d mem rom
      → length mem ≡ 65536 → ((i : ℕ) → get_or mem i 0 < 256) → codes ≡ read_round 8 mem start cells
      → {l : List ℕ} → l ≡ looked_up p.width font (r % 8) codes
      → l ≡ build (length cells) (λ j. glyph_dots p d mem rom r (first + j))
  unfolding glyph_dots text_code
  looked-up {start} {font} {codes} cells s f whole bytes e h =
      let n = length cells in
      let k : codes ≡ build n (round_byte 8 mem start) = e ∙ round-read 8 mem start cells whole in
      let long : length font ≡ 2048 = ap length f ∙ font-length d mem rom in
      h ∙ code-found p.width font (r % 8) codes refl (both (eq-eqb (length font) 2048 long) (lt-ltb (r % 8) 8 (omega arith)))
      ∙ ap (λ (m : ℕ). build m (λ j. get_or font (8 * get_or codes j 0 + r % 8) 0 % 2 ^ p.width)) (ap length k ∙ build-length n (round_byte 8 mem start))
      ∙ build-cong n _ _
      (λ j m.
      let at : (start + j) % 65536 ≡ address_of d.text (r / 8) (first + j) = omega (arith, s) in
      let small = bytes (address_of d.text (r / 8) (first + j)) in
      let code : get_or codes j 0 ≡ get_or mem (address_of d.text (r / 8) (first + j)) 0 =
      ap (λ (x : List ℕ). get_or x j 0) k ∙ build-at n (round_byte 8 mem start) j 0 m ∙ ap (λ (m : ℕ). get_or mem m 0 % 2 ^ 8) at ∙ (omega (arith, small)) in
      (λ q. get_or (f q) (8 * code q + r % 8) 0 % 2 ^ p.width)
      ∙ ap (λ (x : ℕ). x % 2 ^ p.width) (font-at d mem rom (get_or mem (address_of d.text (r / 8) (first + j)) 0) (r % 8) small (omega arith)))

-- what is shown by the font is what is shown by the ROM
module _ (p : Panel) (d : Display) (mem rom : List ℕ) (r : ℕ) {font : List ℕ} (e : font ≡ font_of d mem rom) where
  dots-same : (c : ℕ) → glyph_dots p d mem font r c ≡ glyph_dots p d mem rom r c
  unfolding glyph_dots
  dots-same c =
      ap (λ (f : List ℕ). glyph_row d mem f (text_code d mem (r / 8) c) (r % 8) % 2 ^ p.width) e
      ∙ ap (λ (x : ℕ). x % 2 ^ p.width) (glyph-same d mem rom (text_code d mem (r / 8) c) (r % 8) (omega arith))

  text_same : (c : ℕ) → text_dots p d mem font r c ≡ text_dots p d mem rom r c
  unfolding text_dots
  text_same c =
      λ i.
      text_layer d.bits.text d.bits.graphic (is_attribute d.combination)
      (attributed p.width d.phase (attribute_byte d mem (r / 8) c) (dots-same c i))
      (dots-same c i)

  shown-same : (c : ℕ) → displayed_byte p d mem font r c ≡ displayed_byte p d mem rom r c
  unfolding displayed_byte
  shown-same c = λ i. mixed d.bits.text d.bits.graphic d.combination (text_same c i) (graphic_dots p d mem r c)

  pub text-by-font : (first n : ℕ) {l : List ℕ} → l ≡ build n (λ j. text_dots p d mem font r (first + j)) → l ≡ build n (λ j. text_dots p d mem rom r (first + j))
  text-by-font first n h = h ∙ (λ i. build n (λ j. text_same (first + j) i))

  pub shown-by-font : (first n : ℕ) {l : List ℕ} → l ≡ build n (λ j. displayed_byte p d mem font r (first + j)) → l ≡ build n (λ j. displayed_byte p d mem rom r (first + j))
  shown-by-font first n h = h ∙ (λ i. build n (λ j. shown-same (first + j) i))

  pub row-by-font : {l : List ℕ} → l ≡ row_of p d mem font r → l ≡ row_of p d mem rom r
  unfolding row_of cell_byte
  row-by-font h =
      h
      ∙ (λ i.
      row_from p.columns p.width
      (λ c. cond (cursor_lit d.bits.cursor d.bits.blink d.phase && cursor_covers p d.cursor (r / 8) (r % 8) c) (2 ^ p.width - 1) (shown-same c i)))
