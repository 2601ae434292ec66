-- The claims: what is flagged, followed and refreshed leaves the frame right.
use mathlib.Core.Path.{◌≡◌, refl, ap, sym, subst, ◌∙◌}
use mathlib.Core.Bool.{Bool, true, false, cond, not, ◌&&◌, ◌||◌, false≢true}
use mathlib.Core.Logic.{⊎_elim}
use mathlib.Core.List.{List}
use Prim.Native.Nat.{ℕ, ◌+◌, ◌-◌, ◌*◌, ◌/◌, ◌%◌, ◌^◌, ◌<◌}
use native.Mathlib.Omega.{arith}
use lib.Dec.{eqb}
use lib.ListN.{length, get_or, take, drop}
use borrow.Author.Tests.{eqb-true, eq-eqb, lt-ltb, not-false}
use Rattle.ground.specs.Lists.{joined}
use Rattle.ground.specs.Packing.{row_from, frame_from}
use Rattle.ground.proofs.Lists.{build-at, joined-cong, joined-stretch}
use Rattle.ground.proofs.Packing.{row-cong}
use Rattle.ground.proofs.Conjuncts.{neither}
use Rattle.ground.proofs.Tests.{both, both_left, both_right}
use Rattle.state.specs.State.{valid_panel, valid_registers}
use Rattle.state.specs.Sizes.{row_size}
use Rattle.state.proofs.Valid.{panelled}
use Rattle.state.specs.Address.{address_of}
use Rattle.display.specs.Displayed.{text_code, graphic_byte, attribute_byte, cell_byte, cursor_lit, cursor_covers}
use Rattle.display.specs.Layers.{Layers, from_memory, SameBytes}
use Rattle.display.specs.Frame.{row_of, frame_of, lent_lengths, frame_fits, reply_of}
use Rattle.display.proofs.Same.{layers-same}
use Rattle.effects.specs.Machine.{Machine, machine}
use Rattle.controller.specs.Access.{Pair, Step, done, answered, refused, step_of}
use Rattle.stores.specs.Stores.{stores_of, from_address}
use Rattle.controller.proofs.Goings.{Leaves}
use Rattle.stores.proofs.Stored.{Stored, step-stores}
use Rattle.display.specs.Flagged.{flags_fit, stretch_of, refreshed_row}
use Rattle.flags.specs.Types.{Panel, Plane, Cursor, DisplayBits, Combination, Or, Exor, And, Attribute, Display}
use Rattle.touch.specs.Touch.{any_of, in_row, glyph_byte_at, glyph_at, plane_row, touches, touched_by, touched}
use Rattle.flags.specs.Flags.{all_clear, same_flag, same_plane, same_cursor, same_bits, mode_number, same_display, flags_after, Flagged, with_flags, flag_by, flag_step}
use Rattle.flags.specs.Follow.{Followed, followed_by, followed_of, follow_of, refreshed, refresh_of}
use Rattle.flags.specs.Claims.{Right, StartRight, FollowRight, RefreshRight}
use Rattle.touch.proofs.Anys.{or_left, or_right, any-has, any-not}
use Rattle.flags.proofs.Refreshes.{row_in, sized}

-- the test of two display groups is their equality
flag_same : (a b : Bool) → same_flag a b ≡ true → a ≡ b
flag_same true true e = refl
flag_same true false e = absurd (false≢true e)
flag_same false true e = absurd (false≢true e)
flag_same false false e = refl

flag-own : (a : Bool) → same_flag a a ≡ true
flag-own true = refl
flag-own false = refl

mode-same : (a b : Combination) → eqb (mode_number a) (mode_number b) ≡ true → a ≡ b
mode-same Or Or e = refl
mode-same Or Exor e = absurd (false≢true e)
mode-same Or And e = absurd (false≢true e)
mode-same Or Attribute e = absurd (false≢true e)
mode-same Exor Or e = absurd (false≢true e)
mode-same Exor Exor e = refl
mode-same Exor And e = absurd (false≢true e)
mode-same Exor Attribute e = absurd (false≢true e)
mode-same And Or e = absurd (false≢true e)
mode-same And Exor e = absurd (false≢true e)
mode-same And And e = refl
mode-same And Attribute e = absurd (false≢true e)
mode-same Attribute Or e = absurd (false≢true e)
mode-same Attribute Exor e = absurd (false≢true e)
mode-same Attribute And e = absurd (false≢true e)
mode-same Attribute Attribute e = refl

plane-same : (a b : Plane) → same_plane a b ≡ true → a ≡ b
plane-same a b e =
    let h = eqb-true a.home b.home (both_left (eqb a.home b.home) (eqb a.area b.area) e) in
    let k = eqb-true a.area b.area (both_right (eqb a.home b.home) (eqb a.area b.area) e) in
    λ i. record { home = h i; area = k i }

cursor-same : (a b : Cursor) → same_cursor a b ≡ true → a ≡ b
cursor-same a b e =
    let two = both_left (eqb a.x b.x && eqb a.y b.y) (eqb a.height b.height) e in
    let h = eqb-true a.x b.x (both_left (eqb a.x b.x) (eqb a.y b.y) two) in
    let k = eqb-true a.y b.y (both_right (eqb a.x b.x) (eqb a.y b.y) two) in
    let m = eqb-true a.height b.height (both_right (eqb a.x b.x && eqb a.y b.y) (eqb a.height b.height) e) in
    λ i. record { x = h i; y = k i; height = m i }

bits-same : (a b : DisplayBits) → same_bits a b ≡ true → a ≡ b
bits-same a b e =
    let g : Bool = same_flag a.graphic b.graphic in
    let t : Bool = same_flag a.text b.text in
    let k : Bool = same_flag a.cursor b.cursor in
    let l : Bool = same_flag a.blink b.blink in
    let three = both_left (g && t && k) l e in
    let two = both_left (g && t) k three in
    let eg = flag_same a.graphic b.graphic (both_left g t two) in
    let et = flag_same a.text b.text (both_right g t two) in
    let ek = flag_same a.cursor b.cursor (both_right (g && t) k three) in
    let el = flag_same a.blink b.blink (both_right (g && t && k) l e) in
    λ i. record { graphic = eg i; text = et i; cursor = ek i; blink = el i }

pub display-same : (a b : Display) → same_display a b ≡ true → a ≡ b
unfolding same_display
display-same a b e =
    let t : Bool = same_plane a.text b.text in
    let g : Bool = same_plane a.graphic b.graphic in
    let o : Bool = eqb a.offset b.offset in
    let m : Bool = eqb (mode_number a.combination) (mode_number b.combination) in
    let x : Bool = same_flag a.external b.external in
    let s : Bool = same_bits a.bits b.bits in
    let k : Bool = same_cursor a.cursor b.cursor in
    let h : Bool = same_flag a.phase b.phase in
    let e7 = both_left (t && g && o && m && x && s && k) h e in
    let e6 = both_left (t && g && o && m && x && s) k e7 in
    let e5 = both_left (t && g && o && m && x) s e6 in
    let e4 = both_left (t && g && o && m) x e5 in
    let e3 = both_left (t && g && o) m e4 in
    let e2 = both_left (t && g) o e3 in
    let et = plane-same a.text b.text (both_left t g e2) in
    let eg = plane-same a.graphic b.graphic (both_right t g e2) in
    let eo = eqb-true a.offset b.offset (both_right (t && g) o e3) in
    let em = mode-same a.combination b.combination (both_right (t && g && o) m e4) in
    let ex = flag_same a.external b.external (both_right (t && g && o && m) x e5) in
    let es = bits-same a.bits b.bits (both_right (t && g && o && m && x) s e6) in
    let ek = cursor-same a.cursor b.cursor (both_right (t && g && o && m && x && s) k e7) in
    let eh = flag_same a.phase b.phase (both_right (t && g && o && m && x && s && k) h e) in
    λ i. record { text = et i; graphic = eg i; offset = eo i; combination = em i; external = ex i; bits = es i; cursor = ek i; phase = eh i }

pub same-own : (a : Display) → same_display a a ≡ true
unfolding same_display
same-own a =
    both (both (both (both (both (both (both
    (both (eq-eqb a.text.home a.text.home refl) (eq-eqb a.text.area a.text.area refl))
    (both (eq-eqb a.graphic.home a.graphic.home refl) (eq-eqb a.graphic.area a.graphic.area refl)))
    (eq-eqb a.offset a.offset refl))
    (eq-eqb (mode_number a.combination) (mode_number a.combination) refl))
    (flag-own a.external))
    (both (both (both (flag-own a.bits.graphic) (flag-own a.bits.text)) (flag-own a.bits.cursor)) (flag-own a.bits.blink)))
    (both (both (eq-eqb a.cursor.x a.cursor.x refl) (eq-eqb a.cursor.y a.cursor.y refl)) (eq-eqb a.cursor.height a.cursor.height refl)))
    (flag-own a.phase)

-- a row that no stored address touches shows what it showed
module _ (p : Panel) (d : Display) (mem memory rom : List ℕ) (at n r : ℕ) (k : Stored at n mem memory) (none : touched_by p d mem at n r ≡ false) where
  untouched : (j : ℕ) → j < n → touches p d mem r (from_address at j) ≡ true → ⊥
  unfolding touched_by
  untouched = any-not n (λ j. touches p d mem r (from_address at j)) none

  text-kept : (c : ℕ) → c < p.columns → get_or memory (address_of d.text (r / 8) c) 0 ≡ get_or mem (address_of d.text (r / 8) c) 0
  unfolding touches in_row
  text-kept c l =
      k.kept (address_of d.text (r / 8) c)
      (λ j m e. untouched j m
      (or_left (any_of p.columns (λ i. eqb (from_address at j) (address_of d.text (r / 8) i))) _
      (any-has p.columns (λ i. eqb (from_address at j) (address_of d.text (r / 8) i)) c l (eq-eqb (from_address at j) (address_of d.text (r / 8) c) (sym e)))))

  plane-kept : (c : ℕ) → c < p.columns → get_or memory (address_of d.graphic (plane_row d.combination r) c) 0 ≡ get_or mem (address_of d.graphic (plane_row d.combination r) c) 0
  unfolding touches in_row
  plane-kept c l =
      k.kept (address_of d.graphic (plane_row d.combination r) c)
      (λ j m e. untouched j m
      (or_right (any_of p.columns (λ i. eqb (from_address at j) (address_of d.text (r / 8) i))) _
      (or_right (glyph_at p d mem r (from_address at j)) _
      (any-has p.columns (λ i. eqb (from_address at j) (address_of d.graphic (plane_row d.combination r) i)) c l (eq-eqb (from_address at j) (address_of d.graphic (plane_row d.combination r) c) (sym e))))))

  glyph-kept : (c : ℕ) → c < p.columns → from_memory d (text_code d mem (r / 8) c) ≡ true
      → get_or memory (2048 * d.offset + 8 * text_code d mem (r / 8) c + r % 8) 0 ≡ get_or mem (2048 * d.offset + 8 * text_code d mem (r / 8) c + r % 8) 0
  unfolding touches glyph_at glyph_byte_at
  glyph-kept c l f =
      k.kept (2048 * d.offset + 8 * text_code d mem (r / 8) c + r % 8)
      (λ j m e. untouched j m
      (or_right (in_row d.text (r / 8) p.columns (from_address at j)) _
      (or_left (glyph_at p d mem r (from_address at j)) _
      (any-has p.columns (λ i. glyph_byte_at d (text_code d mem (r / 8) i) (r % 8) (from_address at j)) c l
      (both f (eq-eqb (from_address at j) (2048 * d.offset + 8 * text_code d mem (r / 8) c + r % 8) (sym e)))))))

  same_bytes : (c : ℕ) → c < p.columns → SameBytes p d mem memory r c
  unfolding text_code graphic_byte attribute_byte
  same_bytes c l =
      record {
        code = sym (text-kept c l);
        glyph = λ f. sym (glyph-kept c l f);
        graphic = λ e. sym (subst (λ (t : Bool). get_or memory (address_of d.graphic (cond t (r / 8) r) c) 0 ≡ get_or mem (address_of d.graphic (cond t (r / 8) r) c) 0) e (plane-kept c l));
        attribute = λ e. sym (subst (λ (t : Bool). get_or memory (address_of d.graphic (cond t (r / 8) r) c) 0 ≡ get_or mem (address_of d.graphic (cond t (r / 8) r) c) 0) e (plane-kept c l));
      }

  pub untouched-row : 0 < p.width → row_of p d mem rom r ≡ row_of p d memory rom r
  unfolding row_of cell_byte
  untouched-row w =
      row-cong p.columns p.width w (cell_byte p d mem rom r) (cell_byte p d memory rom r)
      (λ c l. ap
      (λ (x : Layers). cond (cursor_lit d.bits.cursor d.bits.blink d.phase && cursor_covers p d.cursor (r / 8) (r % 8) c) (2 ^ p.width - 1) x.shown)
      (layers-same p d mem memory rom r c (same_bytes c l)))

pub start_right : StartRight
start_right p d mem rom frame =
    record { rows = λ r l z. absurd (let e : 1 ≡ 0 = sym (build-at (8 * p.lines) (λ i. 1) r 0 l) ∙ z in omega (arith, e)) }

wide : (p : Panel) → valid_panel p ≡ true → 0 < p.width
wide p v = ⊎_elim (λ e. omega (arith, e)) (λ e. omega (arith, e)) (panelled p v).width

abbrev pub RightOf : Panel → List ℕ → List ℕ → Flagged → Type 0
RightOf p rom frame f = Right p f.machine.registers.display f.machine.memory rom f.flags frame

module _ (p : Panel) (rom frame : List ℕ) (v : valid_panel p ≡ true) where
  after-right : (s : Machine) (q : Pair) (t : Machine) (flags : List ℕ) → Stored s.registers.bus.pointer (stores_of p s.registers q) s.memory t.memory
      → RightOf p rom frame (with_flags s flags) → RightOf p rom frame (with_flags t (flags_after p s q t flags))
  unfolding flags_after touched
  after-right s q t flags st k = record { rows = λ r l z. go r l (sym (build-at (8 * p.lines) (λ i. cond (test i) 1 (get_or flags i 0)) r 0 l) ∙ z) (test r) refl }
    where
      test : ℕ → Bool
      test r = not (same_display s.registers.display t.registers.display) || (touched_by p s.registers.display s.memory s.registers.bus.pointer (stores_of p s.registers q) r || touched_by p s.registers.display t.memory s.registers.bus.pointer (stores_of p s.registers q) r)

      go : (r : ℕ) → r < 8 * p.lines → cond (test r) 1 (get_or flags r 0) ≡ 0 → (b : Bool) → test r ≡ b → stretch_of p frame r ≡ row_of p t.registers.display t.memory rom r
      go r l z true e = absurd (let y : 1 ≡ 0 = sym (ap (λ (u : Bool). cond u 1 (get_or flags r 0)) e) ∙ z in omega (arith, y))
      go r l z false e =
          let two = neither (not (same_display s.registers.display t.registers.display)) _ e in
          let same = display-same s.registers.display t.registers.display (not-false (same_display s.registers.display t.registers.display) two.0) in
          let un = neither (touched_by p s.registers.display s.memory s.registers.bus.pointer (stores_of p s.registers q) r) _ two.1 in
          k.rows r l (sym (ap (λ (u : Bool). cond u 1 (get_or flags r 0)) e) ∙ z)
          ∙ untouched-row p s.registers.display s.memory t.memory rom s.registers.bus.pointer (stores_of p s.registers q) r st un.0 (wide p v)
          ∙ ap (λ (d : Display). row_of p d t.memory rom r) same

  -- one pair, refused or not
  pub step_right : (f : Flagged) (q : Pair) → length f.machine.memory ≡ 65536 → RightOf p rom frame f → Leaves (RightOf p rom frame) (flag_step p rom f q)
  step_right f q l k = go (step_of p rom f.machine q) (step-stores p rom f.machine l q)
    where
      go : (o : Step Machine) → Leaves (λ t. Stored f.machine.registers.bus.pointer (stores_of p f.machine.registers q) f.machine.memory t.memory) o
          → Leaves (RightOf p rom frame) (flag_by p f q o)
      go (done t) st = after-right f.machine q t f.flags st k
      go (answered t b) st = after-right f.machine q t f.flags st k
      go (refused n) st = tt

pub follow-right : FollowRight
unfolding follow_of
follow-right p r mem rom q flags frame k = go (valid_panel p && valid_registers r) refl (lent_lengths mem rom && flags_fit p flags) refl
  where
    RightIn : Followed → Type 0
    RightIn x = Right p x.acted.registers.display x.memory rom x.flags frame

    pair : (o : Step Flagged) → Leaves (RightOf p rom frame) o → RightIn (followed_of r mem flags o)
    pair (done f) h = h
    pair (answered f b) h = h
    pair (refused n) h = k

    go : (a : Bool) → (valid_panel p && valid_registers r) ≡ a → (b : Bool) → (lent_lengths mem rom && flags_fit p flags) ≡ b
        → RightIn (cond a (cond b (followed_of r mem flags (flag_step p rom (with_flags (machine r mem) flags) q)) (followed_by 2 r 0 mem flags)) (followed_by 1 r 0 mem flags))
    go true e true h =
        pair (flag_step p rom (with_flags (machine r mem) flags) q)
        (step_right p rom frame (both_left (valid_panel p) (valid_registers r) e) (with_flags (machine r mem) flags) q
        (eqb-true (length mem) 65536 (both_left (eqb (length mem) 65536) (eqb (length rom) 1024) (both_left (lent_lengths mem rom) (flags_fit p flags) h))) k)
    go true e false h = k
    go false e b h = k

fresh : (p : Panel) (d : Display) (mem rom : List ℕ) {f : ℕ → List ℕ} → ((i : ℕ) → i < 8 * p.lines → f i ≡ row_of p d mem rom i) → joined (8 * p.lines) f ≡ frame_of p d mem rom
unfolding frame_of frame_from row_of
fresh p d mem rom {f} h = joined-cong (8 * p.lines) f (λ i. row_from p.columns p.width (cell_byte p d mem rom i)) h

pub refresh-right : RefreshRight
unfolding refresh_of
refresh-right p r mem rom frame flags z = go (valid_panel p && valid_registers r) (lent_lengths mem rom && frame_fits p frame && flags_fit p flags) refl z
  where
    row : ℕ → List ℕ
    row = refreshed_row p r.display mem rom frame flags

    afresh : Right p r.display mem rom flags frame → joined (8 * p.lines) row ≡ frame_of p r.display mem rom
    afresh k = fresh p r.display mem rom (λ i l. go (eqb (get_or flags i 0) 0) refl l)
      where
        go : {i : ℕ} (b : Bool) → eqb (get_or flags i 0) 0 ≡ b → i < 8 * p.lines → cond b (stretch_of p frame i) (row_of p r.display mem rom i) ≡ row_of p r.display mem rom i
        go {i} true e l = k.rows i l (eqb-true (get_or flags i 0) 0 e)
        go false e l = refl

    untouched : length frame ≡ 8 * p.lines * row_size p → (i : ℕ) → i < 8 * p.lines → get_or flags i 0 ≡ 0 → stretch_of p (joined (8 * p.lines) row) i ≡ stretch_of p frame i
    untouched e i l f =
        let N : ℕ = 8 * p.lines in
        let R : ℕ = row_size p in
        let in-panel : (j : ℕ) → j < N → row_in p r.display mem rom frame flags R j ≡ row j = λ j m. ap (λ (t : Bool). cond t (row j) (row_of p r.display mem rom j)) (lt-ltb j N m) in
        ap (λ (x : List ℕ). take R (drop (i * R) x)) (sym (joined-cong N (row_in p r.display mem rom frame flags R) row in-panel))
        ∙ joined-stretch N R (row_in p r.display mem rom frame flags R) (sized p r.display mem rom frame flags R refl e) i l
        ∙ in-panel i l
        ∙ ap (λ (t : Bool). cond t (stretch_of p frame i) (row_of p r.display mem rom i)) (eq-eqb (get_or flags i 0) 0 f)

    go : (a b : Bool) → (lent_lengths mem rom && frame_fits p frame && flags_fit p flags) ≡ b
        → (cond a (cond b (refreshed (reply_of 0) (joined (8 * p.lines) row) (all_clear (8 * p.lines))) (refreshed (reply_of 2) frame flags)) (refreshed (reply_of 1) frame flags)).reply.number ≡ 0
        → (Right p r.display mem rom flags frame → (cond a (cond b (refreshed (reply_of 0) (joined (8 * p.lines) row) (all_clear (8 * p.lines))) (refreshed (reply_of 2) frame flags)) (refreshed (reply_of 1) frame flags)).frame ≡ frame_of p r.display mem rom)
        × ((i : ℕ) → i < 8 * p.lines → get_or flags i 0 ≡ 0 → stretch_of p (cond a (cond b (refreshed (reply_of 0) (joined (8 * p.lines) row) (all_clear (8 * p.lines))) (refreshed (reply_of 2) frame flags)) (refreshed (reply_of 1) frame flags)).frame i ≡ stretch_of p frame i)
    go true true h e = (
      afresh,
      untouched (eqb-true (length frame) (8 * p.lines * row_size p) (both_right (lent_lengths mem rom) (frame_fits p frame) (both_left (lent_lengths mem rom && frame_fits p frame) (flags_fit p flags) h))),
    )
    go true false h e = absurd (let y : 2 ≡ 0 = e in omega (arith, y))
    go false b h e = absurd (let y : 1 ≡ 0 = e in omega (arith, y))
