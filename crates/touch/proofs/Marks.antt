-- The flags row by row: each as it was until it is written.
use Rattle.std.proofs.Common.{◌≡◌, ℕ, ◌+◌, ◌-◌, ◌*◌, ◌/◌, ◌%◌, ◌<◌, ◌≤◌, Bool, true, false, cond, ◌&&◌, ◌||◌, eqb, ltb, List, length, get_or, set, sym, refl, ap, ◌∙◌, arith, ext_get_or, ltb-false, ltb-true, lt-ltb, eqb-true}
use Rattle.ground.specs.Lists.{build}
use Rattle.ground.proofs.Lists.{build-length, build-at, build-cong}
use Rattle.ground.proofs.Filling.{Filled, one_more, unwritten}
use Rattle.ground.proofs.Conjuncts.{neither}
use Rattle.ground.proofs.Tests.{both_right}
use Rattle.state.specs.State.{valid_panel, valid_display}
use Rattle.stores.specs.Stores.{from_address}
use Rattle.touch.specs.Types.{Panel, Display}
use Rattle.touch.specs.Touch.{any_of, plane_row, touches, touched_by}
use Rattle.display.specs.Flagged.{flags_fit}
use Rattle.touch.specs.Marked.{set_where, marked_of, marks_of}
use Rattle.touch.specs.Ready.{row_meets, span_of, reaches_of, planes_meet, glyph_meets, near_bank, kept_flag}
use Rattle.touch.proofs.Anys.{any-zero}
use Rattle.touch.proofs.Meets.{row-reach, none-near, row_reads}

-- a list by its own index
pub same-list : (l : List ℕ) (n : ℕ) → length l ≡ n → build n (λ r. get_or l r 0) ≡ l
same-list l n e =
    ext_get_or 0 (build n (λ r. get_or l r 0)) l (build-length n (λ r. get_or l r 0) ∙ sym e)
    (λ i h. build-at n (λ r. get_or l r 0) i 0 (omega (arith, h, build-length n (λ r. get_or l r 0))))

-- row by row
module _ (test : ℕ → Bool) (l₀ : List ℕ) where
  abbrev pub mark_at : ℕ → ℕ
  mark_at r = cond (test r) 1 (get_or l₀ r 0)

  pub marks-one : {l : List ℕ} {row v : ℕ} → Filled mark_at l₀ l row → row < length l₀ → v ≡ kept_flag (test row) (get_or l row 0) → Filled mark_at l₀ (set l row v) (row + 1)
  marks-one {l} {row} k h f = one_more mark_at l₀ k h (f ∙ (λ i. cond (test row) 1 (unwritten mark_at l₀ k i)))

-- a row of text and one of graphic
abbrev pub plane_test : Display → ℕ → ℕ → ℕ → Bool → ℕ → Bool
plane_test d C at n altered r = altered || (row_meets d.text (r / 8) C at n || row_meets d.graphic (plane_row d.combination r) C at n)

-- told in 16 bits: so many places that these can't say it reach every row
wide : (S x y : ℕ) (altered : Bool) → x < 65536 → y < 65536 → ((altered || ltb 65535 S) || (ltb x (S % 65536) || ltb y (S % 65536))) ≡ (altered || (ltb x S || ltb y S))
wide S x y altered hx hy = go (ltb 65535 S) refl altered
  where
    go : (t : Bool) → ltb 65535 S ≡ t → (a : Bool) → ((a || ltb 65535 S) || (ltb x (S % 65536) || ltb y (S % 65536))) ≡ (a || (ltb x S || ltb y S))
    go t e true = refl
    go true e false =
        let h : x < S = let l = ltb-true 65535 S e in omega arith in
        ap (λ (t : Bool). t || (ltb x (S % 65536) || ltb y (S % 65536))) e ∙ sym (ap (λ (t : Bool). t || ltb y S) (lt-ltb x S h))
    go false e false =
        let m : S % 65536 ≡ S = let l = ltb-false 65535 S e in omega arith in
        (λ i. e i || (ltb x (m i) || ltb y (m i)))

pub planes-one : (d : Display) (C at n : ℕ) (altered : Bool) (l₀ : List ℕ) {l : List ℕ} {row low places within line v : ℕ} {t g : Bool}
    → Filled (mark_at (plane_test d C at n altered) l₀) l₀ l row → row < length l₀ → (0 < C) × (C ≤ 80) → at < 65536 → low < 65536 → (low + (C - 1)) % 65536 ≡ at → places ≡ span_of C n
    → within ≡ places % 65536 → t ≡ reaches_of d.text (row / 8) low within → line ≡ plane_row d.combination row → g ≡ reaches_of d.graphic line low within
    → v ≡ kept_flag ((altered || ltb 65535 places) || (t || g)) (get_or l row 0) → Filled (mark_at (plane_test d C at n altered) l₀) l₀ (set l row v) (row + 1)
planes-one d C at n altered l₀ {l} {row} {low} {places} {within} {line} {v} {t} {g} k h w la ll e s m a b c f =
    let text = ap (reaches_of d.text (row / 8) low) s ∙ row-reach d.text (row / 8) C at n low w.0 w.1 la ll e in
    let graphic = (λ i. reaches_of d.graphic (b i) low (s i)) ∙ row-reach d.graphic (plane_row d.combination row) C at n low w.0 w.1 la ll e in
    marks-one (plane_test d C at n altered) l₀ k h
    (f
    ∙ (λ i. kept_flag ((altered || ltb 65535 places) || ((a ∙ ap (reaches_of d.text (row / 8) low) m) i || (c ∙ ap (reaches_of d.graphic line low) m) i)) (get_or l row 0))
    ∙ ap (λ (b : Bool). kept_flag b (get_or l row 0)) (wide places _ _ altered (omega arith) (omega arith)) ∙ (λ i. kept_flag (altered || (text i || graphic i)) (get_or l row 0)))

-- twice
pub set-again : (p : Panel) (f g h : ℕ → Bool) (l : List ℕ) → ((r : ℕ) → (g r || f r) ≡ h r) → set_where p g (set_where p f l) ≡ set_where p h l
set-again p f g h l e =
    build-cong (8 * p.lines) (λ r. cond (g r) 1 (get_or (set_where p f l) r 0)) (λ r. cond (h r) 1 (get_or l r 0))
    (λ r k. ap (λ (m : ℕ). cond (g r) 1 m) (build-at (8 * p.lines) (λ i. cond (f i) 1 (get_or l i 0)) r 0 k) ∙ cases (g r) (f r) (get_or l r 0) ∙ ap (λ (t : Bool). cond t 1 (get_or l r 0)) (e r))
  where
    cases : (a b : Bool) (m : ℕ) → cond a 1 (cond b 1 m) ≡ cond (a || b) 1 m
    cases true b m = refl
    cases false b m = refl

module _ (p : Panel) (d : Display) (mem : List ℕ) (at n : ℕ) (altered : Bool) (l₀ : List ℕ) where
  -- text and graphic, then glyphs
  pub marks-both : {l m : List ℕ} → l ≡ set_where p (λ r. altered || planes_meet p d at n r) l₀ → m ≡ set_where p (λ r. glyph_meets p d mem r at n) l → m ≡ marked_of p d mem at n altered l₀
  unfolding marked_of
  marks-both e f =
      f ∙ ap (set_where p (λ r. glyph_meets p d mem r at n)) e
      ∙ set-again p (λ r. altered || planes_meet p d at n r) (λ r. glyph_meets p d mem r at n) (λ r. altered || touched_by p d mem at n r) l₀ (λ r. row_reads p d mem r at n altered)

  -- no glyph near
  pub marks-far : {l : List ℕ} {t : Bool} → l ≡ set_where p (λ r. altered || planes_meet p d at n r) l₀ → at < 65536 → d.offset < 32 → ((i : ℕ) → get_or mem i 0 < 256)
      → t ≡ near_bank d at n → t ≡ false → l ≡ marked_of p d mem at n altered l₀
  unfolding marked_of
  marks-far e la lo bytes h z =
      e
      ∙ build-cong (8 * p.lines) (λ r. cond (altered || planes_meet p d at n r) 1 (get_or l₀ r 0)) (λ r. cond (altered || touched_by p d mem at n r) 1 (get_or l₀ r 0))
      (λ r k.
      ap (λ (b : Bool). cond b 1 (get_or l₀ r 0))
      (ap (λ (b : Bool). b || (altered || planes_meet p d at n r)) (none-near p d mem r at n la lo bytes (ap (λ (b : Bool). b && ltb ((r % 8 + 8 - at % 8) % 8) n) (sym h ∙ z)))
      ∙ row_reads p d mem r at n altered))

  -- neither altered nor stored
  pub marks-none : length l₀ ≡ 8 * p.lines → (altered || ltb 0 n) ≡ false → l₀ ≡ marked_of p d mem at n altered l₀
  unfolding marked_of touched_by
  marks-none e h =
      let two = neither altered (ltb 0 n) h in
      let z : n ≡ 0 = let l = ltb-false 0 n two.1 in omega arith in
      sym (same-list l₀ (8 * p.lines) e)
      ∙ build-cong (8 * p.lines) (λ r. get_or l₀ r 0) (λ r. cond (altered || any_of n (λ j. touches p d mem r (from_address at j))) 1 (get_or l₀ r 0))
      (λ r l.
      sym
      ((λ i. cond (two.0 i || any_of (z i) (λ j. touches p d mem r (from_address at j))) 1 (get_or l₀ r 0))
      ∙ ap (λ (t : Bool). cond (false || t) 1 (get_or l₀ r 0)) (any-zero (λ j. touches p d mem r (from_address at j)))))

-- the door
module _ (p : Panel) (d : Display) (mem : List ℕ) (at n : ℕ) (altered : Bool) (l₀ : List ℕ) where
  abbrev asked : Bool → Bool → List ℕ
  asked v f = cond v (cond f (marked_of p d mem at n altered l₀) l₀) l₀

  abbrev fitting : Bool
  fitting = valid_display d && eqb (length mem) 65536 && flags_fit p l₀

  -- not fitting, or nothing to mark
  pub door-idle : {v f : Bool} → v ≡ valid_panel p → v ≡ true → f ≡ valid_display d → ((f && eqb (length mem) 65536 && flags_fit p l₀) && (altered || ltb 0 n)) ≡ false
      → l₀ ≡ marks_of p d mem at n altered l₀
  door-idle {v} {f} e t g h = go fitting refl (ap (λ (b : Bool). (b && eqb (length mem) 65536 && flags_fit p l₀) && (altered || ltb 0 n)) (sym g) ∙ h) ∙ sym (λ i. asked ((sym e ∙ t) i) fitting)
    where
      go : (b : Bool) → fitting ≡ b → (fitting && (altered || ltb 0 n)) ≡ false → l₀ ≡ cond fitting (marked_of p d mem at n altered l₀) l₀
      go true w h =
          marks-none p d mem at n altered l₀ (eqb-true (length l₀) (8 * p.lines) (both_right (valid_display d && eqb (length mem) 65536) (flags_fit p l₀) w))
          (sym (ap (λ (b : Bool). b && (altered || ltb 0 n)) w) ∙ h)
          ∙ sym (ap (λ (b : Bool). cond b (marked_of p d mem at n altered l₀) l₀) w)
      go false w h = sym (ap (λ (b : Bool). cond b (marked_of p d mem at n altered l₀) l₀) w)
