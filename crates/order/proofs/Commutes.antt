-- Two neighbours that are free of each other leave the same picture, and are written in as many pairs, in either order.
use mathlib.Core.Path.{◌≡◌, refl, sym, ap, ◌∙◌}
use mathlib.Core.Bool.{Bool, true, false, not, ◌&&◌, true≢false}
use mathlib.Core.List.{List, [], ◌∷◌, ◌++◌}
use Prim.Native.Nat.{ℕ, ◌+◌, ◌/◌, ◌%◌}
use native.Mathlib.Nat.{div-lt_iff_lt-mul}
use native.Mathlib.Omega.{arith}
use lib.Dec.{eqb}
use lib.ListN.{length, take, drop, length-take, length-drop}
use borrow.Author.Tests.{eqb-true, eq-eqb, not-true}
use Rattle.ground.proofs.Tests.{both_left, both_right}
use Rattle.state.specs.declared.panel.Panel.{Panel}
use Rattle.state.specs.State.{valid_panel}
use Rattle.state.proofs.Sizes.{some-width}
use Rattle.state.specs.declared.registers.Combination.{Combination}
use Rattle.contents.specs.Replies.{Asked, Body as Asked-Body, Refused}
use Rattle.contents.specs.Asked.{asked_of}
use Rattle.book.specs.declared.operation.Placed.{Placed}
use Rattle.book.specs.declared.operation.Placed.TheVariants.{Text, Rectangle, Dot, Glyph, Cursor, Combine}
use Rattle.book.specs.Operation.{Operation, text, rectangle, dot, glyph, cursor, combine, operation_of, pairs_for, body_count}
use Rattle.book.specs.Range.{InRange}
use Rattle.book.specs.Screen.{screen, screen_in, screen_of}
use Rattle.book.proofs.Walking.{walk-all}
use Rattle.picture.specs.Laid.{Laid}
use Rattle.picture.specs.Picture.{Picture, blank, applied, applied_all, picture_of}
use Rattle.picture.proofs.Planes.{stores-swap}
use Rattle.order.specs.Order.{operation_number, area_of, uses, graphic_number, unlike_numbers, one_plane, Free, unlike, apart}
use Rattle.order.proofs.Parts.{on_combination, on_cursor, by_parts, applied-parts, Within, graphic_used, codes_used, glyphs_used, stores-graphic, stores-codes, stores-glyphs}

none_right : (t u : Bool) → u ≡ false → (t && u) ≡ false
none_right true u e = e
none_right false u e = refl

none_left : (t u : Bool) → t ≡ false → (t && u) ≡ false
none_left t u e = ap (λ (x : Bool). x && u) e

other : (t u : Bool) → (t && u) ≡ false → t ≡ true → u ≡ false
other true u e h = e
other false u e h = absurd (true≢false (sym h))

-- of two unlike numbers only one is graphic, and only one is k
module _ (m n : ℕ) (h : unlike_numbers m n ≡ true) where
  one-graphic : graphic_number m ≡ true → graphic_number n ≡ false
  one-graphic =
      other (graphic_number m) (graphic_number n)
      (not-true (graphic_number m && graphic_number n) (both_right (not (eqb m n)) (not (graphic_number m && graphic_number n)) h))

  one-such : (k : ℕ) → eqb m k ≡ true → eqb n k ≡ false
  one-such k e = go (eqb n k) refl
    where
      go : (t : Bool) → eqb n k ≡ t → eqb n k ≡ false
      go false f = f
      go true f =
          let s : m ≡ n = eqb-true m k e ∙ sym (eqb-true n k f) in
          absurd (true≢false (sym (eq-eqb m n s) ∙ not-true (eqb m n) (both_left (not (eqb m n)) (not (graphic_number m && graphic_number n)) h)))

module _ (p : Panel) where
  -- what is used by one that is free of another is not used by the other
  module _ {a b : Operation} where
    free-graphic : Free p a b → (i : ℕ) → graphic_used p a i ≡ true → graphic_used p b i ≡ false
    free-graphic (unlike h) i e =
        none_left (graphic_number (operation_number b)) (uses (area_of p b) (i / p.columns) (i % p.columns))
        (one-graphic (operation_number a) (operation_number b) h (both_left (graphic_number (operation_number a)) (uses (area_of p a) (i / p.columns) (i % p.columns)) e))
    free-graphic (apart h k) i e =
        none_right (graphic_number (operation_number b)) (uses (area_of p b) (i / p.columns) (i % p.columns))
        (k (i / p.columns) (i % p.columns) (both_right (graphic_number (operation_number a)) (uses (area_of p a) (i / p.columns) (i % p.columns)) e))

    free-codes : Free p a b → (i : ℕ) → codes_used p a i ≡ true → codes_used p b i ≡ false
    free-codes (unlike h) i e =
        none_left (eqb (operation_number b) 1) (uses (area_of p b) (i / p.columns) (i % p.columns))
        (one-such (operation_number a) (operation_number b) h 1 (both_left (eqb (operation_number a) 1) (uses (area_of p a) (i / p.columns) (i % p.columns)) e))
    free-codes (apart h k) i e =
        none_right (eqb (operation_number b) 1) (uses (area_of p b) (i / p.columns) (i % p.columns))
        (k (i / p.columns) (i % p.columns) (both_right (eqb (operation_number a) 1) (uses (area_of p a) (i / p.columns) (i % p.columns)) e))

    free-glyphs : Free p a b → (i : ℕ) → glyphs_used p a i ≡ true → glyphs_used p b i ≡ false
    free-glyphs (unlike h) i e =
        none_left (eqb (operation_number b) 4) (uses (area_of p b) (i / 8 + 0x80) 0)
        (one-such (operation_number a) (operation_number b) h 4 (both_left (eqb (operation_number a) 4) (uses (area_of p a) (i / 8 + 0x80) 0) e))
    free-glyphs (apart h k) i e =
        none_right (eqb (operation_number b) 4) (uses (area_of p b) (i / 8 + 0x80) 0)
        (k (i / 8 + 0x80) 0 (both_right (eqb (operation_number a) 4) (uses (area_of p a) (i / 8 + 0x80) 0) e))

  -- neither two cursors nor two combinations are free of each other
  free-differs : {a b : Operation} → Free p a b → (one_plane (operation_number a) (operation_number b) ≡ false) → eqb (operation_number a) (operation_number b) ≡ false
  free-differs {a} {b} (unlike h) e =
      not-true (eqb (operation_number a) (operation_number b))
      (both_left (not (eqb (operation_number a) (operation_number b))) (not (graphic_number (operation_number a) && graphic_number (operation_number b))) h)
  free-differs (apart h k) e = absurd (true≢false (sym h ∙ e))

  free-cursor : (a b : Operation) → Free p a b → (l : Laid) → on_cursor p b (on_cursor p a l) ≡ on_cursor p a (on_cursor p b l)
  free-cursor (text line column codes) b f l = refl
  free-cursor (rectangle top column height width value) b f l = refl
  free-cursor (dot x y on) b f l = refl
  free-cursor (glyph code rows) b f l = refl
  free-cursor (combine k) b f l = refl
  free-cursor (cursor line column height blink) (text line₂ column₂ codes) f l = refl
  free-cursor (cursor line column height blink) (rectangle top column₂ height₂ width value) f l = refl
  free-cursor (cursor line column height blink) (dot x y on) f l = refl
  free-cursor (cursor line column height blink) (glyph code rows) f l = refl
  free-cursor (cursor line column height blink) (cursor line₂ column₂ height₂ blink₂) f l = absurd (true≢false (free-differs f refl))
  free-cursor (cursor line column height blink) (combine k) f l = refl

  free-combination : (a b : Operation) → Free p a b → (c : Combination) → on_combination p b (on_combination p a c) ≡ on_combination p a (on_combination p b c)
  free-combination (text line column codes) b f c = refl
  free-combination (rectangle top column height width value) b f c = refl
  free-combination (dot x y on) b f c = refl
  free-combination (glyph code rows) b f c = refl
  free-combination (cursor line column height blink) b f c = refl
  free-combination (combine k) (text line column codes) f c = refl
  free-combination (combine k) (rectangle top column height width value) f c = refl
  free-combination (combine k) (dot x y on) f c = refl
  free-combination (combine k) (glyph code rows) f c = refl
  free-combination (combine k) (cursor line column height blink) f c = refl
  free-combination (combine k) (combine j) f c = absurd (true≢false (free-differs f refl))

  module _ (a b : Operation) (i : Within p a) (j : Within p b) (f : Free p a b) where
    parts-swap : (x : Picture) → by_parts p b (by_parts p a x) ≡ by_parts p a (by_parts p b x)
    parts-swap x =
        λ q. record {
          graphic = stores-swap (stores-graphic p a i) (stores-graphic p b j) (free-graphic {a = a} {b = b} f) x.graphic q;
          codes = stores-swap (stores-codes p a i) (stores-codes p b j) (free-codes {a = a} {b = b} f) x.codes q;
          glyphs = stores-swap (stores-glyphs p a i) (stores-glyphs p b j) (free-glyphs {a = a} {b = b} f) x.glyphs q;
          combination = free-combination a b f x.combination q;
          cursor = free-cursor a b f x.cursor q;
        }

    pub applied-swap : (x : Picture) → applied p b (applied p a x) ≡ applied p a (applied p b x)
    applied-swap x =
        ap (applied p b) (applied-parts p a x) ∙ applied-parts p b (by_parts p a x)
        ∙ parts-swap x
        ∙ sym (ap (applied p a) (applied-parts p b x) ∙ applied-parts p a (by_parts p b x))

    pub all-swap : (os ps : List Operation) (x : Picture) → applied_all p (os ++ (a ∷ b ∷ ps)) x ≡ applied_all p (os ++ (b ∷ a ∷ ps)) x
    unfolding applied_all
    all-swap [] ps x = ap (applied_all p ps) (applied-swap x)
    all-swap (o ∷ os) ps x = all-swap os ps (applied p o x)

-- as many pairs
pub count-swap : (a b : Operation) (os ps : List Operation) → body_count (os ++ (a ∷ b ∷ ps)) ≡ body_count (os ++ (b ∷ a ∷ ps))
unfolding body_count
count-swap a b [] ps = let m : ℕ = pairs_for a in let n : ℕ = pairs_for b in let k : ℕ = body_count ps in swap m n k
  where
    swap : (m n k : ℕ) → m + (n + k) ≡ n + (m + k)
    swap m n k = omega arith
count-swap a b (o ∷ os) ps = ap (λ (k : ℕ). pairs_for o + k) (count-swap a b os ps)

-- a screen's operations are all within
module _ (p : Panel) (v : valid_panel p ≡ true) where
  abbrev pub AllWithin : List Operation → Type 0
  AllWithin [] = Unit {0}
  AllWithin (o ∷ os) = Within p o × AllWithin os

  placed-within : (book : List ℕ) (o : Placed) → InRange p book o → Within p (operation_of book o)
  placed-within book (Text line column from n) k =
      let e : length (take n (drop from book)) ≡ n = simp (length-take, length-drop) (omega (arith, k.inside)) in omega (arith, k.across)
  placed-within book (Rectangle top column height width value) k = k.across
  placed-within book (Dot x y on) k = (div-lt_iff_lt-mul (some-width p v)).1 k.across
  placed-within book (Glyph code from) k = (k.high, simp (length-take, length-drop) (omega arith))
  placed-within book (Cursor line column height blink) k = tt
  placed-within book (Combine c) k = tt

  pub screen-within : (book : List ℕ) (number : ℕ) {os : List Operation} → screen_of p book number ≡ screen os → AllWithin os
  unfolding screen_of
  screen-within book number {os} e = go (asked_of book number) e
    where
      go : (a : Asked) → screen_in p book a ≡ screen os → AllWithin os
      go (Asked-Body start end) e =
          walk-all p book end (λ n qs. AllWithin qs) (λ n. tt) (λ n at next o qs k more. (placed-within book o k.range, more)) _ start e
      go (Refused n place) e = let z : ◌≡◌ {A = ℕ} 0 1 = cc in absurd (let y : ⊥ = omega arith in y)

  two-within : (a b : Operation) (os ps : List Operation) → AllWithin (os ++ (a ∷ b ∷ ps)) → Within p a × Within p b
  two-within a b [] ps k = (k.0, k.1.0)
  two-within a b (o ∷ os) ps k = two-within a b os ps k.1

  -- the picture of a screen, two neighbours of which change places
  pub picture-swap : (book : List ℕ) (number : ℕ) (os ps : List Operation) (a b : Operation) → screen_of p book number ≡ screen (os ++ (a ∷ b ∷ ps)) → Free p a b
      → picture_of p (os ++ (a ∷ b ∷ ps)) ≡ picture_of p (os ++ (b ∷ a ∷ ps))
  unfolding picture_of
  picture-swap book number os ps a b e f =
      let k = two-within a b os ps (screen-within book number e) in all-swap p a b k.0 k.1 f os ps (blank p)
