-- Rows painted where they are flagged, each in its own stretch: row by row, and at the door.
use mathlib.Core.Path.{◌≡◌, refl, ap, sym, ◌∙◌}
use mathlib.Core.Bool.{Bool, true, false, cond, ◌&&◌}
use mathlib.Core.List.{List, ◌++◌, append_assoc}
use Prim.Native.Nat.{ℕ, suc, ◌+◌, ◌-◌, ◌*◌, ◌/◌, ◌%◌, ◌<◌, ◌≤◌, min}
use native.Mathlib.Nat.{mul-le-mul_right, suc-mul}
use native.Mathlib.Numerals.{add-one}
use native.Mathlib.Decide.{ℕ_discrete}
use native.Mathlib.Omega.{arith}
use lib.Dec.{ltb, eqb}
use lib.ListN.{length, get_or, take, drop, replicate, length-take, length-drop, length-replicate, get_or-replicate, take-append-drop}
use lib.Seq.{drop-drop, get_or-take, length-take-le}
use borrow.Author.Tests.{ltb-true, lt-ltb, eq-eqb, ne_eqb, eqb-true}
use Rattle.ground.specs.Lists.{joined}
use Rattle.ground.specs.Packing.{row_bytes}
use Rattle.ground.proofs.Lists.{joined-more, joined-cong}
use Rattle.ground.proofs.Rows.{Rowed, started, back, whole}
use Rattle.ground.proofs.Tests.{both, both_left, both_right}
use Rattle.state.specs.State.{valid_panel, valid_display, valid_bus, valid_registers}
use Rattle.state.specs.Sizes.{row_size, frame_size, valid_size}
use Rattle.state.proofs.Sizes.{is-size}
use Rattle.state.proofs.Valid.{panelled}
use Rattle.state.specs.declared.refusal.Refusal.{Refusal}
use Rattle.state.specs.Refusals.{number_of}
use Rattle.display.specs.Types.{Panel, Display, Registers, Reply}
use Rattle.display.specs.Frame.{row_of, frame_of, lent_lengths, frame_fits, reply_of, Painted, painted, paint_of}
use Rattle.display.specs.Drawable.{Drawable}
use Rattle.display.specs.Flagged.{flags_fit, refreshed_row, paint_flagged_of, some_row}
use Rattle.display.proofs.Doors.{drawable, rom-long, turned-away}
use Rattle.display.proofs.Dots.{row_sized, all-rows}

module _ (p : Panel) (d : Display) (mem rom : List ℕ) (first R : ℕ) (flags out₀ : List ℕ) where
  -- a row that has a flag; behind the last any row of that length
  abbrev any_row : ℕ → List ℕ
  any_row r = cond (ltb r (length flags)) (some_row p d mem rom first R flags out₀ r) (row_of p d mem rom (first + r))

  abbrev pub Flagging : List ℕ → ℕ → Type 0
  Flagging out row = Rowed R (length flags) any_row out₀ out row

  module _ (e : R ≡ row_bytes p.columns p.width) (long : length out₀ ≡ length flags * R) where
    stretch-long : (r : ℕ) → r < length flags → length (take R (drop (r * R) out₀)) ≡ R
    stretch-long r h =
        let a : suc r * R ≤ length flags * R = mul-le-mul_right R h in
        let b : suc r * R ≡ r * R + R = suc-mul r R in
        simp (length-take, length-drop) (omega (arith, a, b, long))

    sized : (r : ℕ) → length (any_row r) ≡ R
    sized r = go (ltb r (length flags)) refl (eqb (get_or flags r 0) 0)
      where
        go : (t : Bool) → ltb r (length flags) ≡ t → (u : Bool)
            → length (cond t (cond u (take R (drop (r * R) out₀)) (row_of p d mem rom (first + r))) (row_of p d mem rom (first + r))) ≡ R
        go true h true = stretch-long r (ltb-true r (length flags) h)
        go true h false = row_sized p d mem rom (first + r) ∙ sym e
        go false h u = row_sized p d mem rom (first + r) ∙ sym e

    pub flagging : Flagging out₀ 0
    flagging = started long sized

  module _ {out : List ℕ} {row : ℕ} (k : Flagging out row) (h : row < length flags) where
    by_flag : (u : Bool) → eqb (get_or flags row 0) 0 ≡ u → any_row row ≡ cond u (take R (drop (row * R) out₀)) (row_of p d mem rom (first + row))
    by_flag u e =
        λ i. cond (lt-ltb row (length flags) h i) (cond (e i) (take R (drop (row * R) out₀)) (row_of p d mem rom (first + row))) (row_of p d mem rom (first + row))

    pub row-painted : {ys : List ℕ} → (get_or flags row 0 ≡ 0 → ⊥) → ys ≡ row_of p d mem rom (first + row)
        → Flagging (take (row * R) out ++ (ys ++ drop (row * R + R - row * R) (drop (row * R) out))) (row + 1)
    row-painted z y = back k (y ∙ sym (by_flag false (ne_eqb (get_or flags row 0) 0 z))) h

    pub row-left : get_or flags row 0 ≡ 0 → Flagging out (row + 1)
    row-left z =
        let X = drop (row * R) out₀ in
        let f : any_row row ≡ take R X = by_flag true (eq-eqb (get_or flags row 0) 0 z) in
        let n : drop R X ≡ drop ((row + 1) * R) out₀ =
        drop-drop R (row * R) out₀ ∙ ap (λ (m : ℕ). drop m out₀) (sym (suc-mul row R) ∙ ap (λ (m : ℕ). m * R) (sym (add-one row))) in
        record {
          long = k.long;
          sized = k.sized;
          inside = omega arith;
          painted = k.painted ∙ ap (λ (l : List ℕ). joined row any_row ++ l) (sym (take-append-drop R X))
              ∙ (λ i. joined row any_row ++ (sym f i ++ n i)) ∙ sym (append_assoc (joined row any_row) (any_row row) (drop ((row + 1) * R) out₀))
              ∙ ap (λ (l : List ℕ). l ++ drop ((row + 1) * R) out₀) (sym (joined-more row any_row));
        }

  pub rows-done : {out : List ℕ} {row : ℕ} → Flagging out row → length flags ≤ row → out ≡ joined (length flags) (some_row p d mem rom first R flags out₀)
  rows-done k h =
      whole k h
      ∙ joined-cong (length flags) any_row (some_row p d mem rom first R flags out₀)
      (λ r l. ap (λ (t : Bool). cond t (some_row p d mem rom first R flags out₀ r) (row_of p d mem rom (first + r))) (lt-ltb r (length flags) l))

  -- all flagged
  pub all-flagged : ((i : ℕ) → i < length flags → get_or flags i 0 ≡ 1) → {f : List ℕ} → f ≡ joined (length flags) (some_row p d mem rom first R flags out₀)
      → f ≡ joined (length flags) (λ i. row_of p d mem rom (first + i))
  all-flagged h e =
      e
      ∙ joined-cong (length flags) (some_row p d mem rom first R flags out₀) (λ i. row_of p d mem rom (first + i))
      (λ i l. ap (λ (n : ℕ). cond (eqb n 0) (take R (drop (i * R) out₀)) (row_of p d mem rom (first + i))) (h i l))

-- as many ones as are asked for
abbrev pub ones : ℕ → List ℕ
ones N = replicate N 1

module _ (N n : ℕ) (h : n ≤ N) where
  pub ones-many : length (take n (ones N)) ≡ n
  ones-many = length-take-le n (ones N) (let l : length (ones N) ≡ N = length-replicate N 1 in omega (arith, l))

  pub ones-lit : (i : ℕ) → i < length (take n (ones N)) → get_or (take n (ones N)) i 0 ≡ 1
  ones-lit i l = let k : i < n = omega (arith, l, ones-many) in get_or-take n (ones N) i 0 k ∙ get_or-replicate N i 1 0 (omega arith)

-- a number of flags is told by its eighth
eighth : (F L : ℕ) → (eqb (F % 8) 0 && eqb (F / 8) L) ≡ eqb F (8 * L)
eighth F L = go (ℕ_discrete F (8 * L)) (ℕ_discrete (F % 8) 0)
  where
    go : Dec (F ≡ 8 * L) → Dec (F % 8 ≡ 0) → (eqb (F % 8) 0 && eqb (F / 8) L) ≡ eqb F (8 * L)
    go (yes e) d = both (eq-eqb (F % 8) 0 (omega arith)) (eq-eqb (F / 8) L (omega arith)) ∙ sym (eq-eqb F (8 * L) e)
    go (no n) (no z) = ap (λ (t : Bool). t && eqb (F / 8) L) (ne_eqb (F % 8) 0 z) ∙ sym (ne_eqb F (8 * L) n)
    go (no n) (yes z) =
        (λ i. eq-eqb (F % 8) 0 z i && ne_eqb (F / 8) L (λ e. n (omega arith)) i) ∙ sym (ne_eqb F (8 * L) n)

three : (a b c : Bool) → (a && (b && c)) ≡ ((a && b) && c)
three true b c = refl
three false b c = refl

-- the door
module _ (p : Panel) (r : Registers) (mem rom flags frame : List ℕ) {a b : Bool} (i : a ≡ valid_panel p) (j : b ≡ valid_registers r) where
  abbrev opened : Bool → Bool → Painted
  opened v f =
      cond v (cond f (painted (reply_of 0) (joined (8 * p.lines) (refreshed_row p r.display mem rom frame flags))) (painted (reply_of 2) frame)) (painted (reply_of 1) frame)

  opens : (v f : Bool) → (a && b) ≡ v → (lent_lengths mem rom && frame_fits p frame && flags_fit p flags) ≡ f → opened v f ≡ paint_flagged_of p r mem rom flags frame
  unfolding paint_flagged_of
  opens v f e h = sym (λ k. opened ((sym (λ t. i t && j t) ∙ e) k) (h k))

  -- as the code asks
  abbrev asked : ℕ → Bool
  asked S = lent_lengths mem rom && (eqb (length frame) S && (eqb (length flags % 8) 0 && eqb (length flags / 8) p.lines))

  module _ (e : (a && b) ≡ true) {S : ℕ} (m : S ≡ valid_size p (frame_size p)) where
    valid : valid_panel p ≡ true
    valid = sym i ∙ both_left a b e

    fit_is : (v : Bool) → asked S ≡ v → (lent_lengths mem rom && frame_fits p frame && flags_fit p flags) ≡ v
    fit_is v h =
        sym (three (lent_lengths mem rom) (frame_fits p frame) (flags_fit p flags))
        ∙ sym (λ k. lent_lengths mem rom && (eqb (length frame) (is-size p valid m k) && eighth (length flags) p.lines k)) ∙ h

    module _ (h : asked S ≡ true) where
      two : (lent_lengths mem rom && frame_fits p frame) ≡ true
      two = both_left (lent_lengths mem rom && frame_fits p frame) (flags_fit p flags) (fit_is true h)

      flags-many : length flags ≡ 8 * p.lines
      flags-many = eqb-true (length flags) (8 * p.lines) (both_right (lent_lengths mem rom && frame_fits p frame) (flags_fit p flags) (fit_is true h))

      pub flagged-drawable : Drawable p r.display mem
      flagged-drawable =
          drawable p r.display mem rom valid (both_left (valid_display r.display) (valid_bus r.bus) (sym j ∙ both_right a b e)) (both_left (lent_lengths mem rom) (frame_fits p frame) two)

      pub flagged-rom : length rom ≡ 1024
      flagged-rom = rom-long mem rom (both_left (lent_lengths mem rom) (frame_fits p frame) two)

      pub flagged-few : length flags ≤ 256
      flagged-few = omega (arith, flags-many, flagged-drawable.lines)

      module _ {R : ℕ} (n : R ≡ valid_size p (row_size p)) where
        pub flagged-row : R ≡ row_size p
        flagged-row = is-size p valid n

        pub flagged-long : length frame ≡ length flags * R
        flagged-long =
            eqb-true (length frame) (8 * p.lines * row_size p) (both_right (lent_lengths mem rom) (frame_fits p frame) two) ∙ (λ k. sym flags-many k * sym flagged-row k)

        pub flagged-0 : {f : List ℕ} → f ≡ joined (length flags) (some_row p r.display mem rom 0 R flags frame) → painted (reply_of 0) f ≡ paint_flagged_of p r mem rom flags frame
        flagged-0 u =
            (λ k. painted (reply_of 0)
            ((u ∙ (λ k. joined (flags-many k) (some_row p r.display mem rom 0 (flagged-row k) flags frame))
            ∙ joined-cong (8 * p.lines) (some_row p r.display mem rom 0 (row_size p) flags frame) (refreshed_row p r.display mem rom frame flags)
            (λ i l. ap (λ (q : ℕ). cond (eqb (get_or flags i 0) 0) (take (row_size p) (drop (i * row_size p) frame)) (row_of p r.display mem rom q)) (let o : 0 + i ≡ i = omega arith in o))) k))
            ∙ opens true true e (fit_is true h)

  -- turned away
  pub flagged-no : {S : ℕ} (t : Refusal) → S ≡ valid_size p (frame_size p) → number_of t ≡ cond (a && b) (cond (asked S) 0 2) 1 → painted (reply_of (number_of t)) frame ≡ paint_flagged_of p r mem rom flags frame
  flagged-no {S} t m e =
      turned-away (a && b) (asked S) t (λ k. painted (reply_of k) frame) e
      (λ v. opens false (lent_lengths mem rom && frame_fits p frame && flags_fit p flags) v refl)
      (λ v f. opens true false v (fit_is v m false f))

-- every row flagged
module _ (p : Panel) (r : Registers) (mem rom frame : List ℕ) (n : ℕ) (few : n ≡ min p.lines 32) where
  abbrev all : List ℕ
  all = take (8 * n) (ones 256)

  pub painted-all : {x : Reply} {f : List ℕ} → painted x f ≡ paint_flagged_of p r mem rom all frame → painted x f ≡ paint_of p r mem rom frame
  unfolding paint_flagged_of paint_of
  painted-all h = h ∙ go (valid_panel p && valid_registers r) refl
    where
      ends : Bool → Bool → List ℕ → Painted
      ends v f l = cond v (cond f (painted (reply_of 0) l) (painted (reply_of 2) frame)) (painted (reply_of 1) frame)

      beside : (f : Bool) → (f && true) ≡ f
      beside true = refl
      beside false = refl

      go : (v : Bool) → (valid_panel p && valid_registers r) ≡ v
          → ends v (lent_lengths mem rom && frame_fits p frame && flags_fit p all) (joined (8 * p.lines) (refreshed_row p r.display mem rom frame all))
          ≡ ends v (lent_lengths mem rom && frame_fits p frame) (frame_of p r.display mem rom)
      go false e = refl
      go true e =
          let same : n ≡ p.lines = let h = panelled p (both_left (valid_panel p) (valid_registers r) e) in omega (arith, few, h.lines) in
          let most : 8 * n ≤ 256 = omega (arith, few) in
          let many : length all ≡ 8 * p.lines = ones-many 256 (8 * n) most ∙ ap (λ (m : ℕ). 8 * m) same in
          (λ i.
          ends true ((ap (λ (t : Bool). lent_lengths mem rom && frame_fits p frame && t) (eq-eqb (length all) (8 * p.lines) many) ∙ beside (lent_lengths mem rom && frame_fits p frame)) i)
          (all-rows p r.display mem rom
          (joined-cong (8 * p.lines) (refreshed_row p r.display mem rom frame all) (λ j. row_of p r.display mem rom (0 + j))
          (λ j l.
          (λ q. cond (eqb (ones-lit 256 (8 * n) most j (omega (arith, l, many)) q) 0) (take (row_size p) (drop (j * row_size p) frame)) (row_of p r.display mem rom j))
          ∙ ap (row_of p r.display mem rom) (let o : j ≡ 0 + j = omega arith in o))) i))
