-- What a screen's text rests on, and the whole text.
use mathlib.Core.Path.{◌≡◌, refl, ap, sym, ◌∙◌}
use mathlib.Core.Bool.{Bool, true, false, cond, ◌&&◌}
use mathlib.Core.List.{List, [], ◌++◌, append-nil}
use Prim.Native.Nat.{ℕ, ◌+◌, ◌*◌, ◌≤◌}
use native.Mathlib.Decide.{ℕ_discrete}
use native.Mathlib.Omega.{arith}
use lib.Dec.{leb, eqb}
use lib.ListN.{length, take, replicate, length-replicate}
use lib.Seq.{length-take-le}
use borrow.Author.Tests.{leb-true, eqb-true, eq-eqb, ne_eqb}
use Rattle.ground.specs.Packing.{row_bytes}
use Rattle.ground.proofs.Tests.{both_left, both_right}
use Rattle.state.specs.State.{valid_panel}
use Rattle.state.specs.Sizes.{frame_fits}
use Rattle.state.proofs.Valid.{Panelled, panelled}
use Rattle.state.specs.declared.panel.Panel.{Panel}
use Rattle.printed.specs.Put.{TextPut}
use Rattle.printed.specs.Printed.{frame_lines, printed, print_text}
use Rattle.printed.specs.Screen.{screen_lines, framed, lent_screen, print_picture_of, print_rehearsal_of}
use Rattle.printed.specs.Parts.{print_rows_of}
use Rattle.printed.proofs.Prints.{lines-few, frame-lines-length}
use Rattle.printed.proofs.Puts.{put_same, put_both}
use Rattle.printed.proofs.Texts.{printed-none, printed-over, printed-settled}

module _ (p : Panel) (number : ℕ) (frame : List ℕ) where
  -- the test, by what it found
  pub framed-refused : (number ≡ 0 → ⊥) → true ≡ framed p number frame
  framed-refused nz = sym (ap (λ (t : Bool). cond t (valid_panel p && frame_fits p frame) true) (ne_eqb number 0 nz))

  module _ (z : number ≡ 0) where
    framed-by : framed p number frame ≡ (valid_panel p && frame_fits p frame)
    framed-by = ap (λ (t : Bool). cond t (valid_panel p && frame_fits p frame) true) (eq-eqb number 0 z)

    module _ (h : framed p number frame ≡ true) where
      pub framed-panel : Panelled p
      framed-panel = panelled p (both_left (valid_panel p) (frame_fits p frame) (sym framed-by ∙ h))

      pub framed-length : length frame ≡ 8 * p.lines * row_bytes p.columns p.width
      framed-length =
          eqb-true (length frame) (8 * p.lines * row_bytes p.columns p.width)
          (both_right (valid_panel p) (frame_fits p frame) (sym framed-by ∙ h))

  pub rows_none : (number ≡ 0 → ⊥) → (a : List ℕ) (at : ℕ) → TextPut a at (screen_lines p number frame) a at
  rows_none nz a at =
      put_same (sym (ap (λ (t : Bool). cond t (frame_lines p frame) []) (ne_eqb number 0 nz))) (record { holds = refl; ends = omega arith })

-- a refused screen's text is its line
pub line-alone : (p : Panel) (number : ℕ) (frame line : List ℕ) → (number ≡ 0 → ⊥) → line ++ screen_lines p number frame ≡ line
line-alone p number frame line nz =
    ap (λ (t : Bool). line ++ cond t (frame_lines p frame) []) (ne_eqb number 0 nz) ∙ append-nil line

-- a frame of its panel's length may be printed; none is asked of a refusal
pub may-print : (p : Panel) (number : ℕ) (frame : List ℕ) → (number ≡ 0 → (valid_panel p && frame_fits p frame) ≡ true) → framed p number frame ≡ true
may-print p number frame h = go (ℕ_discrete number 0)
  where
    go : Dec (number ≡ 0) → framed p number frame ≡ true
    go (yes z) = ap (λ (t : Bool). cond t (valid_panel p && frame_fits p frame) true) (eq-eqb number 0 z) ∙ h z
    go (no nz) = sym (framed-refused p number frame nz)

-- a part of a blank array
pub cut : (n m : ℕ) → n ≤ m → length {A = ℕ} (take n (replicate m 0)) ≡ n
cut n m h = length-take-le n (replicate m 0) (omega (arith, length-replicate {0} {A = ℕ} m 0))

-- any line, with the rows behind it
module _ (p : Panel) (number : ℕ) (frame out line : List ℕ) {t : Bool} (i : t ≡ framed p number frame) where
  lent_is : (v : Bool) → (t && eqb (length out) 196608) ≡ v → lent_screen p number frame out ≡ v
  lent_is v h = ap (λ (b : Bool). b && eqb (length out) 196608) (sym i) ∙ h

  pub screen-none : (t && eqb (length out) 196608) ≡ false → printed 0 out ≡ print_text (lent_screen p number frame out) (line ++ screen_lines p number frame) out
  screen-none h = printed-none (lent_screen p number frame out) (line ++ screen_lines p number frame) out (lent_is false h)

  module _ (h : (t && eqb (length out) 196608) ≡ true) where
    pub screen-room : length out ≡ 196608
    screen-room = eqb-true (length out) 196608 (both_right t _ h)

    pub screen-all : {b c : List ℕ} {w e : ℕ} → TextPut out 0 line b w → TextPut b w (screen_lines p number frame) c e → e ≤ 196608
        → {after : List ℕ} → after ≡ c → printed e after ≡ print_text (lent_screen p number frame out) (line ++ screen_lines p number frame) out
    screen-all x y s f =
        printed-over (lent_screen p number frame out) (line ++ screen_lines p number frame) out (lent_is true h) (put_both x y)
        (omega (arith, screen-room)) f

-- the rows alone
module _ (p : Panel) (frame out : List ℕ) {t : Bool} (i : t ≡ framed p 0 frame) where
  rows-lent : (v : Bool) → (t && leb 164096 (length out)) ≡ v → (valid_panel p && frame_fits p frame && leb 164096 (length out)) ≡ v
  rows-lent v h = ap (λ (b : Bool). b && leb 164096 (length out)) (sym i) ∙ h

  pub rows-unprinted : (t && leb 164096 (length out)) ≡ false → printed 0 out ≡ print_rows_of p frame out
  unfolding print_rows_of
  rows-unprinted h =
      printed-none (valid_panel p && frame_fits p frame && leb 164096 (length out)) (frame_lines p frame) out (rows-lent false h)

  module _ (h : (t && leb 164096 (length out)) ≡ true) where
    pub rows-panel : Panelled p
    rows-panel = framed-panel p 0 frame refl (sym i ∙ both_left t _ h)

    pub rows-length : length frame ≡ 8 * p.lines * row_bytes p.columns p.width
    rows-length = framed-length p 0 frame refl (sym i ∙ both_left t _ h)

    pub rows-room : 8 * p.lines * (p.columns * p.width + 1) ≤ length out
    rows-room = omega (arith, leb-true 164096 (length out) (both_right t _ h), lines-few p rows-panel)

    pub rows-printed : {b : List ℕ} {w : ℕ} → TextPut out 0 (frame_lines p frame) b w → {after : List ℕ} → after ≡ b → printed w after ≡ print_rows_of p frame out
    unfolding print_rows_of
    rows-printed x e =
        printed-over (valid_panel p && frame_fits p frame && leb 164096 (length out)) (frame_lines p frame) out (rows-lent true h) x
        (omega (arith, x.ends, frame-lines-length p frame, rows-room)) e

-- two replies that meet a promise are equal
pub print-picture-settled : {n k : ℕ} {b c : List ℕ} (p : Panel) (number place : ℕ) (frame out : List ℕ)
    → printed n b ≡ print_picture_of p number place frame out → printed k c ≡ print_picture_of p number place frame out → (n ≡ k) × (b ≡ c)
print-picture-settled p number place frame out h k = printed-settled h k

pub print-rehearsal-settled : {n k : ℕ} {b c : List ℕ} (p : Panel) (pairs number place : ℕ) (frame out : List ℕ)
    → printed n b ≡ print_rehearsal_of p pairs number place frame out → printed k c ≡ print_rehearsal_of p pairs number place frame out → (n ≡ k) × (b ≡ c)
print-rehearsal-settled p pairs number place frame out h k = printed-settled h k
