-- What validity gives, as facts.
use Rattle.std.proofs.Common.{◌≡◌, ℕ, ◌%◌, ◌<◌, ◌≤◌, Bool, true, false, ◌&&◌, ◌||◌, eqb, ltb, leb, ◌⊎◌, sym, refl, ap, ◌∙◌, inl, inr, ⊎_elim, true≢false, arith, ltb-true, lt-ltb, eq-eqb, eqb-true, le-leb, leb-true}
use mathlib.Core.Bool.{false≢true}
use native.Mathlib.Decide.{dec_lt}
use Rattle.ground.proofs.Tests.{both, both_left, both_right, either}
use Rattle.state.specs.Types.{Panel, Cursor, Display, Pending, Bus}
use Rattle.state.specs.State.{lines_fit, valid_panel, valid_display, valid_bus}

-- a valid panel, as facts
pub record Panelled (p : Panel) : Type 0 where
  pub some_columns : 1 ≤ p.columns
  pub columns : p.columns ≤ 80
  pub some_lines : 1 ≤ p.lines
  pub lines : p.lines ≤ 32
  pub single : p.dual ≡ false → p.lines ≤ 16
  pub halves : p.dual ≡ true → p.lines % 2 ≡ 0
  pub width : (p.width ≡ 6) ⊎ (p.width ≡ 8)

-- lines that fit a kind of panel, as facts
pub record Lined (dual : Bool) (lines : ℕ) : Type 0 where
  pub some : 1 ≤ lines
  pub few : lines ≤ 32
  pub single : dual ≡ false → lines ≤ 16
  pub halves : dual ≡ true → lines % 2 ≡ 0

lined : (dual : Bool) (lines : ℕ) → lines_fit dual lines ≡ true → Lined dual lines
lined true lines e =
    let two : (leb 2 lines && leb lines 32) ≡ true = both_left _ (eqb (lines % 2) 0) e in
    let least : 2 ≤ lines = leb-true 2 lines (both_left _ (leb lines 32) two) in
    record {
      some = omega arith;
      few = leb-true lines 32 (both_right (leb 2 lines) _ two);
      single = λ f. absurd (true≢false f);
      halves = λ f. eqb-true (lines % 2) 0 (both_right (leb 2 lines && leb lines 32) _ e);
    }
lined false lines e =
    let most : lines ≤ 16 = leb-true lines 16 (both_right (leb 1 lines) _ e) in
    record {
      some = leb-true 1 lines (both_left _ (leb lines 16) e);
      few = omega arith;
      single = λ f. most;
      halves = λ f. absurd (false≢true f);
    }

pub panelled : (p : Panel) → valid_panel p ≡ true → Panelled p
panelled p e =
    let three : (leb 1 p.columns && leb p.columns 80 && lines_fit p.dual p.lines) ≡ true = both_left _ (eqb p.width 6 || eqb p.width 8) e in
    let two : (leb 1 p.columns && leb p.columns 80) ≡ true = both_left _ (lines_fit p.dual p.lines) three in
    let l : Lined p.dual p.lines = lined p.dual p.lines (both_right (leb 1 p.columns && leb p.columns 80) _ three) in
    record {
      some_columns = leb-true 1 p.columns (both_left _ (leb p.columns 80) two);
      columns = leb-true p.columns 80 (both_right (leb 1 p.columns) _ two);
      some_lines = l.some;
      lines = l.few;
      single = l.single;
      halves = l.halves;
      width = widths (either (eqb p.width 6) (eqb p.width 8) (both_right (leb 1 p.columns && leb p.columns 80 && lines_fit p.dual p.lines) _ e));
    }
  where
    widths : (eqb p.width 6 ≡ true) ⊎ (eqb p.width 8 ≡ true) → (p.width ≡ 6) ⊎ (p.width ≡ 8)
    widths (inl h) = inl (eqb-true p.width 6 h)
    widths (inr h) = inr (eqb-true p.width 8 h)

pub narrow : {p : Panel} → Panelled p → p.width ≤ 8
narrow q = ⊎_elim (λ e. omega arith) (λ e. omega arith) q.width

-- past a door that tests the panel first
pub past : (p : Panel) {a : Bool} (b : Bool) → a ≡ valid_panel p → (a && b) ≡ true → Panelled p
past p {a} b i e = panelled p (sym i ∙ both_left a b e)

-- a valid display group, as facts about the registers that can be out of range
pub record Displaying (k : Cursor) (o : ℕ) : Type 0 where
  pub x : k.x < 128
  pub y : k.y < 32
  pub offset : o < 32
  pub some_height : 1 ≤ k.height
  pub height : k.height ≤ 8

pub displaying : (d : Display) → valid_display d ≡ true → Displaying d.cursor d.offset
displaying d e =
    let four : (ltb d.cursor.x 128 && ltb d.cursor.y 32 && ltb d.offset 32 && leb 1 d.cursor.height) ≡ true = both_left _ (leb d.cursor.height 8) e in
    let three : (ltb d.cursor.x 128 && ltb d.cursor.y 32 && ltb d.offset 32) ≡ true = both_left _ (leb 1 d.cursor.height) four in
    let two : (ltb d.cursor.x 128 && ltb d.cursor.y 32) ≡ true = both_left _ (ltb d.offset 32) three in
    record {
      x = ltb-true d.cursor.x 128 (both_left _ (ltb d.cursor.y 32) two);
      y = ltb-true d.cursor.y 32 (both_right (ltb d.cursor.x 128) _ two);
      offset = ltb-true d.offset 32 (both_right (ltb d.cursor.x 128 && ltb d.cursor.y 32) _ three);
      some_height = leb-true 1 d.cursor.height (both_right (ltb d.cursor.x 128 && ltb d.cursor.y 32 && ltb d.offset 32) _ four);
      height = leb-true d.cursor.height 8 (both_right (ltb d.cursor.x 128 && ltb d.cursor.y 32 && ltb d.offset 32 && leb 1 d.cursor.height) _ e);
    }

pub display-valid : (d : Display) → Displaying d.cursor d.offset → valid_display d ≡ true
display-valid d k =
    both (both (both (both (lt-ltb d.cursor.x 128 k.x) (lt-ltb d.cursor.y 32 k.y)) (lt-ltb d.offset 32 k.offset))
    (le-leb 1 d.cursor.height k.some_height)) (le-leb d.cursor.height 8 k.height)

-- a valid bus group, as facts: of the places the unused hold 0
pub record Bussing (q : Pending) : Type 0 where
  pub count : q.count ≤ 2
  pub older : q.count < 2 → q.older ≡ 0
  pub newest : q.count < 1 → q.newest ≡ 0

pub bussing : (b : Bus) → valid_bus b ≡ true → Bussing b.pending
bussing b e =
    let two : (leb b.pending.count 2 && (eqb b.pending.older 0 || eqb b.pending.count 2)) ≡ true = both_left _ (eqb b.pending.newest 0 || leb 1 b.pending.count) e in
    record {
      count = leb-true b.pending.count 2 (both_left _ (eqb b.pending.older 0 || eqb b.pending.count 2) two);
      older = λ l. older-0 l (either (eqb b.pending.older 0) (eqb b.pending.count 2) (both_right (leb b.pending.count 2) _ two));
      newest = λ l. newest-0 l (either (eqb b.pending.newest 0) (leb 1 b.pending.count) (both_right (leb b.pending.count 2 && (eqb b.pending.older 0 || eqb b.pending.count 2)) _ e));
    }
  where
    older-0 : b.pending.count < 2 → (eqb b.pending.older 0 ≡ true) ⊎ (eqb b.pending.count 2 ≡ true) → b.pending.older ≡ 0
    older-0 l (inl h) = eqb-true b.pending.older 0 h
    older-0 l (inr h) = let f : b.pending.count ≡ 2 = eqb-true b.pending.count 2 h in absurd (omega arith)

    newest-0 : b.pending.count < 1 → (eqb b.pending.newest 0 ≡ true) ⊎ (leb 1 b.pending.count ≡ true) → b.pending.newest ≡ 0
    newest-0 l (inl h) = eqb-true b.pending.newest 0 h
    newest-0 l (inr h) = let f : 1 ≤ b.pending.count = leb-true 1 b.pending.count h in absurd (omega arith)

pub bus-valid : (b : Bus) → Bussing b.pending → valid_bus b ≡ true
bus-valid b k =
    both (both (le-leb b.pending.count 2 k.count) (go (dec_lt b.pending.count 2))) (on (dec_lt b.pending.count 1))
  where
    or-true : (a : Bool) → (a || true) ≡ true
    or-true true = refl
    or-true false = refl

    go : Dec (b.pending.count < 2) → (eqb b.pending.older 0 || eqb b.pending.count 2) ≡ true
    go (yes l) = ap (λ (t : Bool). t || eqb b.pending.count 2) (eq-eqb b.pending.older 0 (k.older l))
    go (no l) =
        let e : b.pending.count ≡ 2 = omega (arith, k.count) in
        ap (λ (t : Bool). eqb b.pending.older 0 || t) (eq-eqb b.pending.count 2 e) ∙ or-true (eqb b.pending.older 0)

    on : Dec (b.pending.count < 1) → (eqb b.pending.newest 0 || leb 1 b.pending.count) ≡ true
    on (yes l) = ap (λ (t : Bool). t || leb 1 b.pending.count) (eq-eqb b.pending.newest 0 (k.newest l))
    on (no l) =
        ap (λ (t : Bool). eqb b.pending.newest 0 || t) (le-leb 1 b.pending.count (omega arith)) ∙ or-true (eqb b.pending.newest 0)
