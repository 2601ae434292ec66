-- A refresh: the flagged rows painted, the others' stretches as they were, and the flags cleared.
use mathlib.Core.Path.{◌≡◌, refl, ap, sym, ◌∙◌}
use mathlib.Core.Bool.{Bool, true, false, cond, ◌&&◌}
use mathlib.Core.List.{List}
use Prim.Native.Nat.{ℕ, suc, ◌+◌, ◌*◌, ◌<◌, ◌≤◌}
use native.Mathlib.Nat.{mul-le-mul_right, suc-mul}
use native.Mathlib.Omega.{arith}
use lib.Dec.{ltb, eqb}
use lib.ListN.{length, get_or, take, drop, length-take, length-drop}
use borrow.Author.Tests.{ltb-true, eqb-true}
use Rattle.ground.specs.Lists.{joined}
use Rattle.ground.proofs.Tests.{both_right}
use Rattle.state.specs.State.{valid_panel, valid_registers}
use Rattle.state.specs.Sizes.{row_size}
use Rattle.display.specs.Frame.{row_of, lent_lengths, frame_fits, reply_of, Painted, painted}
use Rattle.display.specs.Flagged.{flags_fit, stretch_of, refreshed_row, paint_flagged_of}
use Rattle.display.proofs.OneRows.{row-length}
use Rattle.flags.specs.Types.{Panel, Display, Registers, Reply}
use Rattle.flags.specs.Flags.{all_clear}
use Rattle.flags.specs.Follow.{refreshed, refresh_of}

module _ (p : Panel) (d : Display) (mem rom frame₀ flags : List ℕ) (R : ℕ) where
  -- a row of the panel as it is refreshed; behind the panel any row of that length
  abbrev pub row_in : ℕ → List ℕ
  row_in r = cond (ltb r (8 * p.lines)) (refreshed_row p d mem rom frame₀ flags r) (row_of p d mem rom r)

  module _ (e : R ≡ row_size p) (long : length frame₀ ≡ 8 * p.lines * R) where
    stretch-long : (r : ℕ) → r < 8 * p.lines → length (stretch_of p frame₀ r) ≡ R
    stretch-long r h =
        let a : suc r * R ≤ 8 * p.lines * R = mul-le-mul_right R h in
        let b : suc r * R ≡ r * R + R = suc-mul r R in
        ap (λ (n : ℕ). length (take n (drop (r * n) frame₀))) (sym e)
        ∙ simp (length-take, length-drop) (omega (arith, a, b, long))

    pub sized : (r : ℕ) → length (row_in r) ≡ R
    sized r = go (ltb r (8 * p.lines)) refl (eqb (get_or flags r 0) 0)
      where
        go : (t : Bool) → ltb r (8 * p.lines) ≡ t → (u : Bool) → length (cond t (cond u (stretch_of p frame₀ r) (row_of p d mem rom r)) (row_of p d mem rom r)) ≡ R
        go true h true = stretch-long r (ltb-true r (8 * p.lines) h)
        go true h false = row-length p d mem rom r ∙ sym e
        go false h u = row-length p d mem rom r ∙ sym e

-- the frame's flagged rows painted, and the flags then
module _ (p : Panel) (r : Registers) (mem rom frame flags : List ℕ) {x : Reply} {f : List ℕ} (k : painted x f ≡ paint_flagged_of p r mem rom flags frame) where
  abbrev rows : List ℕ
  rows = joined (8 * p.lines) (refreshed_row p r.display mem rom frame flags)

  -- no number but 0: all clear
  pub refresh-0 : {l : List ℕ} → x.number ≡ 0 → l ≡ all_clear (length flags) → refreshed x f l ≡ refresh_of p r mem rom frame flags
  unfolding paint_flagged_of refresh_of
  refresh-0 {l} z c = go (valid_panel p && valid_registers r) (lent_lengths mem rom && frame_fits p frame && flags_fit p flags) refl k
    where
      go : (v t : Bool) → (lent_lengths mem rom && frame_fits p frame && flags_fit p flags) ≡ t
          → painted x f ≡ cond v (cond t (painted (reply_of 0) rows) (painted (reply_of 2) frame)) (painted (reply_of 1) frame)
          → refreshed x f l ≡ cond v (cond t (refreshed (reply_of 0) rows (all_clear (8 * p.lines))) (refreshed (reply_of 2) frame flags)) (refreshed (reply_of 1) frame flags)
      go true true h e =
          let m : length flags ≡ 8 * p.lines = eqb-true (length flags) (8 * p.lines) (both_right (lent_lengths mem rom && frame_fits p frame) (flags_fit p flags) h) in
          λ i. refreshed (e i).reply (e i).frame ((c ∙ ap all_clear m) i)
      go true false h e = absurd (let y : x.number ≡ 2 = ap (λ (o : Painted). o.reply.number) e in omega (arith, y, z))
      go false t h e = absurd (let y : x.number ≡ 1 = ap (λ (o : Painted). o.reply.number) e in omega (arith, y, z))

  -- refused: as they were
  pub refresh-no : (x.number ≡ 0 → ⊥) → refreshed x f flags ≡ refresh_of p r mem rom frame flags
  unfolding paint_flagged_of refresh_of
  refresh-no z = go (valid_panel p && valid_registers r) (lent_lengths mem rom && frame_fits p frame && flags_fit p flags) k
    where
      go : (v t : Bool) → painted x f ≡ cond v (cond t (painted (reply_of 0) rows) (painted (reply_of 2) frame)) (painted (reply_of 1) frame)
          → refreshed x f flags ≡ cond v (cond t (refreshed (reply_of 0) rows (all_clear (8 * p.lines))) (refreshed (reply_of 2) frame flags)) (refreshed (reply_of 1) frame flags)
      go true true e = absurd (z (ap (λ (o : Painted). o.reply.number) e))
      go true false e = λ i. refreshed (e i).reply (e i).frame flags
      go false t e = λ i. refreshed (e i).reply (e i).frame flags
