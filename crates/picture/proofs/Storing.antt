-- The rows of a rectangle, filled one after the other.
use mathlib.Core.Path.{◌≡◌, refl, ap, sym, ◌∙◌}
use mathlib.Core.List.{List}
use Prim.Native.Nat.{ℕ, zero, suc, ◌+◌, ◌-◌, ◌*◌, ◌<◌, ◌≤◌}
use native.Mathlib.Omega.{arith}
use lib.ListN.{length, replicate}
use lib.Seq.{sets, length-sets}
use Rattle.state.specs.declared.panel.Panel.{Panel}
use Rattle.picture.specs.Picture.{filled}

-- the rows of a rectangle, with those from a row on still to be filled in b
module _ (p : Panel) (top column height width value : ℕ) where
  pub record Filling (a b : List ℕ) (row : ℕ) : Type 0 where
    pub below : top ≤ row
    pub upto : row ≤ top + height
    pub rest : filled p row column (top + height - row) width value b ≡ filled p top column height width value a
    pub kept : length b ≡ length a

  pub filling : (a : List ℕ) → Filling a a top
  filling a =
      let d : top + height - top ≡ height = omega arith in
      record { below = omega arith; upto = omega arith; rest = λ q. filled p top column (d q) width value a; kept = refl }

  module _ {a b : List ℕ} {row : ℕ} (k : Filling a b row) where
    pub filling-on : {c : List ℕ} → row < top + height → c ≡ sets b (row * p.columns + column) (replicate width value) → Filling a c (row + 1)
    unfolding filled
    filling-on {c} h e =
        let m : top + height - row ≡ suc (top + height - (row + 1)) = omega arith in
        let s : suc row ≡ row + 1 = omega arith in
        record {
          below = omega (arith, k.below);
          upto = omega arith;
          rest = ap (filled p (row + 1) column (top + height - (row + 1)) width value) e
              ∙ ap (λ (t : ℕ). filled p t column (top + height - (row + 1)) width value (sets b (row * p.columns + column) (replicate width value))) (sym s)
              ∙ ap (λ (t : ℕ). filled p row column t width value b) (sym m)
              ∙ k.rest;
          kept = ap length e ∙ length-sets b (row * p.columns + column) (replicate width value) ∙ k.kept;
        }

    pub filling-over : top + height ≤ row → b ≡ filled p top column height width value a
    unfolding filled
    filling-over h =
        let m : top + height - row ≡ 0 = omega arith in
        sym (ap (λ (t : ℕ). filled p row column t width value b) m) ∙ k.rest

-- a rectangle keeps the plane's length
pub filled-length : (p : Panel) (height top column width value : ℕ) (g : List ℕ) → length (filled p top column height width value g) ≡ length g
unfolding filled
filled-length p zero top column width value g = refl
filled-length p (suc height) top column width value g =
    filled-length p height (suc top) column width value (sets g (top * p.columns + column) (replicate width value))
    ∙ length-sets g (top * p.columns + column) (replicate width value)
