-- Stores into a plane that leave all but the places they use alone, and that show at a place only what stood there: two such may change places.
use mathlib.Core.Path.{◌≡◌, refl, sym, ap, ◌∙◌}
use mathlib.Core.Bool.{Bool, true, false, true≢false}
use mathlib.Core.List.{List, [], ◌∷◌}
use Prim.Native.Nat.{ℕ, zero, suc, ◌+◌, ◌*◌, ◌<◌, ◌≤◌}
use native.Mathlib.Decide.{ℕ_discrete, dec_lt}
use native.Mathlib.Omega.{arith}
use lib.ListN.{length, get_or, set, replicate, length-set, length-replicate}
use lib.Seq.{sets, set_out, get_or-set_same, get_or-set_other, ext_get_or}
use Rattle.state.specs.declared.panel.Panel.{Panel}
use Rattle.picture.specs.Picture.{filled}

pub record Stores (used : ℕ → Bool) (F : List ℕ → List ℕ) : Type 0 where
  pub long : (g : List ℕ) → length (F g) ≡ length g
  pub outside : (g : List ℕ) (i : ℕ) → used i ≡ false → get_or (F g) i 0 ≡ get_or g i 0
  pub local : (g h : List ℕ) (i : ℕ) → length g ≡ length h → get_or g i 0 ≡ get_or h i 0 → get_or (F g) i 0 ≡ get_or (F h) i 0

-- those that use no place in common
pub stores-swap : {P Q : ℕ → Bool} {F G : List ℕ → List ℕ} → Stores P F → Stores Q G → ((i : ℕ) → P i ≡ true → Q i ≡ false)
    → (g : List ℕ) → G (F g) ≡ F (G g)
stores-swap {P} {Q} {F} {G} x y apart g =
    ext_get_or 0 (G (F g)) (F (G g)) (y.long (F g) ∙ x.long g ∙ sym (x.long (G g) ∙ y.long g)) (λ i l. at i (P i) refl)
  where
    at : (i : ℕ) (b : Bool) → P i ≡ b → get_or (G (F g)) i 0 ≡ get_or (F (G g)) i 0
    at i true e = y.outside (F g) i (apart i e) ∙ x.local g (G g) i (sym (y.long g)) (sym (y.outside g i (apart i e)))
    at i false e = y.local (F g) g i (x.long g) (x.outside g i e) ∙ sym (x.outside (G g) i e)

module _ (used : ℕ → Bool) where
  pub stores-none : Stores used (λ g. g)
  stores-none = record { long = λ g. refl; outside = λ g i e. refl; local = λ g h i l e. e }

  pub stores_both : {F G : List ℕ → List ℕ} → Stores used F → Stores used G → Stores used (λ g. G (F g))
  stores_both {F} {G} x y =
      record {
        long = λ g. y.long (F g) ∙ x.long g;
        outside = λ g i e. y.outside (F g) i e ∙ x.outside g i e;
        local = λ g h i l e. y.local (F g) (F h) i (x.long g ∙ l ∙ sym (x.long h)) (x.local g h i l e);
      }

  -- one place, by what stood there
  pub stores_one : (k : ℕ) (f : ℕ → ℕ) → used k ≡ true → Stores used (λ g. set g k (f (get_or g k 0)))
  stores_one k f u =
      record {
        long = λ g. length-set g k (f (get_or g k 0));
        outside = λ g i e. get_or-set_other g k i (f (get_or g k 0)) 0 (λ q. true≢false (sym u ∙ ap used (sym q) ∙ e));
        local = λ g h i l e. at g h i l e (ℕ_discrete i k) (dec_lt k (length g));
      }
    where
      at : (g h : List ℕ) (i : ℕ) → length g ≡ length h → get_or g i 0 ≡ get_or h i 0 → Dec (i ≡ k) → Dec (k < length g)
          → get_or (set g k (f (get_or g k 0))) i 0 ≡ get_or (set h k (f (get_or h k 0))) i 0
      at g h i l e (no n) d = get_or-set_other g k i _ 0 n ∙ e ∙ sym (get_or-set_other h k i _ 0 n)
      at g h i l e (yes q) (yes d) =
          ap (λ (j : ℕ). get_or (set g k (f (get_or g k 0))) j 0) q
          ∙ get_or-set_same g k _ 0 d
          ∙ ap f (ap (λ (j : ℕ). get_or g j 0) (sym q) ∙ e ∙ ap (λ (j : ℕ). get_or h j 0) q)
          ∙ sym (ap (λ (j : ℕ). get_or (set h k (f (get_or h k 0))) j 0) q ∙ get_or-set_same h k _ 0 (omega arith))
      at g h i l e (yes q) (no d) =
          ap (λ (x : List ℕ). get_or x i 0) (set_out g k _ (omega arith)) ∙ e ∙ sym (ap (λ (x : List ℕ). get_or x i 0) (set_out h k _ (omega arith)))

  pub stores-sets : (vs : List ℕ) (k : ℕ) → ((i : ℕ) → k ≤ i → i < k + length vs → used i ≡ true) → Stores used (λ g. sets g k vs)
  stores-sets [] k u = stores-none
  stores-sets (v ∷ vs) k u =
      stores_both (stores_one k (λ _. v) (u k (omega arith) (omega arith)))
      (stores-sets vs (suc k) (λ i l m. u i (omega arith) (omega arith)))

  -- the rows of a rectangle
  pub stores-filled : (p : Panel) (height top column width value : ℕ)
      → ((r i : ℕ) → top ≤ r → r < top + height → r * p.columns + column ≤ i → i < r * p.columns + column + width → used i ≡ true)
      → Stores used (filled p top column height width value)
  unfolding filled
  stores-filled p zero top column width value u = stores-none
  stores-filled p (suc height) top column width value u =
      stores_both
      (stores-sets (replicate width value) (top * p.columns + column)
      (λ i l m. u top i (omega arith) (omega arith) l (omega (arith, length-replicate width value))))
      (stores-filled p height (suc top) column width value (λ r i a b l m. u r i (omega arith) (omega arith) l m))
