-- Planes at their homes with what lies between them, and what a store into one of them does.
use mathlib.Core.Path.{◌≡◌, ap, ◌∙◌}
use mathlib.Core.List.{List, ◌++◌}
use Prim.Native.Nat.{ℕ, ◌+◌, ◌≤◌, ◌<◌}
use native.Mathlib.Nat.{add-zero}
use native.Mathlib.Omega.{arith}
use lib.ListN.{length, get_or, set, get_or-append}
use lib.Seq.{sets, set-append_left, get_or-append-add}
use Rattle.ground.specs.Lists.{stored}
use Rattle.writer.specs.Homes.{graphic_home, glyph_home}
use Rattle.ground.proofs.Stores.{stored-sets, sets-before, sets_behind, sets-all}

-- graphic plane, text plane and glyphs; g and h are what lies between
unfoldable pub laid : List ℕ → List ℕ → List ℕ → List ℕ → List ℕ → List ℕ
laid g h a t c = a ++ (g ++ (t ++ (h ++ c)))

-- lengths that put the text plane at this home and the glyphs at theirs
pub record Fits (home : ℕ) (g h a t c : List ℕ) : Type 0 where
  pub text_at : length a + length g ≡ home
  pub glyphs_at : home + (length t + length h) ≡ glyph_home
  pub glyphs : length c ≡ 1024

module _ {home : ℕ} (g h a t c : List ℕ) (k : Fits home g h a t c) where
  sets-graphic : (i : ℕ) (vs : List ℕ) → i + length vs ≤ length a → sets (laid g h a t c) i vs ≡ laid g h (sets a i vs) t c
  unfolding laid
  sets-graphic i vs l = sets-before vs a _ i l

  sets-text : (i : ℕ) (vs : List ℕ) → i + length vs ≤ length t → sets (laid g h a t c) (home + i) vs ≡ laid g h a (sets t i vs) c
  unfolding laid
  sets-text i vs l =
      let e : home + i ≡ length a + (length g + i) = omega (arith, k.text_at) in
      ap (λ (n : ℕ). sets (a ++ (g ++ (t ++ (h ++ c)))) n vs) e
      ∙ sets_behind vs a _ (length g + i)
      ∙ ap (λ (x : List ℕ). a ++ x) (sets_behind vs g _ i)
      ∙ ap (λ (x : List ℕ). a ++ (g ++ x)) (sets-before vs t _ i l)

  sets-glyphs : (i : ℕ) (vs : List ℕ) → sets (laid g h a t c) (glyph_home + i) vs ≡ laid g h a t (sets c i vs)
  unfolding laid
  sets-glyphs i vs =
      let e : glyph_home + i ≡ length a + (length g + (length t + (length h + i))) = omega (arith, k.text_at, k.glyphs_at) in
      ap (λ (n : ℕ). sets (a ++ (g ++ (t ++ (h ++ c)))) n vs) e
      ∙ sets_behind vs a _ (length g + (length t + (length h + i)))
      ∙ ap (λ (x : List ℕ). a ++ x) (sets_behind vs g _ (length t + (length h + i)))
      ∙ ap (λ (x : List ℕ). a ++ (g ++ x)) (sets_behind vs t _ (length h + i))
      ∙ ap (λ (x : List ℕ). a ++ (g ++ (t ++ x))) (sets_behind vs h _ i)

  pub store-graphic : (i : ℕ) (vs : List ℕ) → i + length vs ≤ length a → stored (laid g h a t c) i vs ≡ laid g h (sets a i vs) t c
  store-graphic i vs l = stored-sets vs _ i (omega (arith, k.text_at, k.glyphs_at)) ∙ sets-graphic i vs l

  pub store-text : (i : ℕ) (vs : List ℕ) → i + length vs ≤ length t → stored (laid g h a t c) (home + i) vs ≡ laid g h a (sets t i vs) c
  store-text i vs l = stored-sets vs _ (home + i) (omega (arith, k.glyphs_at)) ∙ sets-text i vs l

  pub store-glyphs : (i : ℕ) (vs : List ℕ) → i + length vs ≤ 1024 → stored (laid g h a t c) (glyph_home + i) vs ≡ laid g h a t (sets c i vs)
  store-glyphs i vs l = stored-sets vs _ (glyph_home + i) (omega arith) ∙ sets-glyphs i vs

  pub set-graphic : (i v : ℕ) → i < length a → set (laid g h a t c) i v ≡ laid g h (set a i v) t c
  unfolding laid
  set-graphic i v l = set-append_left a _ i v l

  pub graphic-at : (i : ℕ) → i < length a → get_or (laid g h a t c) i 0 ≡ get_or a i 0
  unfolding laid
  graphic-at i l = get_or-append a _ 0 i l

  pub text_at : (i : ℕ) → i < length t → get_or (laid g h a t c) (home + i) 0 ≡ get_or t i 0
  unfolding laid
  text_at i l =
      let e : home + i ≡ length a + (length g + i) = omega (arith, k.text_at) in
      ap (λ (n : ℕ). get_or (a ++ (g ++ (t ++ (h ++ c)))) n 0) e
      ∙ get_or-append-add a _ (length g + i) 0 ∙ get_or-append-add g _ i 0 ∙ get_or-append t _ 0 i l

  pub glyph-at : (i : ℕ) → get_or (laid g h a t c) (glyph_home + i) 0 ≡ get_or c i 0
  unfolding laid
  glyph-at i =
      let e : glyph_home + i ≡ length a + (length g + (length t + (length h + i))) = omega (arith, k.text_at, k.glyphs_at) in
      ap (λ (n : ℕ). get_or (a ++ (g ++ (t ++ (h ++ c)))) n 0) e
      ∙ get_or-append-add a _ (length g + (length t + (length h + i))) 0 ∙ get_or-append-add g _ (length t + (length h + i)) 0
      ∙ get_or-append-add t _ (length h + i) 0 ∙ get_or-append-add h _ i 0

-- three other planes of the same lengths, stored over these
pub stored-over : {home : ℕ} (g h a t c b u d : List ℕ) → Fits home g h a t c → length b ≡ length a → length u ≡ length t → length d ≡ length c
    → sets (sets (sets (laid g h a t c) graphic_home b) home u) glyph_home d ≡ laid g h b u d
stored-over {home} g h a t c b u d k i j l =
    let k₁ : Fits home g h b t c = record { text_at = omega (arith, k.text_at); glyphs_at = k.glyphs_at; glyphs = k.glyphs } in
    let k₂ : Fits home g h b u c = record { text_at = k₁.text_at; glyphs_at = omega (arith, k.glyphs_at); glyphs = k.glyphs } in
    ap (λ (m : List ℕ). sets (sets m home u) glyph_home d) (sets-graphic g h a t c k 0 b (omega arith) ∙ ap (λ (x : List ℕ). laid g h x t c) (sets-all a b i))
    ∙ ap (λ (m : List ℕ). sets m glyph_home d) ((rw add-zero at (sets-text g h b t c k₁ 0 u (omega arith))) ∙ ap (λ (x : List ℕ). laid g h b x c) (sets-all t u j))
    ∙ sets-glyphs g h b u c k₂ 0 d ∙ ap (λ (x : List ℕ). laid g h b u x) (sets-all c d l)
