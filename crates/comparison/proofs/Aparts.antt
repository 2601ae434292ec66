-- Dots counted, one after the other, and rows added up.
use mathlib.Core.Path.{◌≡◌, refl, ap, sym, ◌∙◌}
use mathlib.Core.Bool.{Bool, true, false, cond, not}
use mathlib.Core.List.{List, ◌++◌}
use Prim.Native.Nat.{ℕ, zero, suc, ◌+◌, ◌-◌, ◌*◌, ◌/◌, ◌%◌, ◌<◌, ◌≤◌}
use native.Mathlib.Numerals.{add-one}
use native.Mathlib.Omega.{arith}
use lib.Dec.{eqb}
use lib.ListN.{length, get_or, take}
use lib.Seq.{get_or-take, take-append_seam}
use Rattle.ground.specs.Bytes.{bit_of}
use Rattle.state.specs.Sizes.{row_size, valid_size}
use Rattle.state.proofs.Sizes.{is-size, bytes-few, dots-few}
use Rattle.state.specs.State.{valid_panel}
use Rattle.display.specs.Frame.{dot_of, row_of, Painted, painted}
use Rattle.display.specs.OneRow.{paint_one_of}
use Rattle.display.specs.Types.{Reply}
use Rattle.display.proofs.OneRows.{row-length, row-dot, one-is}
use Rattle.comparison.specs.Types.{Panel, Display}
use Rattle.comparison.specs.Apart.{how_many, added_up, row_apart, dots_apart}
use Rattle.comparison.specs.Ready.{Paints}

pub many-few : (n : ℕ) (test : ℕ → Bool) → how_many n test ≤ n
unfolding how_many
many-few zero test = omega arith
many-few (suc n) test = go (test n) (many-few n test)
  where
    go : (t : Bool) → how_many n test ≤ n → how_many n test + cond t 1 0 ≤ suc n
    go true h = omega arith
    go false h = omega arith

many-cong : (n : ℕ) (f g : ℕ → Bool) → ((x : ℕ) → x < n → f x ≡ g x) → how_many n f ≡ how_many n g
unfolding how_many
many-cong zero f g h = refl
many-cong (suc n) f g h = λ i. many-cong n f g (λ x l. h x (omega arith)) i + cond (h n (omega arith) i) 1 0

pub many-none : (n : ℕ) (test : ℕ → Bool) → ((x : ℕ) → test x ≡ false) → how_many n test ≡ 0
unfolding how_many
many-none zero test h = refl
many-none (suc n) test h = λ i. many-none n test h i + cond (h n i) 1 0

pub added_none : (n : ℕ) (f : ℕ → ℕ) → ((x : ℕ) → f x ≡ 0) → added_up n f ≡ 0
unfolding added_up
added_none zero f h = refl
added_none (suc n) f h = λ i. added_none n f h i + h n i

turned : (t : Bool) → ◌≡◌ {A = ℕ} (cond (not t) 1 0) (cond t 0 1)
turned true = refl
turned false = refl

-- a test that holds where two numbers differ
abbrev pub unlike : (ℕ → ℕ) → (ℕ → ℕ) → ℕ → Bool
unlike f g x = not (eqb (f x) (g x))

pub many-begins : (test : ℕ → Bool) → 0 ≡ how_many 0 test
unfolding how_many
many-begins test = refl

pub many-on : (f g : ℕ → ℕ) {count n a b d : ℕ} → count ≡ how_many n (unlike f g) → a ≡ f n → b ≡ g n → d ≡ cond (eqb a b) 0 1
    → count + d ≡ how_many (n + 1) (unlike f g)
unfolding how_many
many-on f g {count} {n} {a} {b} {d} k h i e =
    (λ j. k j + (e ∙ (λ q. cond (eqb (h q) (i q)) 0 1) ∙ sym (turned (eqb (f n) (g n)))) j)
    ∙ ap (λ (m : ℕ). how_many m (unlike f g)) (sym (add-one n))

-- bit 7 - x mod 8 of byte x div 8
abbrev pub bit_in : List ℕ → ℕ → ℕ
bit_in l x = bit_of (get_or l (x / 8) 0) (7 - x % 8)

-- two rows painted at the start of longer lists, and the bits in them that differ
row-bit : (p : Panel) (d : Display) (mem rom : List ℕ) (r : ℕ) (a : List ℕ) → take (row_size p) a ≡ row_of p d mem rom r → (x : ℕ) → x < p.columns * p.width
    → bit_in a x ≡ dot_of p d mem rom r x
row-bit p d mem rom r a h x l =
    ap (λ (n : ℕ). bit_of n (7 - x % 8)) (sym (get_or-take (row_size p) a (x / 8) 0 (omega (arith, l))))
    ∙ ap (λ (y : List ℕ). bit_in y x) h ∙ row-dot p d mem rom r x (omega (arith, l))

pub row-apart : (p : Panel) (d : Display) (mem : List ℕ) (e : Display) (memory rom : List ℕ) (r : ℕ) (a b : List ℕ) {count : ℕ}
    → take (row_size p) a ≡ row_of p d mem rom r → take (row_size p) b ≡ row_of p e memory rom r
    → count ≡ how_many (p.columns * p.width) (unlike (bit_in a) (bit_in b)) → count ≡ row_apart p d mem e memory rom r
row-apart p d mem e memory rom r a b h k c =
    c ∙ many-cong (p.columns * p.width) (unlike (bit_in a) (bit_in b)) (unlike (dot_of p d mem rom r) (dot_of p e memory rom r))
    (λ x l. λ i. not (eqb (row-bit p d mem rom r a h x l i) (row-bit p e memory rom r b k x l i)))

-- a row painted, where it may be, and what stands behind it
pub row_first : (p : Panel) (d : Display) (mem rom : List ℕ) (r : ℕ) → Paints p d mem rom → (out rest : List ℕ) {x : Reply} {l : List ℕ}
    → length out ≡ row_size p → painted x l ≡ paint_one_of p d mem rom r out → take (row_size p) (l ++ rest) ≡ row_of p d mem rom r
row_first p d mem rom r k out rest {l = l} h q =
    let e : l ≡ row_of p d mem rom r = ap (λ (o : Painted). o.frame) (q ∙ one-is p d mem rom r out k.panel k.state k.lent h) in
    ap (λ (n : ℕ). take n (l ++ rest)) (sym (ap length e ∙ row-length p d mem rom r)) ∙ take-append_seam l rest ∙ e

pub row-size-few : (p : Panel) → valid_panel p ≡ true → {n : ℕ} → n ≡ valid_size p (row_size p) → n ≤ 80
row-size-few p v e = omega (arith, is-size p v e, bytes-few p v)

-- rows added up: each has at most 640 dots
pub record Adding (p : Panel) (d : Display) (mem : List ℕ) (e : Display) (memory rom : List ℕ) (count row : ℕ) : Type 0 where
  pub holds : count ≡ added_up row (row_apart p d mem e memory rom)
  pub few : count ≤ 640 * row

module _ (p : Panel) (d : Display) (mem : List ℕ) (e : Display) (memory rom : List ℕ) where
  pub adding : Adding p d mem e memory rom 0 0
  unfolding added_up
  adding = record { holds = refl; few = omega arith }

  module _ (v : valid_panel p ≡ true) {count row : ℕ} (k : Adding p d mem e memory rom count row) where
    pub row-few : {n : ℕ} → n ≡ row_apart p d mem e memory rom row → n ≤ 640
    row-few h =
        omega (arith, h, many-few (p.columns * p.width) (unlike (dot_of p d mem rom row) (dot_of p e memory rom row)), dots-few p v)

    pub adds_on : {n : ℕ} → n ≡ row_apart p d mem e memory rom row → Adding p d mem e memory rom (count + n) (row + 1)
    unfolding added_up
    adds_on {n} h =
        record {
          holds = (λ i. k.holds i + h i) ∙ ap (λ (m : ℕ). added_up m (row_apart p d mem e memory rom)) (sym (add-one row));
          few = omega (arith, k.few, row-few h);
        }

  pub added-all : {count row : ℕ} → Adding p d mem e memory rom count row → row ≡ 8 * p.lines → count ≡ dots_apart p d mem e memory rom
  unfolding dots_apart
  added-all k h = k.holds ∙ ap (λ (n : ℕ). added_up n (row_apart p d mem e memory rom)) h
