-- Planes compared byte by byte: how many differ, and the pairs that are still to be put.
use mathlib.Core.Path.{◌≡◌, refl, ap, ◌∙◌}
use mathlib.Core.Bool.{Bool, true, false, cond, not}
use mathlib.Core.List.{List, [], ◌∷◌, ◌++◌}
use Prim.Native.Nat.{ℕ, suc, ◌+◌, ◌*◌, ◌≤◌, ◌<◌}
use native.Mathlib.Omega.{arith}
use lib.Dec.{eqb}
use mir.Val.{bool_byte}
use Rattle.std.specs.List.{count_by, zip}
use Rattle.std.proofs.lemmas.List.Sums.{sum_by-cons}
use lib.ListN.{length, get_or, drop, length-append, drop_of_length-le}
use lib.Seq.{drop-cons}
use borrow.Author.Tests.{eq-eqb, ne_eqb}
use Rattle.controller.specs.Access.{Pair}
use Rattle.writer.specs.Stream.{point_to}
use Rattle.writer.specs.declared.put.Stream.{Stream}
use Rattle.writer.specs.Put.{Puts, RoomFor}
use Rattle.writer.proofs.Puts.{Putting, putting, put_on, put-over}
use Rattle.difference.specs.Short.{change_at, changes_from, change_count}
use Rattle.difference.specs.Differing.{Changing}

pub change-length : (at b : ℕ) → length (change_at at b) ≡ 5
unfolding change_at point_to
change-length at b = refl

pub changes-length : (at : ℕ) (xs ys : List ℕ) → length (changes_from at xs ys) ≡ 5 * change_count xs ys
unfolding changes_from change_count
changes-length at [] ys = refl
changes-length at (x ∷ xs) [] = refl
changes-length at (x ∷ xs) (y ∷ ys) = go (eqb x y) (changes-length (suc at) xs ys)
  where
    go : (t : Bool) → length (changes_from (suc at) xs ys) ≡ 5 * change_count xs ys
        → length (cond t [] (change_at at y) ++ changes_from (suc at) xs ys) ≡ 5 * (cond t 0 1 + change_count xs ys)
    go true h = omega arith
    go false h = rw length-append (omega (arith, change-length at y))

-- counted as pairs of bytes
pub counted : (xs ys : List ℕ) → count_by (λ (q : ℕ × ℕ). not (eqb q.0 q.1)) (zip xs ys) ≡ change_count xs ys
unfolding change_count
counted [] ys = refl
counted (x ∷ xs) [] = refl
counted (x ∷ xs) (y ∷ ys) = sum_by-cons (λ (q : ℕ × ℕ). cond (not (eqb q.0 q.1)) 1 0) (x, y) (zip xs ys) ∙ go (eqb x y) (counted xs ys)
  where
    go : (t : Bool) {m n : ℕ} → m ≡ n → cond (not t) 1 0 + m ≡ cond t 0 1 + n
    go true h = omega arith
    go false h = omega arith

pub count-few : (xs ys : List ℕ) → change_count xs ys ≤ length ys
unfolding change_count
count-few [] ys = omega arith
count-few (x ∷ xs) [] = omega arith
count-few (x ∷ xs) (y ∷ ys) = go (eqb x y) (count-few xs ys)
  where
    go : (t : Bool) → change_count xs ys ≤ length ys → cond t 0 1 + change_count xs ys ≤ suc (length ys)
    go true h = omega arith
    go false h = omega arith

-- one comparison, as a number
one-few : (t : Bool) → bool_byte (not t) ≤ 1
one-few true = omega arith
one-few false = omega arith

one-is : (t : Bool) → bool_byte (not t) ≡ cond t 0 1
one-is true = refl
one-is false = refl

module _ (old new : List ℕ) (same : length old ≡ length new) (i : ℕ) (h : i < length new) where
  old-next : drop i old ≡ get_or old i 0 ∷ drop (i + 1) old
  old-next = let e : suc i ≡ i + 1 = omega arith in drop-cons old i 0 (omega arith) ∙ ap (λ (n : ℕ). get_or old i 0 ∷ drop n old) e

  new-next : drop i new ≡ get_or new i 0 ∷ drop (i + 1) new
  new-next = let e : suc i ≡ i + 1 = omega arith in drop-cons new i 0 h ∙ ap (λ (n : ℕ). get_or new i 0 ∷ drop n new) e

  count_next : change_count (drop i old) (drop i new) ≡ cond (eqb (get_or old i 0) (get_or new i 0)) 0 1 + change_count (drop (i + 1) old) (drop (i + 1) new)
  unfolding change_count
  count_next q = change_count (old-next q) (new-next q)

  changes-next : (at : ℕ) (t : Bool) → eqb (get_or old i 0) (get_or new i 0) ≡ t
      → changes_from at (drop i old) (drop i new) ≡ cond t [] (change_at at (get_or new i 0)) ++ changes_from (suc at) (drop (i + 1) old) (drop (i + 1) new)
  unfolding changes_from
  changes-next at t e =
      (λ q. changes_from at (old-next q) (new-next q))
      ∙ ap (λ (s : Bool). cond s [] (change_at at (get_or new i 0)) ++ changes_from (suc at) (drop (i + 1) old) (drop (i + 1) new)) e

-- those before byte i are counted
pub record Counting (old new : List ℕ) (count i : ℕ) : Type 0 where
  pub few : count ≤ i
  pub left : count + change_count (drop i old) (drop i new) ≡ change_count old new

module _ (old new : List ℕ) (same : length old ≡ length new) {count i : ℕ} (k : Counting old new count i) where
  pub counting-on : {n : ℕ} → i < length new → n ≡ bool_byte (not (eqb (get_or old i 0) (get_or new i 0))) → Counting old new (count + n) (i + 1)
  counting-on {n} h e =
      let t : Bool = eqb (get_or old i 0) (get_or new i 0) in
      record { few = omega (arith, k.few, one-few t, e); left = omega (arith, k.left, count_next old new same i h, one-is t, e) }

  pub counting-over : length new ≤ i → count ≡ count_by (λ (q : ℕ × ℕ). not (eqb q.0 q.1)) (zip old new)
  unfolding change_count
  counting-over h =
      let e : change_count (drop i old) (drop i new) ≡ 0 = ap (λ (l : List ℕ). change_count l (drop i new)) (drop_of_length-le old {i = i} (omega (arith, same))) in
      omega (arith, k.left, e, counted old new)

-- with the changes from byte i on still to be put
pub record Differs (a : Stream) (home : ℕ) (old new : List ℕ) (b : Stream) (i : ℕ) : Type 0 where
  pub puts : Putting a (changes_from home old new) b (changes_from (home + i) (drop i old) (drop i new))

pub differs : (a : Stream) (home : ℕ) (old new : List ℕ) → Differs a home old new a 0
differs a home old new =
    let e : home + 0 ≡ home = omega arith in
    record { puts = rw (ap (λ (n : ℕ). changes_from n old new) e) (putting a (changes_from home old new)) }

module _ {a : Stream} {home : ℕ} {old new : List ℕ} {b : Stream} {i : ℕ} (r : Changing home old new a) (k : Differs a home old new b i) where
  module _ (h : i < length new) where
    later : (t : Bool) → eqb (get_or old i 0) (get_or new i 0) ≡ t
        → Putting a (changes_from home old new) b (cond t [] (change_at (home + i) (get_or new i 0)) ++ changes_from (home + (i + 1)) (drop (i + 1) old) (drop (i + 1) new))
    later t e =
        let s : suc (home + i) ≡ home + (i + 1) = omega arith in
        rw (changes-next old new r.same i h (home + i) t e, s) at k.puts

    pub differs-room : (get_or old i 0 ≡ get_or new i 0 → ⊥) → RoomFor 5 b
    differs-room n =
        let f : eqb (get_or old i 0) (get_or new i 0) ≡ false = ne_eqb (get_or old i 0) (get_or new i 0) n in
        let rest : List Pair = changes_from (home + (i + 1)) (drop (i + 1) old) (drop (i + 1) new) in
        omega (arith, (later false f).places, k.puts.kept, r.fits, changes-length home old new, length-append (change_at (home + i) (get_or new i 0)) rest, change-length (home + i) (get_or new i 0))

    pub differs-other : (get_or old i 0 ≡ get_or new i 0 → ⊥) → {c : Stream} → Puts b (change_at (home + i) (get_or new i 0)) c → Differs a home old new c (i + 1)
    differs-other n x = record { puts = put_on (later false (ne_eqb (get_or old i 0) (get_or new i 0) n)) x }

    pub differs-same : get_or old i 0 ≡ get_or new i 0 → Differs a home old new b (i + 1)
    differs-same e = record { puts = later true (eq-eqb (get_or old i 0) (get_or new i 0) e) }

  pub differs-over : length new ≤ i → Puts a (changes_from home old new) b
  unfolding changes_from
  differs-over h =
      let e : changes_from (home + i) (drop i old) (drop i new) ≡ [] = ap (λ (l : List ℕ). changes_from (home + i) l (drop i new)) (drop_of_length-le old {i = i} (omega (arith, r.same))) in
      put-over (rw e at k.puts)
