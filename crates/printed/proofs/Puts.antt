-- The laws of text written into a room, and what a loop that writes piece after piece keeps.
use mathlib.Core.Path.{◌≡◌, refl, ap, ap₂, sym, subst, ◌∙◌}
use mathlib.Core.List.{List, [], ◌∷◌, ◌++◌, append_assoc}
use Prim.Native.Nat.{ℕ, suc, ◌+◌, ◌*◌, ◌≤◌, ◌<◌}
use native.Mathlib.Nat.{add-suc, suc-add, add-zero, suc-mul, mul-le-mul_right}
use native.Mathlib.Numerals.{add-one}
use native.Mathlib.Omega.{arith}
use lib.ListN.{length, get_or, take, drop, set, length-append, length-drop, take-append-drop}
use lib.Seq.{sets, length-sets, sets-eq, take-suc, drop-drop, drop-append-le, length-take-le}
use Rattle.ground.proofs.Lists.{build-length}
use Rattle.printed.specs.declared.put.Text.{Text}
use Rattle.printed.specs.Put.{TextPut, Puts}
use Rattle.printed.specs.Text.{dot_line}

sets-append : (xs ys l : List ℕ) (i : ℕ) → sets (sets l i xs) (i + length xs) ys ≡ sets l i (xs ++ ys)
sets-append [] ys l i = rw add-zero
sets-append (x ∷ xs) ys l i = rw (add-suc, ← suc-add) (sets-append xs ys (set l i x) (suc i))

pub put_both : {a b c : List ℕ} {i j e : ℕ} {xs ys : List ℕ} → TextPut a i xs b j → TextPut b j ys c e → TextPut a i (xs ++ ys) c e
put_both {a} {b} {c} {i} {j} {e} {xs} {ys} x y =
    record {
      holds = y.holds ∙ ap₂ (λ l n. sets l n ys) x.holds x.ends ∙ sets-append xs ys a i;
      ends = simp length-append (omega (arith, x.ends, y.ends));
    }

pub put_same : {a b : List ℕ} {i e : ℕ} {xs ys : List ℕ} → xs ≡ ys → TextPut a i xs b e → TextPut a i ys b e
put_same {a} {b} {i} {e} h x = subst (λ (text : List ℕ). TextPut a i text b e) h x

pub put-length : {a b : List ℕ} {i e : ℕ} {xs : List ℕ} → TextPut a i xs b e → length b ≡ length a
put-length {a} {i = i} {xs} x = ap length x.holds ∙ length-sets a i xs

-- a text at the room's start
pub put-start : {a b : List ℕ} {e : ℕ} {xs : List ℕ} → TextPut a 0 xs b e → length xs ≤ length a → b ≡ xs ++ drop (length xs) a
put-start {a} {xs = xs} x h =
    let z : 0 + length xs ≡ length xs = omega arith in
    x.holds ∙ sets-eq xs a 0 (omega arith) ∙ ap (λ (n : ℕ). xs ++ drop n a) z

-- a text at the start of what is behind a place, and of what is before one
pub put-behind : {a b : List ℕ} {e : ℕ} {xs : List ℕ} (n : ℕ) → n + length xs ≤ length a → TextPut (drop n a) 0 xs b e → TextPut a n xs (take n a ++ b) (n + e)
put-behind {a} {b} {e} {xs} n h x =
    record {
      holds = ap (λ (l : List ℕ). take n a ++ l) (put-start x (rw length-drop (omega arith)) ∙ ap (λ (l : List ℕ). xs ++ l) (drop-drop (length xs) n a)) ∙ sym (append_assoc (take n a) xs (drop (n + length xs) a)) ∙ sym (sets-eq xs a n h);
      ends = omega (arith, x.ends);
    }

pub put-before : {a b : List ℕ} {e : ℕ} {xs : List ℕ} (n : ℕ) → length xs ≤ n → n ≤ length a → TextPut (take n a) 0 xs b e → TextPut a 0 xs (b ++ drop n a) e
put-before {a} {b} {e} {xs} n few many x =
    let z : 0 + length xs ≡ length xs = omega arith in
    let long : length xs ≤ length (take n a) = rw (length-take-le n a many) few in
    record {
      holds = ap (λ (l : List ℕ). l ++ drop n a) (put-start x long) ∙ append_assoc xs (drop (length xs) (take n a)) (drop n a)
          ∙ ap (λ (l : List ℕ). xs ++ l) (sym (drop-append-le (length xs) (take n a) (drop n a) long) ∙ ap (drop (length xs)) (take-append-drop n a))
          ∙ sym (sets-eq xs a 0 (omega arith) ∙ ap (λ (m : ℕ). xs ++ drop m a) z);
      ends = x.ends;
    }

-- the same of a text that is being put
pub puts_both : {a b c : Text} {xs ys : List ℕ} → Puts a xs b → Puts b ys c → Puts a (xs ++ ys) c
puts_both x y = record { put = put_both x.put y.put; kept = y.kept ∙ x.kept; same_room = y.same_room ∙ x.same_room }

pub puts_same : {a b : Text} {xs ys : List ℕ} → xs ≡ ys → Puts a xs b → Puts a ys b
puts_same h x = record { put = put_same h x.put; kept = x.kept; same_room = x.same_room }

-- so much of a text, of `size` characters, as a loop has put
pub record Putting (a : Text) (text : List ℕ) (size : ℕ) (b : Text) : Type 0 where
  pub puts : Puts a text b
  pub place : b.at ≡ a.at + size
  pub kept : length b.room.now ≡ length a.room.now

pub starts : (a : Text) {text : List ℕ} {size : ℕ} → text ≡ [] → size ≡ 0 → Putting a text size a
starts a {text} {size} h z =
    record {
      puts = record { put = put_same (sym h) (record { holds = refl; ends = omega arith }); kept = refl; same_room = refl };
      place = omega arith;
      kept = refl;
    }

pub goes : {a b c : Text} {size : ℕ} {text piece : List ℕ} → Putting a text size b → Puts b piece c
    → {next : List ℕ} → next ≡ text ++ piece → {longer : ℕ} → longer ≡ size + length piece → Putting a next longer c
goes x y h l =
    record { puts = puts_same (sym h) (puts_both x.puts y); place = omega (arith, x.place, y.put.ends, l); kept = y.kept ∙ x.kept }

pub take_more : (l : List ℕ) (i : ℕ) → i < length l → take (i + 1) l ≡ take i l ++ (get_or l i 0 ∷ [])
take_more l i h = ap (λ (n : ℕ). take n l) (add-one i) ∙ take-suc l i 0 h

pub dot-line-length : (frame : List ℕ) (from dots : ℕ) → length (dot_line frame from dots) ≡ dots + 1
unfolding dot_line
dot-line-length frame from dots = simp (length-append, build-length)

-- one of n pieces of k, and one piece more
pub piece_inside : {i n : ℕ} (k : ℕ) → i < n → i * k + k ≤ n * k
piece_inside {i} {n} k h = let a : suc i * k ≤ n * k = mul-le-mul_right k h in omega (arith, suc-mul i k)

pub piece-more : (i k : ℕ) {n : ℕ} → n ≡ k → (i + 1) * k ≡ i * k + n
piece-more i k h = ap (λ (m : ℕ). m * k) (add-one i) ∙ suc-mul i k ∙ ap (λ (m : ℕ). i * k + m) (sym h)

-- two texts with the same put into the same room are equal
pub add-settled : {a x y : Text} {text : List ℕ} → Puts a text x → Puts a text y → (x.room.now ≡ y.room.now) × (x.at ≡ y.at)
add-settled h k = (h.put.holds ∙ sym k.put.holds, h.put.ends ∙ sym k.put.ends)
