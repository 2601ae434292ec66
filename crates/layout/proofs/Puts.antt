-- Bytes put behind an output, one after the other: what any loop that does so keeps.
use mathlib.Core.Path.{◌≡◌, refl, ◌∙◌}
use mathlib.Core.Bool.{Bool, true, false}
use mathlib.Core.List.{List, [], ◌∷◌, ◌++◌}
use Prim.Native.Nat.{ℕ, suc, ◌+◌, ◌-◌, ◌≤◌}
use native.Mathlib.Nat.{add-suc, suc-add, add-zero}
use native.Mathlib.Omega.{arith}
use lib.ListN.{length, drop, set, length-drop, length-append}
use lib.Seq.{sets, length-take-le}
use Rattle.contents.specs.Contents.{entries_at, entry_size}
use Rattle.layout.specs.declared.put.Output.{Output}
use Rattle.layout.specs.Puts.{Puts}
use Rattle.layout.specs.Laid.{entry_bytes, head_bytes, bytes_between}

sets-append : (xs ys l : List ℕ) (i : ℕ) → sets (sets l i xs) (i + length xs) ys ≡ sets l i (xs ++ ys)
sets-append [] ys l i = rw add-zero
sets-append (x ∷ xs) ys l i = rw (add-suc, ← suc-add) (sets-append xs ys (set l i x) (suc i))

-- one after the other
pub put_both : {a b c : Output} {xs ys : List ℕ} → Puts a xs b → Puts b ys c → Puts a (xs ++ ys) c
put_both {a} {b} {c} {xs} {ys} x y =
    record {
      holds = y.holds ∙ (λ t. sets (x.holds t) (x.ends t) ys) ∙ sets-append xs ys a.out.now a.at;
      ends = simp length-append (omega (arith, x.ends, y.ends));
      kept = y.kept ∙ x.kept;
      same_out = y.same_out ∙ x.same_out;
    }

-- with ys still to be put, the output b comes to the output a with all of xs
pub record Putting (a : Output) (xs : List ℕ) (b : Output) (ys : List ℕ) : Type 0 where
  pub rest : sets b.out.now b.at ys ≡ sets a.out.now a.at xs
  pub places : b.at + length ys ≡ a.at + length xs
  pub kept : length b.out.now ≡ length a.out.now
  pub same_out : b.out.ghost_name ≡ a.out.ghost_name

pub putting : (a : Output) (xs : List ℕ) → Putting a xs a xs
putting a xs = record { rest = refl; places = refl; kept = refl; same_out = refl }

pub put_on : {a b c : Output} {xs ys zs : List ℕ} → Putting a xs b (ys ++ zs) → Puts b ys c → Putting a xs c zs
put_on {a} {b} {c} {xs} {ys} {zs} k x =
    record {
      rest = (λ t. sets (x.holds t) (x.ends t) zs) ∙ sets-append ys zs b.out.now b.at ∙ k.rest;
      places = omega (arith, k.places, x.ends, length-append ys zs);
      kept = x.kept ∙ k.kept;
      same_out = x.same_out ∙ k.same_out;
    }

pub put-over : {a b : Output} {xs : List ℕ} → Putting a xs b [] → Puts a xs b
put-over k = record { holds = k.rest; ends = omega (arith, k.places); kept = k.kept; same_out = k.same_out }

pub head-length : (two : Bool) (n : ℕ) → length (head_bytes two n) ≡ entries_at two
head-length true n = refl
head-length false n = refl

pub entry_length : (two : Bool) (key start size : ℕ) → length (entry_bytes two key start size) ≡ entry_size two
entry_length true key start size = refl
entry_length false key start size = refl

-- the bytes of a book between two places
pub between-length : (book : List ℕ) (start end : ℕ) → start ≤ end → end ≤ length book → length (bytes_between book start end) ≡ end - start
between-length book start end o i = length-take-le (end - start) (drop start book) (simp length-drop (omega arith))
