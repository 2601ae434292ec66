-- The list is empty exactly if memory, registers and picture agree.
use mathlib.Core.Path.{◌≡◌, refl, ap, sym, ◌∙◌}
use mathlib.Core.Bool.{Bool, true, false, cond, not}
use mathlib.Core.List.{List, [], ◌∷◌}
use Prim.Native.Nat.{ℕ, suc, ◌+◌, ◌*◌}
use native.Mathlib.Omega.{arith}
use lib.Dec.{eqb}
use lib.ListN.{length}
use borrow.Author.Tests.{eq-eqb, eqb-true}
use Rattle.display.specs.Frame.{dot_of, frame_of}
use Rattle.image.specs.Registered.{register_values}
use Rattle.image.proofs.Registries.{values_length, values_same}
use Rattle.comparison.specs.Types.{Panel, Display}
use Rattle.entries.specs.Listed.{difference, differences_from}
use Rattle.comparison.specs.Apart.{row_apart, dots_apart}
use Rattle.comparison.specs.Claims.{entries_of, AllAgree, Same}
use Rattle.comparison.proofs.Aparts.{many-none, added_none}

-- lists of one length with no difference are one
none_apart : (i : ℕ) (xs ys : List ℕ) → length xs ≡ length ys → length (differences_from i xs ys) ≡ 0 → xs ≡ ys
unfolding differences_from
none_apart i [] [] e h = refl
none_apart i [] (y ∷ ys) e h = absurd (omega arith)
none_apart i (x ∷ xs) [] e h = absurd (omega arith)
none_apart i (x ∷ xs) (y ∷ ys) e h = go (eqb x y) refl h (λ k. none_apart (suc i) xs ys (omega arith) k)
  where
    go : (t : Bool) → eqb x y ≡ t → length (cond t (differences_from (suc i) xs ys) (difference i x y ∷ differences_from (suc i) xs ys)) ≡ 0
        → (length (differences_from (suc i) xs ys) ≡ 0 → xs ≡ ys) → x ∷ xs ≡ y ∷ ys
    go true f k r = λ j. eqb-true x y f j ∷ r k j
    go false f k r = absurd (omega arith)

-- and a list has none with itself
self-apart : (i : ℕ) (xs : List ℕ) → length (differences_from i xs xs) ≡ 0
unfolding differences_from
self-apart i [] = refl
self-apart i (x ∷ xs) =
    ap (λ (t : Bool). length (cond t (differences_from (suc i) xs xs) (difference i x x ∷ differences_from (suc i) xs xs))) (eq-eqb x x refl) ∙ self-apart (suc i) xs

-- a picture beside itself
no-dots : (p : Panel) (d : Display) (mem rom : List ℕ) → dots_apart p d mem d mem rom ≡ 0
unfolding dots_apart
no-dots p d mem rom =
    added_none (8 * p.lines) (row_apart p d mem d mem rom)
    (λ r. many-none (p.columns * p.width) (λ x. not (eqb (dot_of p d mem rom r x) (dot_of p d mem rom r x))) (λ x. ap not (eq-eqb (dot_of p d mem rom r x) (dot_of p d mem rom r x) refl)))

pub same : Same
same p rom a b v w h k l = (λ z. agree z, λ g. none g)
  where
    agree : entries_of a b ≡ 0 → AllAgree p rom a b
    agree z =
        let m : a.memory ≡ b.memory = none_apart 0 a.memory b.memory l (omega (arith, z)) in
        let r : a.ran.registers ≡ b.ran.registers =
        values_same a.ran.registers b.ran.registers v w h k
        (none_apart 0 (register_values a.ran.registers) (register_values b.ran.registers) (values_length a.ran.registers ∙ sym (values_length b.ran.registers)) (omega (arith, z))) in
        record {
          memory = m;
          registers = r;
          frames = λ i. frame_of p (r i).display (m i) rom;
          dots = (λ i. dots_apart p a.ran.registers.display a.memory (sym r i).display (sym m i) rom) ∙ no-dots p a.ran.registers.display a.memory rom;
        }

    none : AllAgree p rom a b → entries_of a b ≡ 0
    none g =
        (λ i. length (differences_from 0 a.memory (sym g.memory i)) + length (differences_from 0 (register_values a.ran.registers) (register_values (sym g.registers i))))
        ∙ (λ i. self-apart 0 a.memory i + self-apart 0 (register_values a.ran.registers) i)
