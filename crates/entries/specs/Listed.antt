-- 02, Req 06: what differs in two lists of numbers, ascending, with both of them.
use Rattle.std.specs.Prelude.{ℕ, suc, cond, List, [], ◌∷◌, eqb}

pub record Difference : Type 0 where
  pub at : ℕ
  pub one : ℕ
  pub two : ℕ

abbrev pub difference : ℕ → ℕ → ℕ → Difference
difference at one two = record { at = at; one = one; two = two }

-- of lists whose first numbers stand at i
unfoldable pub differences_from : ℕ → List ℕ → List ℕ → List Difference
differences_from i [] ys = []
differences_from i (x ∷ xs) [] = []
differences_from i (x ∷ xs) (y ∷ ys) =
    cond (eqb x y) (differences_from (suc i) xs ys) (difference i x y ∷ differences_from (suc i) xs ys)

-- three numbers an entry
unfoldable pub numbers_of : List Difference → List ℕ
numbers_of [] = []
numbers_of (d ∷ ds) = d.at ∷ d.one ∷ d.two ∷ numbers_of ds
