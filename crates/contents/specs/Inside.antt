-- 01, Screens: where a body lies.
use Rattle.std.specs.Prelude.{ℕ, ◌≤◌, List, length}

-- inside a book that is not too long
pub record Inside (book : List ℕ) (start end : ℕ) : Type 0 where
  pub order : start ≤ end
  pub in_book : end ≤ length book
  pub short : length book ≤ 32768
