-- 01, A displayed byte: where the pointer stands.
use Rattle.std.specs.Prelude.{ℕ, Option, Some, None}
use Rattle.sight.specs.declared.position.Position.{Position as Place}

-- in dot row r and column c, or nowhere
pub data Position : Type 0 where
  At : ℕ → ℕ → Position
  Nowhere : Position

-- what an answer of `locate` stands for
abbrev pub located : Option Place → Position
located (Some place) = At place.row place.column
located None = Nowhere
