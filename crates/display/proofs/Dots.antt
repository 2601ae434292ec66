-- The bytes of a row, as many as its length; and rows painted one after the other: a frame, or one row.
use mathlib.Core.Path.{◌≡◌, ap, ◌∙◌}
use mathlib.Core.List.{List, ◌++◌}
use Prim.Native.Nat.{ℕ, ◌+◌, ◌*◌}
use native.Mathlib.Omega.{arith}
use lib.ListN.{length, take, drop, length-append, length-take, length-drop}
use Rattle.ground.specs.Lists.{joined}
use Rattle.ground.proofs.Lists.{joined-cong}
use Rattle.ground.specs.Packing.{row_bytes, frame_from}
use Rattle.ground.proofs.Packing.{row-length}
use Rattle.display.specs.Types.{Panel, Display}
use Rattle.display.specs.Displayed.{cell_byte}
use Rattle.display.specs.Frame.{row_of, frame_of}

pub row_sized : (p : Panel) (d : Display) (mem rom : List ℕ) (r : ℕ) → length (row_of p d mem rom r) ≡ row_bytes p.columns p.width
unfolding row_of
row_sized p d mem rom r = row-length p.columns p.width (cell_byte p d mem rom r)

-- a row's cells that have come back into the front of their array
pub as_many : (C : ℕ) (ys cells : List ℕ) {n : ℕ} → length ys ≡ length (take C cells) → length cells ≡ n → length (ys ++ drop C cells) ≡ n
as_many C ys cells e h = length-append ys (drop C cells) ∙ omega (arith, simp length-take at e, length-drop C cells)

module _ (p : Panel) (d : Display) (mem rom : List ℕ) where
  -- all rows from the first on are the frame
  pub all-rows : {f : List ℕ} → f ≡ joined (8 * p.lines) (λ i. row_of p d mem rom (0 + i)) → f ≡ frame_of p d mem rom
  unfolding frame_of frame_from row_of
  all-rows e = e ∙ joined-cong (8 * p.lines) _ _ (λ r h. ap (row_of p d mem rom) (omega arith))

  -- one row from r on is row r
  pub one-row : (r : ℕ) {f : List ℕ} → f ≡ joined 1 (λ i. row_of p d mem rom (r + i)) → f ≡ row_of p d mem rom r
  unfolding joined
  one-row r e = e ∙ ap (row_of p d mem rom) (omega arith)
