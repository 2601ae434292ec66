-- Where an operation in range lies in its plane, and which bit of its byte a dot is.
use mathlib.Core.Path.{◌≡◌}
use mathlib.Core.Bool.{true}
use mathlib.Core.List.{List}
use Prim.Native.Nat.{ℕ, ◌+◌, ◌*◌, ◌/◌, ◌≤◌, ◌<◌}
use native.Mathlib.Nat.{mul-le-mul_right, suc-mul, div-lt_iff_lt-mul}
use native.Mathlib.Omega.{arith}
use Rattle.state.specs.declared.panel.Panel.{Panel}
use Rattle.state.specs.State.{valid_panel}
use Rattle.state.specs.Sizes.{cell_count}
use Rattle.state.proofs.Valid.{panelled, narrow}
use Rattle.state.proofs.Sizes.{some-width}
use Rattle.book.specs.Operation.{dot_byte, dot_bit}
use Rattle.book.specs.Range.{TextRange, RectangleRange, DotRange}

-- n bytes of a row, in a plane of rows of C
pub stretch-inside : (C R r c n : ℕ) → r < R → c + n ≤ C → r * C + c + n ≤ R * C
stretch-inside C R r c n h k = omega (arith, mul-le-mul_right C h, suc-mul r C)

module _ (p : Panel) (v : valid_panel p ≡ true) where
  pub text-place : {book : List ℕ} {line column from n : ℕ} → TextRange p book line column from n → line * p.columns + column + n ≤ cell_count p
  text-place {line = line} {column} {n = n} k = stretch-inside p.columns p.lines line column n k.down k.across

  pub row-place : {top column height width : ℕ} → RectangleRange p top column height width → (i : ℕ) → i < height
      → (top + i) * p.columns + column + width ≤ 8 * p.lines * p.columns
  row-place {top} {column} {height} {width} k i h = stretch-inside p.columns (8 * p.lines) (top + i) column width (omega (arith, k.down)) k.across

  pub dot-place : {x y : ℕ} → DotRange p x y → dot_byte p x y < 8 * p.lines * p.columns
  dot-place {x} {y} k =
      let h : x / p.width < p.columns = (div-lt_iff_lt-mul (some-width p v)).1 k.across in
      omega (arith, stretch-inside p.columns (8 * p.lines) y (x / p.width) 1 k.down (omega arith))

  pub bit-few : (x : ℕ) → dot_bit p x < 8
  bit-few x = omega (arith, some-width p v, narrow (panelled p v))
