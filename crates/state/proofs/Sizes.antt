-- What a valid panel's sizes come to at most: the only place of these numbers.
use Rattle.std.proofs.Common.{◌≡◌, ℕ, ◌-◌, ◌*◌, ◌%◌, ◌^◌, ◌≤◌, Bool, true, false, cond, ap, ◌∙◌, ⊎_elim, mod-lt, mul-le-mul, arith}
use Rattle.ground.specs.Bytes.{full_of}
use Rattle.ground.proofs.Lows.{full-low}
use Rattle.state.specs.Types.{Panel}
use Rattle.state.specs.State.{valid_panel}
use Rattle.state.specs.Sizes.{row_size, frame_size, cell_count, valid_size}
use Rattle.state.proofs.Valid.{panelled, narrow}

module _ (p : Panel) where
  pub no_size : valid_panel p ≡ false → (n : ℕ) → valid_size p n ≡ 0
  no_size v n = ap (λ (t : Bool). cond t n 0) v

  module _ (v : valid_panel p ≡ true) where
    pub a-size : (n : ℕ) → valid_size p n ≡ n
    a-size n = ap (λ (t : Bool). cond t n 0) v

    pub is-size : {n m : ℕ} → n ≡ valid_size p m → n ≡ m
    is-size {m = m} e = e ∙ a-size m

    pub columns-few : p.columns ≤ 80
    columns-few = (panelled p v).columns

    pub lines-few : p.lines ≤ 32
    lines-few = (panelled p v).lines

    pub rows_few : 8 * p.lines ≤ 256
    rows_few = omega (arith, lines-few)

    pub some-width : 1 ≤ p.width
    some-width = ⊎_elim (λ e. omega arith) (λ e. omega arith) (panelled p v).width

    pub full-dots : full_of p.width ≡ 2 ^ p.width - 1
    full-dots = full-low p.width (panelled p v).width

    pub rest-few : (x : ℕ) → x % p.width ≤ p.width - 1
    rest-few x = omega (arith, mod-lt x some-width)

    pub dots-few : p.columns * p.width ≤ 640
    dots-few = mul-le-mul {n₂ = 80} {m₂ = 8} columns-few (narrow (panelled p v))

    pub bytes-few : row_size p ≤ 80
    bytes-few = omega (arith, dots-few)

    pub frame-few : frame_size p ≤ 20480
    frame-few = mul-le-mul {n₂ = 256} {m₂ = 80} rows_few bytes-few

    pub cells-few : cell_count p ≤ 2560
    cells-few = mul-le-mul {n₂ = 32} {m₂ = 80} lines-few columns-few

    pub graphic-few : 8 * p.lines * p.columns ≤ 20480
    graphic-few = mul-le-mul {n₂ = 256} {m₂ = 80} rows_few columns-few
