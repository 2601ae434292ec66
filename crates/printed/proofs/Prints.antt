-- What the input gives, and how long a text's parts are.
use mathlib.Core.Path.{◌≡◌, refl, ap, sym, ◌∙◌}
use mathlib.Core.List.{List}
use Prim.Native.Nat.{ℕ, ◌+◌, ◌*◌, ◌≤◌, ◌<◌, min}
use native.Mathlib.Nat.{mul-le-mul}
use native.Mathlib.Decide.{dec_lt}
use native.Mathlib.Omega.{arith}
use lib.ListN.{length, take, replicate, length-replicate}
use lib.Seq.{take_all, length-take-le}
use Rattle.std.proofs.lemmas.List.{get_or-take}
use Rattle.ground.specs.Lists.{build, joined, zeros}
use Rattle.ground.specs.Packing.{row_bytes}
use Rattle.ground.proofs.Lists.{joined_length, joined-cong}
use Rattle.state.specs.declared.panel.Panel.{Panel}
use Rattle.state.proofs.Valid.{Panelled, narrow}
use Rattle.printed.specs.Printed.{character_row, characters, frame_line, frame_lines}
use Rattle.printed.specs.Text.{hex_line, hex_line_at, hex_lines}
use Rattle.printed.proofs.Puts.{dot-line-length}

-- the input up to a place
pub start_is : (l : List ℕ) (most : ℕ) {e : ℕ} → e ≡ min most (length l) → take e l ≡ take most l
start_is l most {e} i = go (dec_lt (length l) most)
  where
    go : Dec (length l < most) → take e l ≡ take most l
    go (yes h) = take_all e l (omega arith) ∙ sym (take_all most l (omega arith))
    go (no h) = let a : e ≡ most = omega arith in ap (λ (n : ℕ). take n l) a

-- the largest row, frame and frame text
module _ (p : Panel) (q : Panelled p) where
  pub dots-few : p.columns * p.width ≤ 640
  dots-few = mul-le-mul {n₂ = 80} {m₂ = 8} q.columns (narrow q)

  pub lines-few : 8 * p.lines * (p.columns * p.width + 1) ≤ 164096
  lines-few = mul-le-mul {n₂ = 256} {m₂ = 641} (omega (arith, q.lines)) (omega (arith, dots-few))

-- how long the parts are
pub hex-lines-length : (given : ℕ) (bytes : List ℕ) → length (hex_lines given bytes) ≡ given * 3
unfolding hex_lines
hex-lines-length given bytes = joined_length given 3 (hex_line_at bytes) (λ i. refl)

-- the lines of the first bytes
pub hex-lines-first : (given : ℕ) (bytes : List ℕ) → given ≤ length bytes → hex_lines (length (take given bytes)) (take given bytes) ≡ hex_lines given bytes
unfolding hex_lines
hex-lines-first given bytes h =
    ap (λ (n : ℕ). joined n (hex_line_at (take given bytes))) (length-take-le given bytes h)
    ∙ joined-cong given (hex_line_at (take given bytes)) (hex_line_at bytes) (λ i l. ap hex_line (get_or-take given bytes i 0 l))

pub frame-lines-length : (p : Panel) (frame : List ℕ) → length (frame_lines p frame) ≡ 8 * p.lines * (p.columns * p.width + 1)
unfolding frame_lines
frame-lines-length p frame =
    joined_length (8 * p.lines) (p.columns * p.width + 1) (frame_line p frame) (λ r. dot-line-length frame (r * row_bytes p.columns p.width) (p.columns * p.width))

pub zeros-length : (n : ℕ) → length (zeros n) ≡ n
unfolding zeros
zeros-length n = length-replicate n 0

pub zeros-are : (n : ℕ) → replicate n 0 ≡ zeros n
unfolding zeros
zeros-are n = refl

pub characters-are : {rom : List ℕ} {n : ℕ} → rom ≡ build n character_row → n ≡ 1024 → rom ≡ characters
unfolding characters
characters-are h e = h ∙ ap (λ (m : ℕ). build m character_row) e
