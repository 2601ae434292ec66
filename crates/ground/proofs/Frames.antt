-- The laws of frames: their length, their rows, bytes and dots, and that equal cells make equal frames.
use Rattle.std.proofs.Common.{◌≡◌, ℕ, ◌+◌, ◌-◌, ◌*◌, ◌/◌, ◌%◌, ◌^◌, ◌<◌, length, get_or, take, drop, ap, ◌∙◌, arith}
use Rattle.ground.specs.Packing.{dot_at, packed, row_bytes, row_from, frame_from}
use Rattle.ground.proofs.Lists.{build-at, joined_at, joined_length, joined-cong, joined-stretch}
use Rattle.ground.proofs.Packing.{packed-bit, dot-lt, row-length, row-cong}

module _ (C L w : ℕ) where
  pub frame-cong : 0 < w → (f g : ℕ → ℕ → ℕ) → ((r c : ℕ) → r < 8 * L → c < C → f r c ≡ g r c) → frame_from C L w f ≡ frame_from C L w g
  unfolding frame_from
  frame-cong p f g h = joined-cong (8 * L) _ _ (λ r l. row-cong C w p (f r) (g r) (λ c m. h r c l m))

  module _ (cell : ℕ → ℕ → ℕ) where
    pub frame-length : length (frame_from C L w cell) ≡ 8 * L * row_bytes C w
    unfolding frame_from
    frame-length = joined_length (8 * L) (row_bytes C w) (λ r. row_from C w (cell r)) (λ r. row-length C w (cell r))

    -- the row at r is the stretch at r·R
    pub frame_row : (r : ℕ) → r < 8 * L → take (row_bytes C w) (drop (r * row_bytes C w) (frame_from C L w cell)) ≡ row_from C w (cell r)
    unfolding frame_from
    frame_row r h = joined-stretch (8 * L) (row_bytes C w) (λ r. row_from C w (cell r)) (λ r. row-length C w (cell r)) r h

    pub frame_byte : (r j : ℕ) → r < 8 * L → j < row_bytes C w
        → get_or (frame_from C L w cell) (r * row_bytes C w + j) 0 ≡ packed (dot_at C w (cell r)) (8 * j) 8
    unfolding frame_from row_from
    frame_byte r j h k =
        joined_at (8 * L) (row_bytes C w) (λ r. row_from C w (cell r)) 0 (λ r. row-length C w (cell r)) r j h k
        ∙ build-at (row_bytes C w) (λ j. packed (dot_at C w (cell r)) (8 * j) 8) j 0 k

    -- each dot, read off the frame
    pub frame-dot : (r x : ℕ) → r < 8 * L → x < 8 * row_bytes C w
        → get_or (frame_from C L w cell) (r * row_bytes C w + x / 8) 0 / 2 ^ (7 - x % 8) % 2 ≡ dot_at C w (cell r) x
    frame-dot r x h k =
        ap (λ (y : ℕ). y / 2 ^ (7 - x % 8) % 2) (frame_byte r (x / 8) h (omega arith))
        ∙ packed-bit (dot_at C w (cell r)) (dot-lt C w (cell r)) (8 * (x / 8)) 8 (x % 8) (omega arith)
        ∙ ap (dot_at C w (cell r)) (omega arith)
