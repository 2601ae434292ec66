-- The door of a run with flags.
use Rattle.std.proofs.Common.{◌≡◌, ℕ, ◌/◌, ◌≤◌, min, List, length, take, sym, ap, ◌∙◌, arith, take_all}
use native.Mathlib.Decide.{dec_le}
use Rattle.controller.specs.Run.{pairs_of}
use Rattle.controller.proofs.Runs.{pairs-length}

-- no more pairs than there are
pub least : (n : ℕ) (log : List ℕ) → take n (pairs_of log) ≡ take (min n (length log / 2)) (pairs_of log)
least n log = go (dec_le n (length log / 2))
  where
    go : Dec (n ≤ length log / 2) → take n (pairs_of log) ≡ take (min n (length log / 2)) (pairs_of log)
    go (yes h) = ap (λ (k : ℕ). take k (pairs_of log)) (let e : n ≡ min n (length log / 2) = omega arith in e)
    go (no h) =
        take_all n (pairs_of log) (omega (arith, pairs-length log)) ∙ sym (take_all (length log / 2) (pairs_of log) (omega (arith, pairs-length log)))
        ∙ ap (λ (k : ℕ). take k (pairs_of log)) (let e : length log / 2 ≡ min n (length log / 2) = omega arith in e)
