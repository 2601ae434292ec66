-- A run's line stands in its room.
use mathlib.Core.Path.{◌≡◌}
use mathlib.Core.List.{List}
use Prim.Native.Nat.{ℕ, ◌≤◌}
use lib.Dec.{leb}
use lib.ListN.{length}
use Rattle.printed.specs.Printed.{first_line, printed}
use Rattle.printed.specs.Parts.{print_line_of}
use Rattle.printed.proofs.Texts.{printed-within}

pub line-within : (pairs answers number place : ℕ) (out : List ℕ) {w : ℕ} {b : List ℕ} → printed w b ≡ print_line_of pairs answers number place out → w ≤ length b
unfolding print_line_of
line-within pairs answers number place out h = printed-within (leb 112 (length out)) (first_line pairs answers number place) out h
