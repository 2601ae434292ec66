-- The number of a decoded code: one computation over all 256.
use mathlib.Core.Path.{◌≡◌, refl, ap, sym, ◌∙◌}
use mathlib.Core.List.{List}
use Prim.Native.Nat.{ℕ, ◌<◌}
use lib.ListN.{get_or}
use Rattle.ground.specs.Lists.{build}
use Rattle.ground.proofs.Lists.{build-at}
use Rattle.codes.specs.Types.{Decoded}
use Rattle.codes.specs.Command.{decode_of}
use Rattle.codes.specs.Numbers.{defined_code, code_number, decoded_number}

number_at : ℕ → ℕ
number_at code = decoded_number (decode_of code)

numbers : build 256 number_at ≡ build 256 code_number
unfolding build defined_code number_at
numbers = refl

-- the number of a decoded code
pub numbered : {r : Decoded} (code : ℕ) → code < 256 → r ≡ decode_of code → decoded_number r ≡ code_number code
unfolding number_at
numbered code l h =
    ap decoded_number h ∙ sym (build-at 256 number_at code 0 l) ∙ ap (λ (xs : List ℕ). get_or xs code 0) numbers ∙ build-at 256 code_number code 0 l
