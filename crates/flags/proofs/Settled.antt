-- Two results that meet the promise of an access that keeps the flags are equal, and so are the registers, the memory and the flags that they
-- leave.
use Rattle.std.proofs.Common.{◌≡◌, ℕ, List, Option, Some, None, Result, Ok, Err, OnErr, sym, ◌∙◌, arith}
use Rattle.state.specs.declared.refusal.Refusal.{Refusal}
use Rattle.state.proofs.RefusalNumbers.{same_number}
use Rattle.controller.specs.Access.{Step}
use Rattle.flags.specs.Types.{Registers}
use Rattle.flags.specs.Flags.{Flagged}
use Rattle.flags.specs.Outcome.{flag_outcome}

one : (x y : Result (Option ℕ) Refusal) (r s r' : Registers) (m n m' f g f' : List ℕ) → flag_outcome x r m f ≡ flag_outcome y s n g
    → OnErr x ((r ≡ r') × ((m ≡ m') × (f ≡ f'))) → OnErr y ((s ≡ r') × ((n ≡ m') × (g ≡ f')))
    → (x ≡ y) × ((r ≡ s) × ((m ≡ n) × (f ≡ g)))
one (Ok None) (Ok None) r s r' m n m' f g f' e h k = grind arith
one (Ok None) (Ok (Some b)) r s r' m n m' f g f' e h k = grind arith
one (Ok None) (Err b) r s r' m n m' f g f' e h k = grind arith
one (Ok (Some a)) (Ok None) r s r' m n m' f g f' e h k = grind arith
one (Ok (Some a)) (Ok (Some b)) r s r' m n m' f g f' e h k = grind arith
one (Ok (Some a)) (Err b) r s r' m n m' f g f' e h k = grind arith
one (Err a) (Ok None) r s r' m n m' f g f' e h k = grind arith
one (Err a) (Ok (Some b)) r s r' m n m' f g f' e h k = grind arith
one (Err a) (Err b) r s r' m n m' f g f' e h k = grind (arith, same_number)

pub follow-result-settled : (x y : Result (Option ℕ) Refusal) (r s r' : Registers) (m n m' f g f' : List ℕ) {o : Step Flagged}
    → flag_outcome x r m f ≡ o → flag_outcome y s n g ≡ o
    → OnErr x ((r ≡ r') × ((m ≡ m') × (f ≡ f'))) → OnErr y ((s ≡ r') × ((n ≡ m') × (g ≡ f')))
    → (x ≡ y) × ((r ≡ s) × ((m ≡ n) × (f ≡ g)))
follow-result-settled x y r s r' m n m' f g f' d e h k = one x y r s r' m n m' f g f' (d ∙ sym e) h k
