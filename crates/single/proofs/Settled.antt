-- Two results that meet the promise of an access are equal, and so are the registers and the memory that they leave.
use Rattle.std.proofs.Common.{◌≡◌, ℕ, List, Option, Some, None, Result, Ok, Err, OnErr, sym, ◌∙◌, arith}
use Rattle.state.specs.declared.refusal.Refusal.{Refusal}
use Rattle.state.proofs.RefusalNumbers.{same_number}
use Rattle.single.specs.Types.{Registers}
use Rattle.sight.specs.Steps.{Step}
use Rattle.single.specs.Outcome.{outcome}
use Rattle.effects.specs.Machine.{Machine}

one : (x y : Result (Option ℕ) Refusal) (r s r' : Registers) (m n m' : List ℕ) → outcome x r m ≡ outcome y s n
    → OnErr x ((r ≡ r') × (m ≡ m')) → OnErr y ((s ≡ r') × (n ≡ m'))
    → (x ≡ y) × ((r ≡ s) × (m ≡ n))
one (Ok None) (Ok None) r s r' m n m' e h k = grind arith
one (Ok None) (Ok (Some b)) r s r' m n m' e h k = grind arith
one (Ok None) (Err b) r s r' m n m' e h k = grind arith
one (Ok (Some a)) (Ok None) r s r' m n m' e h k = grind arith
one (Ok (Some a)) (Ok (Some b)) r s r' m n m' e h k = grind arith
one (Ok (Some a)) (Err b) r s r' m n m' e h k = grind arith
one (Err a) (Ok None) r s r' m n m' e h k = grind arith
one (Err a) (Ok (Some b)) r s r' m n m' e h k = grind arith
one (Err a) (Err b) r s r' m n m' e h k = grind (arith, same_number)

pub result-settled : (x y : Result (Option ℕ) Refusal) (r s r' : Registers) (m n m' : List ℕ) {o : Step Machine}
    → outcome x r m ≡ o → outcome y s n ≡ o
    → OnErr x ((r ≡ r') × (m ≡ m')) → OnErr y ((s ≡ r') × (n ≡ m'))
    → (x ≡ y) × ((r ≡ s) × (m ≡ n))
result-settled x y r s r' m n m' e f h k = one x y r s r' m n m' (e ∙ sym f) h k
