-- Two answers of `enter` that meet its promise are equal.
use Rattle.std.proofs.Common.{◌≡◌, ℕ, Result, Ok, Err, sym, ap, ◌∙◌, arith}
use Rattle.state.specs.declared.refusal.Refusal.{Refusal}
use Rattle.state.specs.declared.registers.Registers.{Registers}
use Rattle.state.proofs.RefusalNumbers.{same_number}
use Rattle.image.specs.Entries.{Entry, State, Refused, entry}

same_entry : (x y : Result Registers Refusal) → entry x ≡ entry y → x ≡ y
same_entry (Ok a) (Ok b) e = grind arith
same_entry (Ok a) (Err b) e = grind arith
same_entry (Err a) (Ok b) e = grind arith
same_entry (Err a) (Err b) e = grind (arith, same_number)

pub enter-result-settled : {x y : Result Registers Refusal} {o : Entry} → entry x ≡ o → entry y ≡ o → x ≡ y
enter-result-settled {x} {y} h k = same_entry x y (h ∙ sym k)
