-- Two answers that meet the promise of `enter` are equal, and so are the lists that they leave.
use Rattle.std.proofs.Common.{◌≡◌, ℕ, Bool, true, false, List, Result, Ok, Err, sym, ap, ◌∙◌, arith}
use Rattle.entries.specs.declared.enter.Entries.{Entries}
use Rattle.entries.specs.declared.enter.NoRoom.{NoRoom}
use Rattle.entries.specs.Entered.{Entered, EnteredAll, entered, entered_all}

same_entered : (x y : Result Entries NoRoom) → entered x ≡ entered y → x ≡ y
same_entered (Ok a) (Ok b) e = grind arith
same_entered (Ok a) (Err b) e = grind arith
same_entered (Err a) (Ok b) e = grind arith
same_entered (Err a) (Err b) e = grind arith

pub enter-result-settled : (x y : Result Entries NoRoom) (l m : List ℕ) {o : EnteredAll} → entered_all (entered x) l ≡ o → entered_all (entered y) m ≡ o
    → (x ≡ y) × (l ≡ m)
enter-result-settled x y l m h k =
    let e = h ∙ sym k in
    (same_entered x y (ap (λ (a : EnteredAll). a.entered) e), ap (λ (a : EnteredAll). a.list) e)
