-- The number and place of what is read, and that no screen is refused with 0.
use mathlib.Core.Path.{◌≡◌, refl, ap, ◌∙◌}
use mathlib.Core.List.{List, []}
use mathlib.Core.Logic.{⊎_elim}
use Prim.Native.Nat.{ℕ, ◌-◌}
use native.Mathlib.Omega.{arith}
use Rattle.state.specs.declared.panel.Panel.{Panel}
use Rattle.contents.specs.Replies.{Asked, Body as Asked-Body, Refused}
use Rattle.contents.specs.Asked.{asked_of}
use Rattle.contents.proofs.Asking.{asked-number}
use Rattle.book.specs.Replies.{Found, Operation as Found-Operation, End, Faulty}
use Rattle.book.specs.Operation.{operation_of, found_at}
use Rattle.book.specs.Screen.{screen, refused, with_operation, after_found, operations_from, screen_in, screen_of}
use Rattle.book.specs.Numbers.{screen_number, screen_place, found_number, found_place}
use Rattle.book.proofs.Walking.{walk-number}

-- what is read at a byte, with the number and place that one operation more of a screen gets there
pub found-numbered : (p : Panel) (book : List ℕ) (at end : ℕ) {r : Found} → r ≡ found_at p book at end
    → (r ≡ found_at p book at end)
    × ((found_number r ≡ screen_number (operations_from 1 p book at end)) × (found_place at r ≡ screen_place (operations_from 1 p book at end)))
unfolding operations_from
found-numbered p book at end h =
    (h, (ap found_number h ∙ number (found_at p book at end), ap (found_place at) h ∙ place (found_at p book at end)))
  where
    number : (f : Found) → found_number f ≡ screen_number (after_found f (λ o next. with_operation (operation_of book o) (screen [])) (screen []) (refused 11 at))
    number (Found-Operation o next) = refl
    number End = refl
    number Faulty = refl

    place : (f : Found) → found_place at f ≡ screen_place (after_found f (λ o next. with_operation (operation_of book o) (screen [])) (screen []) (refused 11 at))
    place (Found-Operation o next) = refl
    place End = refl
    place Faulty = refl

-- a screen is refused with 9, 10 or 11
pub refusal-number : (p : Panel) (book : List ℕ) (number : ℕ) {n place : ℕ} → screen_of p book number ≡ refused n place → n ≡ 0 → ⊥
unfolding screen_of
refusal-number p book number {n} {place} e z = go (asked_of book number) refl e
  where
    go : (a : Asked) → asked_of book number ≡ a → screen_in p book a ≡ refused n place → ⊥
    go (Asked-Body start end) a h = let i = walk-number p book end (end - start) start h in omega arith
    go (Refused m at) a h =
        let i : m ≡ n = ap screen_number h in
        ⊎_elim (λ k. let y : ⊥ = omega arith in y) (λ k. let y : ⊥ = omega arith in y) (asked-number book number a)
