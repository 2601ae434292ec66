-- A whole screen checked: each answer, and what an answer says to whoever goes on.
use mathlib.Core.Path.{◌≡◌, refl, ap, sym, subst, ◌∙◌}
use mathlib.Core.Bool.{Bool, true, false, cond}
use mathlib.Core.List.{List}
use mathlib.Core.Logic.{⊎_elim}
use Prim.Native.Nat.{ℕ, ◌-◌, ◌*◌, ◌≤◌}
use native.Mathlib.Omega.{arith}
use Rattle.ground.proofs.Tests.{settled}
use Rattle.state.specs.declared.panel.Panel.{Panel}
use Rattle.state.specs.State.{valid_panel}
use Rattle.state.proofs.Valid.{panelled}
use Rattle.state.specs.declared.refusal.Refused.{Refused as Turned}
use Rattle.state.proofs.RefusalNumbers.{not_zero, same_number}
use Rattle.book.specs.declared.check.Checked.{Checked as Checked-Body}
use Rattle.book.specs.Replies.{Checked, checked}
use Rattle.std.specs.Prelude.{Result, Ok, Err}
use Rattle.contents.specs.Replies.{Asked, Body as Asked-Body, Refused}
use Rattle.book.specs.Operation.{Operation, body_count}
use Rattle.contents.specs.Inside.{Inside}
use Rattle.book.specs.Screen.{Screen, screen, refused, operations_from, screen_in, screen_of}
use Rattle.contents.specs.Asked.{asked_of}
use Rattle.book.specs.Checked.{refused_with, counted_of, checked_in, checked_of}
use Rattle.contents.proofs.Asking.{asked-inside, asked-number}
use Rattle.book.proofs.Finding.{most_pairs}
use Rattle.book.proofs.Walking.{walk-number}
use Rattle.book.proofs.Counting.{body-few}

-- each answer
module _ (p : Panel) (book : List ℕ) (number : ℕ) {v : Bool} (i : v ≡ valid_panel p) where
  checked-as : (t : Bool) → v ≡ t → cond t (checked_in p book (asked_of book number)) (refused_with 1 0) ≡ checked_of p book number
  unfolding checked_of
  checked-as t e = ap (λ (x : Bool). cond x (checked_in p book (asked_of book number)) (refused_with 1 0)) (sym e ∙ i)

  pub checked-1 : {r : Checked} → v ≡ false → r ≡ refused_with 1 0 → r ≡ checked_of p book number
  checked-1 e h = h ∙ checked-as false e

  module _ (e : v ≡ true) {a : Asked} (j : a ≡ asked_of book number) where
    pub checked_refused : {n place : ℕ} {r : Checked} → a ≡ Refused n place → r ≡ refused_with n place → r ≡ checked_of p book number
    checked_refused k h = h ∙ ap (checked_in p book) (sym k ∙ j) ∙ checked-as true e

    pub checked-body : {start end : ℕ} {r : Checked} → a ≡ Asked-Body start end → r ≡ counted_of start end (operations_from (end - start) p book start end)
        → r ≡ checked_of p book number
    checked-body k h = h ∙ ap (checked_in p book) (sym k ∙ j) ∙ checked-as true e

-- a screen that was accepted
pub record Accepted (p : Panel) (book : List ℕ) (number : ℕ) (r : Checked) : Type 0 where
  pub panel : valid_panel p ≡ true
  pub asked : asked_of book number ≡ Asked-Body r.start r.end
  pub inside : Inside book r.start r.end
  pub os : List Operation
  pub operations : operations_from (r.end - r.start) p book r.start r.end ≡ screen os
  pub whole : screen_of p book number ≡ screen os
  pub pairs : r.pairs ≡ body_count os
  pub few : r.pairs ≤ most_pairs * 32768
  pub place : r.place ≡ 0

module _ (p : Panel) (book : List ℕ) (number : ℕ) where
  counted_is : (start end : ℕ) → valid_panel p ≡ true → asked_of book number ≡ Asked-Body start end
      → (x : Screen) → operations_from (end - start) p book start end ≡ x → (counted_of start end x).number ≡ 0 → Accepted p book number (counted_of start end x)
  unfolding screen_of
  counted_is start end v a (screen os) e z =
      let k = asked-inside book number a in
      record {
        panel = v;
        asked = a;
        inside = k;
        os = os;
        operations = e;
        whole = ap (screen_in p book) a ∙ e;
        pairs = refl;
        few = omega (arith, body-few p (panelled p v) book end (end - start) start e, k.in_book, k.short);
        place = refl;
      }
  counted_is start end v a (refused n place) e z = let i = walk-number p book end (end - start) start e in absurd (let y : ⊥ = omega arith in y)

  asked_is : valid_panel p ≡ true → (a : Asked) → asked_of book number ≡ a → (checked_in p book a).number ≡ 0 → Accepted p book number (checked_in p book a)
  asked_is v (Asked-Body start end) a z = counted_is start end v a (operations_from (end - start) p book start end) refl z
  asked_is v (Refused n place) a z = absurd (⊎_elim (λ i. let y : ⊥ = omega arith in y) (λ i. let y : ⊥ = omega arith in y) (asked-number book number a))

  verdict : (v : Bool) → valid_panel p ≡ v → (cond v (checked_in p book (asked_of book number)) (refused_with 1 0)).number ≡ 0
      → Accepted p book number (cond v (checked_in p book (asked_of book number)) (refused_with 1 0))
  verdict true v z = asked_is v (asked_of book number) refl z
  verdict false v z = absurd (let y : ⊥ = omega arith in y)

  -- number 0: a valid panel, the body, and all its operations
  pub checked-is : {r : Checked} → r ≡ checked_of p book number → r.number ≡ 0 → Accepted p book number r
  unfolding checked_of
  checked-is h z =
      subst (λ (x : Checked). Accepted p book number x) (sym h)
      (verdict (valid_panel p) refl (sym (ap (λ (x : Checked). x.number) h) ∙ z))

  pub checked-invalid : {r : Checked} → r ≡ checked_of p book number → valid_panel p ≡ false → r ≡ refused_with 1 0
  checked-invalid h v = h ∙ sym (checked-as p book number refl false v)

  -- another number: the screen is refused with it
  pub checked-refusal : {r : Checked} → r ≡ checked_of p book number → valid_panel p ≡ true → (r.number ≡ 0 → ⊥) → screen_of p book number ≡ refused r.number r.place
  unfolding screen_of
  checked-refusal {r} h v nz =
      let k : r ≡ checked_in p book (asked_of book number) = h ∙ sym (checked-as p book number refl true v) in
      by-asked (asked_of book number) (λ z. nz (ap (λ (x : Checked). x.number) k ∙ z)) ∙ ap (λ (x : Checked). refused x.number x.place) (sym k)
    where
      by-screen : (start end : ℕ) (x : Screen) → ((counted_of start end x).number ≡ 0 → ⊥) → x ≡ refused (counted_of start end x).number (counted_of start end x).place
      by-screen start end (screen os) nz = absurd (nz refl)
      by-screen start end (refused n place) nz = refl

      by-asked : (a : Asked) → ((checked_in p book a).number ≡ 0 → ⊥) → screen_in p book a ≡ refused (checked_in p book a).number (checked_in p book a).place
      by-asked (Asked-Body start end) nz = by-screen start end (operations_from (end - start) p book start end) nz
      by-asked (Refused n place) nz = refl

-- a refusal has a number
pub checked-err : (e : Turned) → (checked (Err e)).number ≡ 0 → ⊥
checked-err e h = not_zero e.refusal h

-- two replies that meet the promise of `check` are equal
pub check-result-settled : {x y : Result Checked-Body Turned} (p : Panel) (book : List ℕ) (number : ℕ) → checked x ≡ checked_of p book number → checked y ≡ checked_of p book number → x ≡ y
check-result-settled {x} {y} p book number h k = go x y (settled h k)
  where
    go : (x y : Result Checked-Body Turned) → checked x ≡ checked y → x ≡ y
    go (Ok c) (Ok d) h = λ i. Ok (record { start = (h i).start; end = (h i).end; pairs = (h i).pairs })
    go (Ok c) (Err e) h = absurd (not_zero e.refusal (ap (λ (r : Checked). r.number) (sym h)))
    go (Err d) (Ok c) h = absurd (not_zero d.refusal (ap (λ (r : Checked). r.number) h))
    go (Err d) (Err e) h =
        let n = same_number d.refusal e.refusal (ap (λ (r : Checked). r.number) h) in
        λ i. Err (record { refusal = n i; place = (h i).place })

-- the same of replies
pub check-settled : {x y : Checked} (p : Panel) (book : List ℕ) (number : ℕ) → x ≡ checked_of p book number → y ≡ checked_of p book number → x ≡ y
check-settled p book number h k = settled h k
