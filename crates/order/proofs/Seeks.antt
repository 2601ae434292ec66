-- A body walked to operation i: what is left of it has the two that were asked for.
use mathlib.Core.Path.{◌≡◌, refl, sym, ap, ◌∙◌}
use mathlib.Core.Bool.{Bool, true, false, cond, not, ◌&&◌, ◌||◌}
use Rattle.std.proofs.Common.{Ok, Err}
use denote.Enum.Bare.{sameb}
use Rattle.order.specs.contracts.swap.Kind.{the_type}
use mathlib.Core.List.{List, ◌∷◌}
use Prim.Native.Nat.{ℕ, suc, ◌+◌, ◌-◌, ◌<◌, ◌≤◌}
use native.Mathlib.Omega.{arith}
use lib.ListN.{length, take, drop, length-take, length-drop}
use Rattle.state.specs.declared.panel.Panel.{Panel}
use Rattle.state.specs.State.{valid_panel}
use Rattle.state.specs.declared.refusal.Refused.{Refused as Turned}
use Rattle.state.proofs.RefusalNumbers.{not_zero}
use Rattle.book.specs.declared.check.Checked.{Checked as CheckedBody}
use Rattle.book.specs.Replies.{Checked, checked}
use Rattle.book.specs.declared.operation.Placed.{Placed}
use Rattle.book.specs.declared.operation.Placed.TheVariants.{Text, Rectangle, Dot, Glyph, Cursor, Combine}
use Rattle.book.specs.Replies.{Found, Operation as Found-Operation, End, Faulty}
use Rattle.book.specs.Operation.{Operation, operation_of, found_at}
use Rattle.book.specs.Range.{InRange, FoundOperation}
use Rattle.book.specs.Screen.{Screen, screen, operations_from, screen_of}
use Rattle.book.specs.Checked.{checked_of}
use Rattle.book.proofs.Finding.{found-operation}
use Rattle.book.proofs.Verdicts.{Accepted, checked-is, checked-invalid, checked-refusal}
use Rattle.book.proofs.Walking.{Step, step-on, step_end, step-never-faulty}
use Rattle.picture.specs.Ready.{DrawableBody}
use Rattle.order.specs.Replies.{Swap, May, Stays, NoTwo, Refused, swapped}
use Rattle.order.specs.Order.{operation_number, area_of, unlike_numbers, one_plane, may_by, may_of}
use Rattle.order.specs.Swapping.{beside_of, swap_at, swap_in, swap_of, placed_number, placed_area, kind_of, uses_plane, beside_in}

module _ (p : Panel) (book : List ℕ) where
  placed-number : (o : Placed) → placed_number o ≡ operation_number (operation_of book o)
  placed-number (Text line column from n) = refl
  placed-number (Rectangle top column height width value) = refl
  placed-number (Dot x y on) = refl
  placed-number (Glyph code from) = refl
  placed-number (Cursor line column height blink) = refl
  placed-number (Combine k) = refl

  placed-area : (o : Placed) → InRange p book o → placed_area p o ≡ area_of p (operation_of book o)
  placed-area (Text line column from n) k =
      let e : n ≡ length (take n (drop from book)) = simp (length-take, length-drop) (omega (arith, k.inside)) in
      λ i. record { top = line; left = column; height = 1; width = e i }
  placed-area (Rectangle top column height width value) k = refl
  placed-area (Dot x y on) k = refl
  placed-area (Glyph code from) k = refl
  placed-area (Cursor line column height blink) k = refl
  placed-area (Combine c) k = refl

  placed-may : (a b : Placed) → InRange p book a → InRange p book b
      → may_by (placed_number a) (placed_number b) (placed_area p a) (placed_area p b) ≡ may_of p (operation_of book a) (operation_of book b)
  placed-may a b k l = λ i. may_by (placed-number a i) (placed-number b i) (placed-area a k i) (placed-area b l i)

-- the rule by kinds is the rule by numbers
pub kinds-numbers : (a b : Placed) (shared : Bool) → (not (sameb the_type (kind_of a) (kind_of b)) || (uses_plane (kind_of a) && not shared))
    ≡ (unlike_numbers (placed_number a) (placed_number b) || (one_plane (placed_number a) (placed_number b) && not shared))
kinds-numbers (Text line column from n) (Combine k) s = refl
kinds-numbers (Text line column from n) b s = refl
kinds-numbers (Rectangle top column height width value) (Combine k) s = refl
kinds-numbers (Rectangle top column height width value) b s = refl
kinds-numbers (Dot x y on) (Combine k) s = refl
kinds-numbers (Dot x y on) b s = refl
kinds-numbers (Glyph code from) (Combine k) s = refl
kinds-numbers (Glyph code from) b s = refl
kinds-numbers (Cursor line column height blink) (Combine k) s = refl
kinds-numbers (Cursor line column height blink) b s = refl
kinds-numbers (Combine j) (Combine k) s = refl
kinds-numbers (Combine j) b s = refl

-- with the operations from byte next on still to be walked, n of them walked over
pub record Seeking (p : Panel) (book : List ℕ) (start end i next n : ℕ) : Type 0 where
  pub rest : List Operation
  pub operations : operations_from (end - next) p book next end ≡ screen rest
  pub upto : n ≤ i
  pub gives : swap_at p rest (i - n) ≡ swap_in p (operations_from (end - start) p book start end) i

module _ (p : Panel) (book : List ℕ) (start end i : ℕ) where
  module _ {next n : ℕ} (k : Seeking p book start end i next n) where
    module _ {o : Placed} {behind : ℕ} (e : found_at p book next end ≡ Found-Operation o behind) where
      pub seeking-found : FoundOperation p book next end o behind
      seeking-found = found-operation p book next end e

      step : Step p book end o behind k.rest
      step = step-on p book next end k.operations e

      -- the first is not reached yet
      pub seeking-on : n < i → Seeking p book start end i behind (n + 1)
      unfolding swap_at
      seeking-on l =
          let m : i - n ≡ suc (i - (n + 1)) = omega arith in
          record {
            rest = step.rest;
            operations = step.left;
            upto = omega arith;
            gives = sym (ap (swap_at p (operation_of book o ∷ step.rest)) m)
                ∙ ap (λ (os : List Operation). swap_at p os (i - n)) (sym step.is) ∙ k.gives;
          }

      beside-is : (g : Found) → found_at p book behind end ≡ g → beside_in p o g ≡ beside_of p (operation_of book o) step.rest
      beside-is (Found-Operation b after) d =
          let l : FoundOperation p book behind end b after = found-operation p book behind end d in
          let s : Step p book end b after step.rest = step-on p book behind end step.left d in
          ap (λ (t : Bool). cond t May Stays) (placed-may p book o b seeking-found.range l.range)
          ∙ ap (λ (os : List Operation). beside_of p (operation_of book o) os) (sym s.is)
      beside-is End d = ap (λ (os : List Operation). beside_of p (operation_of book o) os) (sym (step_end p book behind end step.left d))
      beside-is Faulty d = absurd (step-never-faulty p book behind end step.left d)

      -- it is
      pub seeking-here : i ≤ n → {r : Swap} → r ≡ beside_in p o (found_at p book behind end) → r ≡ swap_in p (operations_from (end - start) p book start end) i
      unfolding swap_at
      seeking-here z d =
          let m : 0 ≡ i - n = omega arith in
          d ∙ beside-is (found_at p book behind end) refl
          ∙ ap (λ (os : List Operation). swap_at p os 0) (sym step.is)
          ∙ ap (swap_at p k.rest) m ∙ k.gives

    pub seeking-ends : found_at p book next end ≡ End → NoTwo ≡ swap_in p (operations_from (end - start) p book start end) i
    unfolding swap_at
    seeking-ends e = ap (λ (os : List Operation). swap_at p os (i - n)) (sym (step_end p book next end k.operations e)) ∙ k.gives

    pub seeking-never : found_at p book next end ≡ Faulty → ⊥
    seeking-never e = step-never-faulty p book next end k.operations e

-- what is answered, by what checking the screen answered
module _ (p : Panel) (book : List ℕ) (key i : ℕ) where
  pub swap-refused : (e : Turned) → checked (Err e) ≡ checked_of p book key → swapped (Err e) ≡ swap_of p book key i
  unfolding swap_of
  swap-refused e h = go (valid_panel p) refl
    where
      go : (v : Bool) → valid_panel p ≡ v → swapped (Err e) ≡ cond v (swap_in p (screen_of p book key) i) (Refused 1 0)
      go true v = ap (λ (x : Screen). swap_in p x i) (sym (checked-refusal p book key h v (not_zero e.refusal)))
      go false v = ap (λ (x : Checked). Refused x.number x.place) (checked-invalid p book key h v)

  module _ {c : CheckedBody} (h : checked (Ok c) ≡ checked_of p book key) where
    accepted : Accepted p book key (checked (Ok c))
    accepted = checked-is p book key h refl

    pub swap-body : DrawableBody p book c.start c.end
    swap-body = record { panel = accepted.panel; os = accepted.os; operations = accepted.operations }

    pub swap-found : {x : Swap} → x ≡ swap_in p (operations_from (c.end - c.start) p book c.start c.end) i → x ≡ swap_of p book key i
    unfolding swap_of
    swap-found e =
        e ∙ ap (λ (y : Screen). swap_in p y i) (accepted.operations ∙ sym accepted.whole)
        ∙ ap (λ (v : Bool). cond v (swap_in p (screen_of p book key) i) (Refused 1 0)) (sym accepted.panel)
