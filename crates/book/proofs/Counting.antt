-- The pairs of a body's operations: few enough to add up, and what counting them in order keeps.
use mathlib.Core.Path.{◌≡◌, refl, ap, sym, ◌∙◌}
use mathlib.Core.Bool.{true}
use mathlib.Core.List.{List}
use Prim.Native.Nat.{ℕ, ◌+◌, ◌-◌, ◌*◌, ◌≤◌}
use native.Mathlib.Nat.{add_assoc, add-zero, zero-add}
use native.Mathlib.Omega.{arith}
use Rattle.state.specs.declared.panel.Panel.{Panel}
use Rattle.state.specs.State.{valid_panel}
use Rattle.state.proofs.Valid.{Panelled, panelled}
use Rattle.book.specs.Replies.{Checked}
use Rattle.book.specs.declared.operation.Placed.{Placed}
use Rattle.book.specs.Replies.{Found, Operation as Found-Operation, End, Faulty}
use Rattle.book.specs.Operation.{Operation, pairs_for, body_count, operation_of, found_at}
use Rattle.book.specs.Pairs.{placed_pairs}
use Rattle.book.specs.Range.{FoundOperation}
use Rattle.book.specs.Screen.{Screen, screen, refused, with_operation, operations_from}
use Rattle.contents.specs.Inside.{Inside}
use Rattle.book.specs.Checked.{refused_with, counted_of}
use Rattle.book.proofs.Finding.{found-operation, pairs-placed, most_pairs, pairs-few}
use Rattle.book.proofs.Walking.{walk-on, walk_end, walk-faulty, walk-all}

abbrev pub counted : ℕ → ℕ → ℕ → Checked
counted start end n = record { number = 0; place = 0; start = start; end = end; pairs = n }

-- with the pairs counted so far
abbrev pub counted_on : ℕ → ℕ → ℕ → Screen → Checked
counted_on start end total (screen os) = counted start end (total + body_count os)
counted_on start end total (refused n place) = refused_with n place

module _ (start end : ℕ) where
  none_yet : (x : Screen) → counted_on start end 0 x ≡ counted_of start end x
  none_yet (screen os) = ap (counted start end) (zero-add (body_count os))
  none_yet (refused n place) = refl

  one_more : (total : ℕ) {n : ℕ} (o : Operation) (x : Screen) → n ≡ pairs_for o → counted_on start end (total + n) x ≡ counted_on start end total (with_operation o x)
  unfolding body_count
  one_more total {n} o (screen os) e =
      ap (counted start end) (add_assoc total n (body_count os) ∙ ap (λ (m : ℕ). total + (m + body_count os)) e)
  one_more total o (refused n place) e = refl

-- each operation takes at most so many pairs
pub body-few : (p : Panel) → Panelled p → (book : List ℕ) (end n at : ℕ) {os : List Operation} → operations_from n p book at end ≡ screen os
    → body_count os ≤ most_pairs * n
unfolding body_count
body-few p q book end =
    walk-all p book end (λ n os. body_count os ≤ most_pairs * n) (λ n. omega arith)
    (λ n at next o os k few.
    omega (arith, pairs-placed p book o k.range, pairs-few p q book o k.range))

-- what is left of a body counted as the whole
pub record Counting (p : Panel) (book : List ℕ) (start end at total : ℕ) : Type 0 where
  pub panel : Panelled p
  pub inside : Inside book start end
  pub from_start : start ≤ at
  pub to_end : at ≤ end
  pub few : total ≤ most_pairs * (at - start)
  pub left : counted_on start end total (operations_from (end - at) p book at end) ≡ counted_of start end (operations_from (end - start) p book start end)

module _ (p : Panel) (book : List ℕ) (start end : ℕ) where
  pub counting-starts : valid_panel p ≡ true → Inside book start end → Counting p book start end start 0
  counting-starts v k =
      record {
        panel = panelled p v;
        inside = k;
        from_start = omega arith;
        to_end = k.order;
        few = omega arith;
        left = none_yet start end (operations_from (end - start) p book start end);
      }

  module _ {at total : ℕ} (k : Counting p book start end at total) {f : Found} (i : f ≡ found_at p book at end) where
    pub counting-found : {o : Placed} {next : ℕ} → f ≡ Found-Operation o next → FoundOperation p book at end o next
    counting-found e = found-operation p book at end (sym i ∙ e)

    pub counting-on : {o : Placed} {next n : ℕ} → f ≡ Found-Operation o next → n ≡ placed_pairs o → Counting p book start end next (total + n)
    counting-on {o} {next} {n} e j =
        let g = found-operation p book at end (sym i ∙ e) in
        let m : n ≤ most_pairs = rw j (pairs-few p k.panel book o g.range) in
        record {
          panel = k.panel;
          inside = k.inside;
          from_start = omega (arith, g.on, k.from_start);
          to_end = g.to_end;
          few = omega (arith, g.on, k.from_start, k.few);
          left =
              one_more start end total (operation_of book o) (operations_from (end - next) p book next end) (j ∙ sym (pairs-placed p book o g.range))
              ∙ ap (counted_on start end total) (sym (walk-on p book end at (sym i ∙ e))) ∙ k.left;
        }

    pub counting-ends : f ≡ End → counted start end total ≡ counted_of start end (operations_from (end - start) p book start end)
    unfolding body_count
    counting-ends e = ap (counted start end) (sym (add-zero total)) ∙ ap (counted_on start end total) (sym (walk_end p book end at (sym i ∙ e))) ∙ k.left

    pub counting-faulty : {r : Checked} → f ≡ Faulty → r ≡ refused_with 11 at → r ≡ counted_of start end (operations_from (end - start) p book start end)
    counting-faulty e h = h ∙ ap (counted_on start end total) (sym (walk-faulty p book end at (sym i ∙ e))) ∙ k.left
