-- Good operations: one after the other, inside their body, and the same wherever their bytes stand.
use mathlib.Core.Path.{◌≡◌, refl, ap, sym, subst, ◌∙◌}
use mathlib.Core.Bool.{true}
use mathlib.Core.List.{List, [], ◌∷◌}
use Prim.Native.Nat.{ℕ, zero, suc, ◌+◌, ◌-◌, ◌<◌, ◌≤◌}
use native.Mathlib.Omega.{arith}
use lib.ListN.{length}
use Rattle.state.specs.declared.panel.Panel.{Panel}
use Rattle.contents.specs.Contents.{is_two}
use Rattle.book.specs.declared.operation.Placed.{Placed}
use Rattle.book.specs.Replies.{Found, Operation as Found-Operation, End, Faulty}
use Rattle.book.specs.Operation.{Operation, operation_of, found_at}
use Rattle.book.specs.Range.{FoundOperation}
use Rattle.book.specs.Screen.{screen, with_operation, operations_from}
use Rattle.book.proofs.Finding.{found-operation, found-end, at-end}
use Rattle.book.proofs.Walking.{walk-on, walk_end, step-on, step-never-faulty}
use Rattle.book.proofs.Locality.{Alike, alike-less, alike-on, found-moves}
use Rattle.layout.specs.Saved.{after_good, good_until, good_operations}

module _ (p : Panel) (book : List ℕ) (end : ℕ) where
  -- from a byte on, where reading there found f
  abbrev good_by : ℕ → ℕ → Found → ℕ
  good_by n at f = after_good f (λ o next. good_until n p book next end) at

  stays : (n at : ℕ) → end ≤ at → good_until n p book at end ≡ at
  unfolding good_until
  stays zero at h = refl
  stays (suc n) at h = ap (good_by n at) (at-end p book at end h)

  -- not before it begins, and not behind the body
  pub good-within : (n at : ℕ) → at ≤ end → (at ≤ good_until n p book at end) × (good_until n p book at end ≤ end)
  unfolding good_until
  good-within zero at h = (omega arith, h)
  good-within (suc n) at h = go (found_at p book at end) refl (λ next l. good-within n next l)
    where
      go : (f : Found) → found_at p book at end ≡ f → ((next : ℕ) → next ≤ end → (next ≤ good_until n p book next end) × (good_until n p book next end ≤ end))
          → (at ≤ good_by n at f) × (good_by n at f ≤ end)
      go (Found-Operation o next) e ih =
          let k = found-operation p book at end e in
          let i = ih next k.to_end in
          (omega (arith, k.on, i.0), i.1)
      go End e ih = (omega arith, h)
      go Faulty e ih = (omega arith, h)

  -- no more fuel is used than the body has bytes
  pub good-fuel : (n m at : ℕ) → end - at ≤ n → end - at ≤ m → good_until n p book at end ≡ good_until m p book at end
  unfolding good_until
  good-fuel zero m at h k = sym (stays m at (omega arith))
  good-fuel (suc n) zero at h k = stays (suc n) at (omega arith)
  good-fuel (suc n) (suc m) at h k = go (found_at p book at end) refl (λ next l. good-fuel n m next (omega arith) (omega arith))
    where
      go : (f : Found) → found_at p book at end ≡ f → ((next : ℕ) → at < next → good_until n p book next end ≡ good_until m p book next end) → good_by n at f ≡ good_by m at f
      go (Found-Operation o next) e ih = ih next (found-operation p book at end e).on
      go End e ih = refl
      go Faulty e ih = refl

  -- what is left of a body, taken as the whole
  pub record GoodSoFar (start at : ℕ) : Type 0 where
    pub same : good_until (end - at) p book at end ≡ good_until (end - start) p book start end

  pub good-starts : (start : ℕ) → GoodSoFar start start
  good-starts start = record { same = refl }

  module _ {start at : ℕ} (k : GoodSoFar start at) {f : Found} (i : f ≡ found_at p book at end) where
    told : {x : Found} → f ≡ x → good_by (end - at) at x ≡ good_until (end - start) p book start end
    unfolding good_until
    told e = ap (good_by (end - at) at) (sym e ∙ i) ∙ good-fuel (suc (end - at)) (end - at) at (omega arith) (omega arith) ∙ k.same

    pub good-found : {o : Placed} {next : ℕ} → f ≡ Found-Operation o next → FoundOperation p book at end o next
    good-found e = found-operation p book at end (sym i ∙ e)

    pub good-on : {o : Placed} {next : ℕ} → f ≡ Found-Operation o next → GoodSoFar start next
    good-on {o} {next} e =
        let l : at < next = (good-found e).on in
        record { same = good-fuel (end - next) (end - at) next (omega arith) (omega arith) ∙ told e }

    pub good-ends : f ≡ End → at ≡ good_until (end - start) p book start end
    good-ends e = told e

    pub good-faulty : f ≡ Faulty → at ≡ good_until (end - start) p book start end
    good-faulty e = told e

  -- a body whose operations are all sound is good to its end
  pub sound-good : (n at : ℕ) {os : List Operation} → end - at ≤ n → at ≤ end → operations_from (end - at) p book at end ≡ screen os → good_until n p book at end ≡ end
  unfolding good_until
  sound-good zero at f l h = omega arith
  sound-good (suc n) at f l h = go (found_at p book at end) refl (λ next rest i j k. sound-good n next i j k)
    where
      go : (x : Found) → found_at p book at end ≡ x
          → ((next : ℕ) (rest : List Operation) → end - next ≤ n → next ≤ end → operations_from (end - next) p book next end ≡ screen rest → good_until n p book next end ≡ end)
          → good_by n at x ≡ end
      go (Found-Operation o next) e ih =
          let k = found-operation p book at end e in
          let s = step-on p book at end h e in
          ih next s.rest (omega (arith, k.on)) k.to_end s.left
      go End e ih = let m = found-end p book at end e in omega arith
      go Faulty e ih = absurd (step-never-faulty p book at end h e)

-- good operations read the same in a body that ends behind them
pub good-move : (p : Panel) (a b : List ℕ) (n at at' end end' : ℕ) → at ≤ end → Alike a at b at' (good_until n p a at end - at) → at' + (good_until n p a at end - at) ≡ end'
    → end' ≤ length b → (is_two b ≡ true → is_two a ≡ true) → operations_from (end' - at') p b at' end' ≡ screen (good_operations n p a at end)
unfolding good_until good_operations
good-move p a b zero at at' end end' l s w inb rule = walk_end p b end' at' (at-end p b at' end' (omega arith))
good-move p a b (suc n) at at' end end' l s w inb rule =
    go (found_at p a at end) refl s w (λ next next' i j k. good-move p a b n next next' end end' i j k inb rule)
  where
    go : (f : Found) → found_at p a at end ≡ f → Alike a at b at' (good_by p a end n at f - at) → at' + (good_by p a end n at f - at) ≡ end'
        → ((next next' : ℕ) → next ≤ end → Alike a next b next' (good_until n p a next end - next) → next' + (good_until n p a next end - next) ≡ end'
        → operations_from (end' - next') p b next' end' ≡ screen (good_operations n p a next end))
        → operations_from (end' - at') p b at' end' ≡ screen (after_good f (λ o next. operation_of a o ∷ good_operations n p a next end) [])
    go End e s w ih = walk_end p b end' at' (at-end p b at' end' (omega arith))
    go Faulty e s w ih = walk_end p b end' at' (at-end p b at' end' (omega arith))
    go (Found-Operation o next) e s w ih =
        let k = found-operation p a at end e in
        let g : ℕ = good_until n p a next end in
        let i : next ≤ g = (good-within p a end n next k.to_end).0 in
        let m : ℕ = next - at in
        let t = found-moves p a b at at' end end' e (alike-less s (omega arith)) (omega (arith, k.on)) inb rule in
        let x : at + m ≡ next = omega (arith, k.on) in
        let y : g - at - m ≡ g - next = omega (arith, k.on) in
        let c : Alike a (at + m) b (at' + m) (g - at - m) = alike-on s (omega arith) in
        let d : Alike a next b (at' + m) (g - next) = subst (λ (j : ℕ). Alike a j b (at' + m) (g - next)) x (subst (Alike a (at + m) b (at' + m)) y c) in
        walk-on p b end' at' t.found
        ∙ ap (with_operation (operation_of b t.placed)) (ih next (at' + m) k.to_end d (omega (arith, k.on)))
        ∙ ap (λ (u : Operation). screen (u ∷ good_operations n p a next end)) (sym t.same)
