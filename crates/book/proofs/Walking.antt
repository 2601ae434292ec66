-- A body walked one operation at a time: `operations_from` by what is found at its first byte, and how much fuel it takes.
use mathlib.Core.Path.{◌≡◌, refl, ap, sym, subst, ◌∙◌}
use mathlib.Core.List.{List, [], ◌∷◌}
use Prim.Native.Nat.{ℕ, zero, suc, ◌-◌, ◌<◌, ◌≤◌}
use native.Mathlib.Omega.{arith}
use Rattle.state.specs.declared.panel.Panel.{Panel}
use Rattle.book.specs.declared.operation.Placed.{Placed}
use Rattle.book.specs.Replies.{Found, Operation as Found-Operation, End, Faulty}
use Rattle.book.specs.Operation.{Operation, operation_of, found_at}
use Rattle.book.specs.Range.{FoundOperation}
use Rattle.book.specs.Screen.{Screen, screen, refused, with_operation, after_found, operations_from}
use Rattle.book.proofs.Finding.{found-operation, at-end}

not-refused : {os : List Operation} {n place : ℕ} → screen os ≡ refused n place → ⊥
not-refused h = let z : ◌≡◌ {A = ℕ} 0 1 = cc in omega arith

screen-same : {os ps : List Operation} → screen os ≡ screen ps → os ≡ ps
screen-same h = cc

module _ (p : Panel) (book : List ℕ) (end : ℕ) where
  -- what stands from a byte on, where reading there found f
  abbrev from : ℕ → ℕ → Found → Screen
  from n at f = after_found f (λ o next. with_operation (operation_of book o) (operations_from n p book next end)) (screen []) (refused 11 at)

  ends : (n at : ℕ) → found_at p book at end ≡ End → operations_from n p book at end ≡ screen []
  unfolding operations_from
  ends zero at h = refl
  ends (suc n) at h = ap (from n at) h

  -- no more fuel is used than the body has bytes
  pub same-fuel : (n m at : ℕ) → end - at ≤ n → end - at ≤ m → operations_from n p book at end ≡ operations_from m p book at end
  unfolding operations_from
  same-fuel zero m at h k = sym (ends m at (at-end p book at end (omega arith)))
  same-fuel (suc n) zero at h k = ends (suc n) at (at-end p book at end (omega arith))
  same-fuel (suc n) (suc m) at h k = go (found_at p book at end) refl (λ next l. same-fuel n m next (omega arith) (omega arith))
    where
      go : (f : Found) → found_at p book at end ≡ f → ((next : ℕ) → at < next → operations_from n p book next end ≡ operations_from m p book next end)
          → from n at f ≡ from m at f
      go (Found-Operation o next) e ih = ap (with_operation (operation_of book o)) (ih next (found-operation p book at end e).on)
      go End e ih = refl
      go Faulty e ih = refl

  pub enough-fuel : (n at : ℕ) → end - at ≤ n → operations_from n p book at end ≡ operations_from (end - at) p book at end
  enough-fuel n at h = same-fuel n (end - at) at h (omega arith)

  -- a refusal is 11
  pub walk-number : (n at : ℕ) {k place : ℕ} → operations_from n p book at end ≡ refused k place → k ≡ 11
  unfolding operations_from
  walk-number zero at h = absurd (not-refused h)
  walk-number (suc n) at {k} {place} h = go (found_at p book at end) (λ next i. walk-number n next i) h
    where
      behind : (o : Operation) (x : Screen) → (x ≡ refused k place → k ≡ 11) → with_operation o x ≡ refused k place → k ≡ 11
      behind o (screen os) ih h = absurd (not-refused h)
      behind o (refused i q) ih h = ih h

      go : (f : Found) → ((next : ℕ) → operations_from n p book next end ≡ refused k place → k ≡ 11) → from n at f ≡ refused k place → k ≡ 11
      go (Found-Operation o next) ih h = behind (operation_of book o) (operations_from n p book next end) (ih next) h
      go End ih h = absurd (not-refused h)
      go Faulty ih h = cc

  -- what holds of no operations, and of one that was found before others of which it holds, holds of a whole body
  pub walk-all : (P : ℕ → List Operation → Type 0) → ((n : ℕ) → P n [])
      → ((n at next : ℕ) (o : Placed) (os : List Operation) → FoundOperation p book at end o next → P n os → P (suc n) (operation_of book o ∷ os))
      → (n at : ℕ) {os : List Operation} → operations_from n p book at end ≡ screen os → P n os
  unfolding operations_from
  walk-all P none more zero at h = subst (P 0) (screen-same h) (none 0)
  walk-all P none more (suc n) at {os} h = go (found_at p book at end) refl (λ next rest i. walk-all P none more n next i) h
    where
      behind : (o : Operation) (x : Screen) → ((rest : List Operation) → x ≡ screen rest → P (suc n) (o ∷ rest)) → with_operation o x ≡ screen os → P (suc n) os
      behind o (screen rest) ih h = subst (P (suc n)) (screen-same h) (ih rest refl)
      behind o (refused i q) ih h = absurd (not-refused (sym h))

      go : (f : Found) → found_at p book at end ≡ f → ((next : ℕ) (rest : List Operation) → operations_from n p book next end ≡ screen rest → P n rest)
          → from n at f ≡ screen os → P (suc n) os
      go (Found-Operation o next) e ih h =
          behind (operation_of book o) (operations_from n p book next end) (λ rest i. more n at next o rest (found-operation p book at end e) (ih next rest i)) h
      go End e ih h = subst (P (suc n)) (screen-same h) (none (suc n))
      go Faulty e ih h = absurd (not-refused (sym h))

  module _ (at : ℕ) where
    -- with fuel for one operation more, by what is found
    walk : {f : Found} → found_at p book at end ≡ f → operations_from (end - at) p book at end ≡ from (end - at) at f
    unfolding operations_from
    walk h = same-fuel (end - at) (suc (end - at)) at (omega arith) (omega arith) ∙ ap (from (end - at) at) h

    pub walk-on : {o : Placed} {next : ℕ} → found_at p book at end ≡ Found-Operation o next
        → operations_from (end - at) p book at end ≡ with_operation (operation_of book o) (operations_from (end - next) p book next end)
    walk-on {o} {next} h =
        let l : at < next = (found-operation p book at end h).on in
        walk h ∙ ap (with_operation (operation_of book o)) (enough-fuel (end - at) next (omega arith))

    pub walk_end : found_at p book at end ≡ End → operations_from (end - at) p book at end ≡ screen []
    walk_end h = walk h

    pub walk-faulty : found_at p book at end ≡ Faulty → operations_from (end - at) p book at end ≡ refused 11 at
    walk-faulty h = walk h

-- in a body whose operations are all sound, the one found and those behind it
pub record Step (p : Panel) (book : List ℕ) (end : ℕ) (o : Placed) (next : ℕ) (os : List Operation) : Type 0 where
  pub rest : List Operation
  pub is : os ≡ operation_of book o ∷ rest
  pub left : operations_from (end - next) p book next end ≡ screen rest

module _ (p : Panel) (book : List ℕ) (at end : ℕ) {os : List Operation} (k : operations_from (end - at) p book at end ≡ screen os) where
  pub step-on : {o : Placed} {next : ℕ} → found_at p book at end ≡ Found-Operation o next → Step p book end o next os
  step-on {o} {next} h = go (operations_from (end - next) p book next end) refl (sym (walk-on p book end at h) ∙ k)
    where
      go : (x : Screen) → operations_from (end - next) p book next end ≡ x → with_operation (operation_of book o) x ≡ screen os → Step p book end o next os
      go (screen rest) e f = record { rest = rest; is = sym (screen-same f); left = e }
      go (refused n place) e f = absurd (not-refused (sym f))

  pub step_end : found_at p book at end ≡ End → os ≡ []
  step_end h = screen-same (sym k ∙ walk_end p book end at h)

  pub step-never-faulty : found_at p book at end ≡ Faulty → ⊥
  step-never-faulty h = not-refused (sym k ∙ walk-faulty p book end at h)
