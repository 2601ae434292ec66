-- An operation and a body put into a room: the operations still to be put, with room for them.
use mathlib.Core.Path.{◌≡◌, ap, sym, subst, ◌∙◌}
use mathlib.Core.Bool.{true}
use mathlib.Core.List.{List}
use Prim.Native.Nat.{ℕ, ◌+◌, ◌-◌}
use native.Mathlib.Omega.{arith}
use Rattle.state.specs.declared.panel.Panel.{Panel}
use Rattle.state.specs.State.{valid_panel}
use Rattle.book.specs.declared.operation.Placed.{Placed}
use Rattle.book.specs.Replies.{Found, Operation as Found-Operation, End, Faulty}
use Rattle.book.specs.Operation.{Operation, body_count, operation_of, found_at}
use Rattle.book.specs.Pairs.{placed_pairs}
use Rattle.book.specs.Range.{InRange, FoundOperation}
use Rattle.book.specs.Screen.{screen, operations_from}
use Rattle.book.proofs.Finding.{found-operation, pairs-placed}
use Rattle.book.proofs.Walking.{Step, step-on, step_end, step-never-faulty}
use Rattle.writer.specs.Stream.{operation_pairs, body_pairs}
use Rattle.writer.specs.declared.put.Stream.{Stream}
use Rattle.writer.specs.Put.{Puts, RoomFor, operations_in, Roomy, WritableBody}
use Rattle.writer.proofs.Lengths.{operation-length}
use Rattle.writer.proofs.Puts.{Putting, putting, put_on, put-over}

-- with the operations from byte next on still to be put behind b
pub record Writing (p : Panel) (book : List ℕ) (start end : ℕ) (a b : Stream) (next : ℕ) : Type 0 where
  pub valid : valid_panel p ≡ true
  pub rest : List Operation
  pub left : operations_from (end - next) p book next end ≡ screen rest
  pub puts : Putting a (body_pairs p (operations_in (operations_from (end - start) p book start end))) b (body_pairs p rest)
  pub fits : RoomFor (body_count rest) b

module _ (p : Panel) (book : List ℕ) (start end : ℕ) {a : Stream} where
  pub writing : WritableBody p book start end a → Writing p book start end a a start
  writing s =
      let os : List Operation = operations_in (operations_from (end - start) p book start end) in
      let e : s.os ≡ os = sym (ap operations_in s.operations) in
      record {
        valid = s.panel;
        rest = os;
        left = s.operations ∙ ap screen e;
        puts = putting a (body_pairs p os);
        fits = subst (λ (r : List Operation). RoomFor (body_count r) a) e s.fits;
      }

  module _ {b : Stream} {next : ℕ} (k : Writing p book start end a b next) {f : Found} (i : f ≡ found_at p book next end) where
    module _ {o : Placed} {behind : ℕ} (e : f ≡ Found-Operation o behind) where
      pub writing-found : FoundOperation p book next end o behind
      writing-found = found-operation p book next end (sym i ∙ e)

      step : Step p book end o behind k.rest
      step = step-on p book next end k.left (sym i ∙ e)

      count-is : body_count k.rest ≡ placed_pairs o + body_count step.rest
      unfolding body_count
      count-is = ap body_count step.is ∙ ap (λ (m : ℕ). m + body_count step.rest) (pairs-placed p book o writing-found.range)

      pub writing-ready : Roomy p (InRange p book o) (placed_pairs o) b
      writing-ready = record { valid = k.valid; range = writing-found.range; fits = omega (arith, k.fits, count-is) }

      pub writing-on : {c : Stream} → Puts b (operation_pairs p (operation_of book o)) c → Writing p book start end a c behind
      unfolding body_pairs
      writing-on x =
          record {
            valid = k.valid;
            rest = step.rest;
            left = step.left;
            puts = put_on
                (subst (λ (r : List Operation). Putting a (body_pairs p (operations_in (operations_from (end - start) p book start end))) b (body_pairs p r)) step.is k.puts)
                x;
            fits = omega
                (arith, k.fits, count-is, x.ends, x.kept, operation-length p book o writing-found.range, pairs-placed p book o writing-found.range);
          }

    pub writing-ends : f ≡ End → Puts a (body_pairs p (operations_in (operations_from (end - start) p book start end))) b
    unfolding body_pairs
    writing-ends e =
        put-over
        (subst (λ (r : List Operation). Putting a (body_pairs p (operations_in (operations_from (end - start) p book start end))) b (body_pairs p r))
        (step_end p book next end k.left (sym i ∙ e)) k.puts)

    pub writing-never : f ≡ Faulty → ⊥
    writing-never e = step-never-faulty p book next end k.left (sym i ∙ e)
