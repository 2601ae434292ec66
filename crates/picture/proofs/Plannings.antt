-- What planning a screen answers, past the tests at the door, by what checking it answered.
use Rattle.std.proofs.Common.{◌≡◌, ℕ, ◌-◌, true, cond, List, Ok, Err, refl, ap, sym, ◌∙◌}
use Rattle.state.specs.declared.panel.Panel.{Panel}
use Rattle.state.specs.declared.refusal.Refused.{Refused}
use Rattle.state.specs.State.{valid_panel}
use Rattle.state.proofs.RefusalNumbers.{not_zero}
use Rattle.book.specs.declared.check.Checked.{Checked}
use Rattle.book.specs.Replies.{checked}
use Rattle.book.specs.Screen.{Screen, screen_of, operations_from}
use Rattle.book.specs.Checked.{checked_of}
use Rattle.book.proofs.Verdicts.{Accepted, checked-is, checked-refusal}
use Rattle.picture.specs.declared.style.Style.{Style}
use Rattle.picture.specs.Picture.{blank, picture_of}
use Rattle.picture.specs.Ready.{picture_with, DrawableBody, applied_in}
use Rattle.picture.specs.Planned.{planned_all, styled, refused_plan, pictured, areas_fit, plan_screen, planes_of}

module _ (p : Panel) (book : List ℕ) (key : ℕ) (v : valid_panel p ≡ true) where
  module _ {c : Checked} (k : checked (Ok c) ≡ checked_of p book key) where
    accepted : Accepted p book key (checked (Ok c))
    accepted = checked-is p book key k refl

    pub plan-body : DrawableBody p book c.start c.end
    plan-body = record { panel = v; os = accepted.os; operations = accepted.operations }

  module _ (g t h : List ℕ) (fit : areas_fit p g t h ≡ true) where
    -- what was lent fits: the screen decides
    planned-by : {s : Screen} → screen_of p book key ≡ s → plan_screen p g t h s ≡ planes_of p book key g t h
    unfolding planes_of
    planned-by e =
        sym
        (λ i. cond (v i) (cond (fit i) (plan_screen p g t h (e i)) (planned_all (refused_plan 2 0) g t h)) (planned_all (refused_plan 1 0) g t h))

    -- 9, 10, 11
    pub plan-refused : (e : Refused) → checked (Err e) ≡ checked_of p book key → planned_all (styled (Err e)) g t h ≡ planes_of p book key g t h
    plan-refused e k = planned-by (checked-refusal p book key k v (not_zero e.refusal))

    pub plan-0 : {c : Checked} → checked (Ok c) ≡ checked_of p book key → {x y z : List ℕ} (s : Style)
        → picture_with x y z s ≡ applied_in p (operations_from (c.end - c.start) p book c.start c.end) (blank p)
        → pictured (picture_with x y z s) ≡ planes_of p book key g t h
    unfolding picture_of
    plan-0 k s e =
        ap pictured (e ∙ ap (λ (y : Screen). applied_in p y (blank p)) (accepted k).operations)
        ∙ planned-by (accepted k).whole
