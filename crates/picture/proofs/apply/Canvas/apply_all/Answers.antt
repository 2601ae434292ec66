-- `apply_all` meets its contract: what is left of the body is still to be applied.
use Rattle.std.proofs.Common.{◌≡◌, ℕ, ◌-◌, List, None, sym, subst, ◌∙◌, arith, rules}
use Rattle.book.specs.Screen.{operations_from}
use Rattle.state.specs.declared.panel.Panel.{Panel}
use Rattle.picture.specs.declared.apply.Canvas.{Canvas}
use Rattle.picture.specs.Drawn.{drawn, SamePlanes}
use Rattle.picture.specs.Ready.{applied_in}
use Rattle.picture.proofs.Bodies.{Drawing, drawing-found, drawing-on, drawing-ends, drawing-never}
use Rattle.picture.proofs.apply.Canvas.apply_all.Goals as goal

-- the panel is still the first one
at-the-first : (a b : Canvas) (book : List ℕ) (start end : ℕ) → SamePlanes a b
    → drawn b ≡ applied_in b.panel (operations_from (end - start) b.panel book start end) (drawn a)
    → drawn b ≡ applied_in a.panel (operations_from (end - start) a.panel book start end) (drawn a)
at-the-first a b book start end s = subst (λ (p : Panel). drawn b ≡ applied_in p (operations_from (end - start) p book start end) (drawn a)) s.panel

pub apply-requires : goal.apply-requires
apply-requires c = (drawing-found _ _ _ _ _ c.loop-standing.invariant.left (sym (rw c.in-Ok-Some.field-0-is at c.in-Ok-Some.ensures.value))).range

pub loop-standing-smaller : goal.loop-standing-smaller
loop-standing-smaller c =
    let k = drawing-found _ _ _ _ _ c.loop-standing.invariant.left (sym (rw c.in-Ok-Some.field-0-is at c.in-Ok-Some.ensures.value)) in omega (arith, k.on, k.to_end)

pub loop-standing-preserved : goal.loop-standing-preserved
loop-standing-preserved c = let h = c.loop-standing.invariant.same in
    let k = c.apply.ensures.same in
    record {
      same = record { panel = k.panel ∙ h.panel; graphic = k.graphic ∙ h.graphic; codes = k.codes ∙ h.codes; glyphs = k.glyphs ∙ h.glyphs };
      left = subst (λ (p : Panel). Drawing p c.args.book.now c.args.start c.args.end (drawn c.args.self.now) (drawn c.apply.new.self) c.in-Ok-Some.standing.next) (sym k.panel)
          (drawing-on _ _ _ _ _ c.loop-standing.invariant.left (sym (rw c.in-Ok-Some.field-0-is at c.in-Ok-Some.ensures.value)) c.apply.ensures.made);
    }

pub returns-in_default-clause-made : goal.returns-in_default-clause-made
returns-in_default-clause-made c =
    let none : c.in_default.field-0 ≡ None = search rules in
    at-the-first _ _ _ _ _ c.loop-standing.invariant.same (drawing-ends _ _ _ _ _ c.loop-standing.invariant.left (sym (rw (c.in_default.is, none) at c.read.ensures.value)))

pub returns-in_default-2-clause-made : goal.returns-in_default-2-clause-made
returns-in_default-2-clause-made c =
    absurd (drawing-never _ _ _ _ _ c.loop-standing.invariant.left (sym (rw c.in_default.is at c.read.ensures.value)))
