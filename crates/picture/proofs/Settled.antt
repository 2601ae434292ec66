-- Two results that meet the promise of `planes` are equal, and so are the planes that they leave.
use Rattle.std.proofs.Common.{◌≡◌, ℕ, List, Option, Some, None, Result, Ok, Err, refl, ap, sym, ◌∙◌, arith}
use Rattle.state.specs.declared.panel.Panel.{Panel}
use Rattle.state.specs.declared.refusal.Refused.{Refused}
use Rattle.state.proofs.RefusalNumbers.{not_zero, same_number}
use Rattle.picture.specs.declared.cursor.Laid.{Laid as CursorLaid}
use Rattle.picture.specs.declared.style.Style.{Style}
use Rattle.picture.specs.Laid.{laid}
use Rattle.picture.specs.Planned.{Plan, Planned, planned_all, styled, planes_of}

same-laid : (x y : Option CursorLaid) → laid x ≡ laid y → x ≡ y
same-laid None None e = refl
same-laid None (Some k) e = grind arith
same-laid (Some k) None e = grind arith
same-laid (Some k) (Some l) e = grind arith

same-styled : (x y : Result Style Refused) → styled x ≡ styled y → x ≡ y
same-styled (Ok s) (Ok t) e =
    let c : s.combination ≡ t.combination = ap (λ (p : Planned). p.combination) e in
    let k = same-laid s.cursor t.cursor (ap (λ (p : Planned). p.cursor) e) in
    λ i. Ok (record { combination = c i; cursor = k i })
same-styled (Ok s) (Err e) h = absurd (not_zero e.refusal (sym (ap (λ (p : Planned). p.number) h)))
same-styled (Err d) (Ok t) h = absurd (not_zero d.refusal (ap (λ (p : Planned). p.number) h))
same-styled (Err d) (Err e) h =
    let n = same_number d.refusal e.refusal (ap (λ (p : Planned). p.number) h) in
    let q = ap (λ (p : Planned). p.place) h in
    λ i. Err (record { refusal = n i; place = q i })

pub planes-settled : {x y : Result Style Refused} {g₁ t₁ h₁ g₂ t₂ h₂ : List ℕ} (p : Panel) (book : List ℕ) (key : ℕ) (g t h : List ℕ)
    → planned_all (styled x) g₁ t₁ h₁ ≡ planes_of p book key g t h → planned_all (styled y) g₂ t₂ h₂ ≡ planes_of p book key g t h
    → (x ≡ y) × (g₁ ≡ g₂) × (t₁ ≡ t₂) × (h₁ ≡ h₂)
planes-settled {x} {y} p book key g t h a b =
    let e = a ∙ sym b in
    (same-styled x y (ap (λ (o : Plan). o.planned) e), ap (λ (o : Plan). o.graphic) e, ap (λ (o : Plan). o.codes) e, ap (λ (o : Plan). o.glyphs) e)
