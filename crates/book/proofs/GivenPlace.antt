-- What stands at a byte, read from the result whose refusal was given that place.
use mathlib.Core.Path.{◌≡◌, refl, ap, sym, subst, ◌∙◌}
use Rattle.std.specs.Prelude.{ℕ, Result, Ok, Err, IfErr, MatchResult, IsErrAnd}
use Rattle.state.specs.declared.refusal.Refusal.{Refusal}
use Rattle.state.specs.declared.refusal.Refusal.TheVariants.{WrongOperation}
use Rattle.state.specs.declared.refusal.Refused.{Refused}

module _ {T : Type 0} (at : ℕ) where
  abbrev pub GivenPlace : Result T Refusal → Result T Refused → Type 0
  GivenPlace r m = MatchResult r (λ x. m ≡ Ok x) (λ e. IsErrAnd m (λ d. d ≡ record { refusal = e; place = at }))

  abbrev was : T → Result T Refused → Result T Refusal
  was y (Ok x) = Ok x
  was y (Err d) = Ok y

  pub given-ok : (r : Result T Refusal) {m : Result T Refused} {x : T} → GivenPlace r m → m ≡ Ok x → r ≡ Ok x
  given-ok (Ok y) h e = ap (was y) (sym h ∙ e)
  given-ok (Err y) h e = absurd (subst (λ k. IsErrAnd k (λ d. d ≡ record { refusal = y; place = at })) e h)

  pub given-err : (r : Result T Refusal) {m : Result T Refused} {d : Refused} → GivenPlace r m → m ≡ Err d → IfErr r (λ e. e ≡ WrongOperation)
      → (r ≡ Err WrongOperation) × (d ≡ record { refusal = WrongOperation; place = at })
  given-err (Ok y) h e w = absurd (subst (λ k. MatchResult k (λ _. Unit {0}) (λ _. ⊥)) (sym h ∙ e) tt)
  given-err (Err y) h e w =
      (ap (λ z. Err z) w, subst (λ k. IsErrAnd k (λ d. d ≡ record { refusal = y; place = at })) e h ∙ ap (λ z. record { refusal = z; place = at }) w)
