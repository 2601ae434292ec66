-- What a pair came to, read from the result whose refusal was given the pair's place.
use mathlib.Core.Path.{◌≡◌, ap, sym, subst, ◌∙◌}
use Rattle.std.specs.Prelude.{ℕ, Result, Ok, Err, MatchResult, IsErrAnd}
use Rattle.state.specs.declared.refusal.Refusal.{Refusal}
use Rattle.state.specs.declared.refusal.Refused.{Refused}

module _ {T : Type 0} (at : ℕ) where
  abbrev pub GivenPlace : Result T Refusal → Result T Refused → Type 0
  GivenPlace r m = MatchResult r (λ x. m ≡ Ok x) (λ e. IsErrAnd m (λ d. d ≡ record { refusal = e; place = at }))

  abbrev was : T → Result T Refused → Result T Refusal
  was y (Ok x) = Ok x
  was y (Err d) = Ok y

  pub given-ok : (r : Result T Refusal) {m : Result T Refused} {x : T} → GivenPlace r m → m ≡ Ok x → r ≡ Ok x
  given-ok (Ok y) h e = ap (was y) (sym h ∙ e)
  given-ok (Err y) h e = absurd (subst (λ k. IsErrAnd k (λ d. d ≡ record { refusal = y; place = at })) e h)

  pub given-err : (r : Result T Refusal) {m : Result T Refused} {d : Refused} → GivenPlace r m → m ≡ Err d
      → (r ≡ Err d.refusal) × (d ≡ record { refusal = d.refusal; place = at })
  given-err (Ok y) h e = absurd (subst (λ k. MatchResult k (λ _. Unit {0}) (λ _. ⊥)) (sym h ∙ e) tt)
  given-err (Err y) {d = d} h e =
      let t = subst (λ k. IsErrAnd k (λ d. d ≡ record { refusal = y; place = at })) e h in
      (ap (λ (k : Refused). Err k.refusal) (sym t), t ∙ ap (λ (k : Refused). record { refusal = k.refusal; place = at }) (sym t))
