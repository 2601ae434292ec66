-- Two results that meet the promise of `may_swap` are equal.
use Rattle.std.proofs.Common.{◌≡◌, ℕ, List, Result, Ok, Err, refl, ap, sym, ◌∙◌, arith}
use Rattle.state.specs.declared.panel.Panel.{Panel}
use Rattle.state.specs.declared.refusal.Refused.{Refused as Turned}
use Rattle.state.specs.Refusals.{number_of}
use Rattle.state.proofs.RefusalNumbers.{same_number}
use Rattle.order.specs.declared.swap.Swap.{Swap as Neighbours}
use Rattle.order.specs.declared.swap.Swap.TheVariants.{May as Neighbours-May, Stays as Neighbours-Stay, NoTwo as Neighbours-None}
use Rattle.order.specs.Replies.{Refused, swap, swapped}
use Rattle.order.specs.Swapping.{swap_of}

same-swap : (x y : Neighbours) → swap x ≡ swap y → x ≡ y
same-swap Neighbours-May Neighbours-May e = refl
same-swap Neighbours-May Neighbours-Stay e = grind arith
same-swap Neighbours-May Neighbours-None e = grind arith
same-swap Neighbours-Stay Neighbours-May e = grind arith
same-swap Neighbours-Stay Neighbours-Stay e = refl
same-swap Neighbours-Stay Neighbours-None e = grind arith
same-swap Neighbours-None Neighbours-May e = grind arith
same-swap Neighbours-None Neighbours-Stay e = grind arith
same-swap Neighbours-None Neighbours-None e = refl

not-refused : (x : Neighbours) (n place : ℕ) → swap x ≡ Refused n place → ⊥
not-refused Neighbours-May n place e = grind arith
not-refused Neighbours-Stay n place e = grind arith
not-refused Neighbours-None n place e = grind arith

same-swapped : (x y : Result Neighbours Turned) → swapped x ≡ swapped y → x ≡ y
same-swapped (Ok s) (Ok t) e = ap Ok (same-swap s t e)
same-swapped (Ok s) (Err e) h = absurd (not-refused s _ _ h)
same-swapped (Err d) (Ok t) h = absurd (not-refused t _ _ (sym h))
same-swapped (Err d) (Err e) h =
    let q : d.place ≡ e.place = cc in
    let m : number_of d.refusal ≡ number_of e.refusal = cc in
    let n = same_number d.refusal e.refusal m in
    λ i. Err (record { refusal = n i; place = q i })

pub swap-settled : {x y : Result Neighbours Turned} (p : Panel) (book : List ℕ) (key i : ℕ) → swapped x ≡ swap_of p book key i → swapped y ≡ swap_of p book key i → x ≡ y
swap-settled {x} {y} p book key i a b = same-swapped x y (a ∙ sym b)
