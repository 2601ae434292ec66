-- A text printed into a lent room, or nothing.
use mathlib.Core.Path.{◌≡◌, ap, sym, subst, ◌∙◌}
use mathlib.Core.Bool.{Bool, true, false, cond}
use mathlib.Core.List.{List, ◌++◌}
use Prim.Native.Nat.{ℕ, ◌+◌, ◌≤◌}
use native.Mathlib.Omega.{arith}
use lib.ListN.{length, drop, length-append, length-drop}
use lib.Seq.{sets-eq}
use Rattle.ground.proofs.Tests.{cond_has, settled}
use Rattle.printed.specs.declared.told.Told.{Told}
use Rattle.printed.specs.Put.{TextPut}
use Rattle.printed.specs.Printed.{Printed, printed, print_text, Reported, reported}
use Rattle.printed.proofs.Puts.{put-start}

module _ (lent : Bool) (text out : List ℕ) where
  pub printed-none : lent ≡ false → printed 0 out ≡ print_text lent text out
  printed-none h = λ k. cond (sym h k) (printed (length text) (text ++ drop (length text) out)) (printed 0 out)

  pub printed-all : lent ≡ true → {b : List ℕ} {w : ℕ} → TextPut out 0 text b w → w ≤ length out → printed w b ≡ print_text lent text out
  printed-all h {b} {w} x s =
      let n : w ≡ length text = omega (arith, x.ends) in
      (λ k. printed (n k) (put-start x (omega arith) k))
      ∙ (λ k. cond (sym h k) (printed (length text) (text ++ drop (length text) out)) (printed 0 out))

  -- the lent room ends as the text's
  pub printed-over : lent ≡ true → {b : List ℕ} {w : ℕ} → TextPut out 0 text b w → w ≤ length out → {after : List ℕ} → after ≡ b
      → printed w after ≡ print_text lent text out
  printed-over h {w = w} x s e = ap (printed w) e ∙ printed-all h x s

  -- a room that keeps its length has held it
  pub printed-few : lent ≡ true → {b : List ℕ} {w : ℕ} → printed w b ≡ print_text lent text out → length b ≡ length out → length text ≤ length out
  printed-few h {b} e k =
      let f : b ≡ text ++ drop (length text) out = ap (λ (o : Printed). o.out) (e ∙ ap (λ (t : Bool). cond t (printed (length text) (text ++ drop (length text) out)) (printed 0 out)) h) in
      omega (arith, k, simp (length-append, length-drop) at (ap length f))

  -- and back
  pub printed-put : lent ≡ true → length text ≤ length out → {b : List ℕ} {w : ℕ} → printed w b ≡ print_text lent text out → TextPut out 0 text b w
  printed-put h l e =
      let z : 0 + length text ≡ length text = omega arith in
      let f = e ∙ ap (λ (t : Bool). cond t (printed (length text) (text ++ drop (length text) out)) (printed 0 out)) h in
      record { holds = ap (λ (o : Printed). o.out) f ∙ sym (sets-eq text out 0 (omega arith) ∙ ap (λ (n : ℕ). text ++ drop n out) z); ends = ap (λ (o : Printed). o.count) f ∙ sym z }

  -- the text stands in its room
  pub printed-within : {b : List ℕ} {w : ℕ} → printed w b ≡ print_text lent text out → w ≤ length b
  printed-within h =
      subst (λ (o : Printed). o.count ≤ length o.out) (sym h)
      (cond_has (λ (o : Printed). o.count ≤ length o.out) lent (rw length-append (omega arith)) (omega arith))

-- two replies that meet one promise are equal
pub printed-settled : {n k : ℕ} {b c : List ℕ} {o : Printed} → printed n b ≡ o → printed k c ≡ o → (n ≡ k) × (b ≡ c)
printed-settled h k =
    let e = settled h k in
    (ap (λ (x : Printed). x.count) e, ap (λ (x : Printed). x.out) e)

pub reported-settled : {n k : Told} {b c : List ℕ} {o : Reported} → reported n b ≡ o → reported k c ≡ o → (n ≡ k) × (b ≡ c)
reported-settled h k =
    let e = settled h k in
    ((λ i. record { count = (e i).text.count; number = (e i).number }), ap (λ (x : Reported). x.text.out) e)
