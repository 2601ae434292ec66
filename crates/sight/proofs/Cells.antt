-- The layers of one cell: those of a row, in lists of one.
use Rattle.std.proofs.Common.{◌≡◌, ℕ, ◌+◌, Bool, true, false, cond, ◌&&◌, List, [], ◌∷◌, get_or, refl, ap, sym, ◌∙◌, arith, Result, Ok, Err, IsErrAnd, IsOk}
use Rattle.ground.specs.Lists.{build}
use Rattle.ground.proofs.Tests.{settled}
use Rattle.state.specs.State.{valid_panel, valid_display}
use Rattle.state.specs.declared.refusal.Refusal.{Refusal}
use Rattle.state.specs.Replies.{reply}
use Rattle.state.proofs.RefusalNumbers.{not_zero, same_number}
use Rattle.display.specs.Frame.{lent_lengths, reply_of}
use Rattle.display.specs.Layers.{layers_at, Stretch, stretch, layers_from, alike, row_layers_of}
use Rattle.sight.specs.Types.{Panel, Display, Seen}
use Rattle.sight.specs.Answered.{seen}
use Rattle.sight.specs.declared.seen.Seen.{Seen as Three}
use Rattle.sight.specs.Seen.{dark, seen_of, layers_of}

-- three lists of one cell, as one
abbrev seen_in : Stretch → Seen
seen_in x =
    record { number = x.reply.number; place = x.reply.place; text = get_or x.text 0 0; graphic = get_or x.graphic 0 0; shown = get_or x.shown 0 0 }

-- an error is read as its number
pub refused-seen : (x : Result Three Refusal) (e : Refusal) → IsErrAnd x (λ y. y ≡ e) → seen x ≡ seen (Err e)
refused-seen (Ok s) e h = absurd h
refused-seen (Err y) e h = ap (λ (z : Refusal). seen (Err z)) h

abbrev one : List ℕ
one = 0 ∷ []

module _ (p : Panel) (d : Display) (mem rom : List ℕ) (r c : ℕ) where
  of_one : seen_in (row_layers_of p d mem rom r c one one one) ≡ layers_of p d mem rom r c
  unfolding row_layers_of layers_of build
  of_one = go (valid_panel p && valid_display d) (lent_lengths mem rom)
    where
      here : c + 0 ≡ c
      here = omega arith

      go : (v f : Bool)
          → seen_in (cond v (cond (f && alike one one one) (layers_from p d mem rom r c 1) (stretch (reply_of 2) one one one)) (stretch (reply_of 1) one one one))
          ≡ cond v (cond f (seen_of 0 (layers_at p d mem rom r c)) (seen_of 2 dark)) (seen_of 1 dark)
      go true true = ap (λ (n : ℕ). seen_of 0 (layers_at p d mem rom r n)) here
      go true false = refl
      go false true = refl
      go false false = refl

  module _ {x : Result Unit Refusal} {text graphic shown : List ℕ} (h : stretch (reply x) text graphic shown ≡ row_layers_of p d mem rom r c one one one) where
    pub layers-taken : x ≡ Ok tt → seen (Ok (record { text = get_or text 0 0; graphic = get_or graphic 0 0; shown = get_or shown 0 0 })) ≡ layers_of p d mem rom r c
    layers-taken e = sym (ap (λ (y : Result Unit Refusal). seen_in (stretch (reply y) text graphic shown)) e) ∙ ap seen_in h ∙ of_one

    pub layers-refused : {e : Refusal} → x ≡ Err e → text ≡ one → graphic ≡ one → shown ≡ one → seen (Err e) ≡ layers_of p d mem rom r c
    layers-refused f t g s = sym (λ i. seen_in (stretch (reply (f i)) (t i) (g i) (s i))) ∙ ap seen_in h ∙ of_one

  -- past the tests it is the three
  pub layers-are : valid_panel p ≡ true → valid_display d ≡ true → lent_lengths mem rom ≡ true
      → layers_of p d mem rom r c ≡ seen_of 0 (layers_at p d mem rom r c)
  unfolding layers_of
  layers-are i j l = λ k. cond (i k && j k) (cond (l k) (seen_of 0 (layers_at p d mem rom r c)) (seen_of 2 dark)) (seen_of 1 dark)

-- two replies that meet the promise are equal
pub layers-settled : {x y : Seen} (p : Panel) (d : Display) (mem rom : List ℕ) (r c : ℕ)
    → x ≡ layers_of p d mem rom r c → y ≡ layers_of p d mem rom r c → x ≡ y
layers-settled p d mem rom r c h k = settled h k

-- an answer to whoever is past the tests is no error
pub layers-ok : (x : Result Three Refusal) → (seen x).number ≡ 0 → IsOk x
layers-ok (Ok s) e = refl
layers-ok (Err y) e = absurd (not_zero y e)

pub layers-shown : (x : Result Three Refusal) {s : Three} → x ≡ Ok s → s.shown ≡ (seen x).shown
layers-shown x e = sym (ap (λ (y : Result Three Refusal). (seen y).shown) e)

same_seen : (x y : Result Three Refusal) → seen x ≡ seen y → x ≡ y
same_seen (Ok s) (Ok t) h =
    let a = ap (λ (o : Seen). o.text) h in
    let b = ap (λ (o : Seen). o.graphic) h in
    let c = ap (λ (o : Seen). o.shown) h in
    λ i. Ok (record { text = a i; graphic = b i; shown = c i })
same_seen (Ok s) (Err e) h = absurd (not_zero e (ap (λ (o : Seen). o.number) (sym h)))
same_seen (Err d) (Ok t) h = absurd (not_zero d (ap (λ (o : Seen). o.number) h))
same_seen (Err d) (Err e) h = ap Err (same_number d e (ap (λ (o : Seen). o.number) h))

-- and so are the results that stand for them
pub layers-result-settled : {x y : Result Three Refusal} (p : Panel) (d : Display) (mem rom : List ℕ) (r c : ℕ)
    → seen x ≡ layers_of p d mem rom r c → seen y ≡ layers_of p d mem rom r c → x ≡ y
layers-result-settled {x} {y} p d mem rom r c h k = same_seen x y (settled h k)
