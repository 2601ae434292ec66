-- What is written between two screens that are there, and how long it is.
use mathlib.Core.Path.{◌≡◌, refl, ap, ◌∙◌}
use mathlib.Core.Bool.{Bool, true, cond}
use mathlib.Core.List.{List, [], ◌∷◌}
use Prim.Native.Nat.{ℕ, ◌+◌, ◌*◌, ◌≤◌}
use native.Mathlib.Omega.{arith}
use lib.ListN.{length, length-append}
use lib.Seq.{sets}
use borrow.Author.Tests.{le-ltb, eq-eqb}
use Rattle.ground.proofs.Tests.{settled}
use Rattle.state.specs.declared.panel.Panel.{Panel}
use Rattle.state.specs.State.{valid_panel}
use Rattle.controller.specs.Run.{log_of}
use Rattle.contents.specs.Replies.{Asked, Body, Refused}
use Rattle.contents.specs.Asked.{asked_of}
use Rattle.book.specs.Operation.{Operation}
use Rattle.book.specs.Screen.{screen, screen_in, screen_of}
use Rattle.writer.specs.Stream.{operation_pairs}
use Rattle.writer.specs.Stream.{operation_pairs}
use Rattle.writer.specs.Written.{Written, written_reply, Wrote, wrote_all, wrote}
use Rattle.writer.proofs.Answers.{same_written}
use Rattle.std.proofs.Common.{Result}
use Rattle.state.specs.declared.refusal.Refused.{Refused as Refusing}
use Rattle.picture.specs.Laid.{Laid, Nowhere, Over}
use Rattle.picture.specs.Picture.{Picture, picture_of}
use Rattle.difference.specs.Short.{end_pairs, short_over, short_stream, change_count, end_count, count_over, short_count}
use Rattle.difference.specs.Change.{write_short, change_screens, unless_asked, change_of}
use Rattle.difference.proofs.Comparing.{changes-length}

end-length : (p : Panel) (cursor : Laid) → length (end_pairs p cursor) + 1 ≡ end_count cursor
unfolding operation_pairs
end-length p Nowhere = refl
end-length p (Over k blink) = refl

pub short-length : (p : Panel) (a b : Picture) → length (short_stream p a b) ≡ short_count a b
unfolding short_over count_over
short-length p a b =
    simp (length-append, changes-length) (omega (arith, end-length p b.cursor))

-- two screens that are there, and room enough
module _ (p : Panel) (book : List ℕ) where
  asked-screen : (room : List ℕ) (key : ℕ) {os : List Operation} → screen_of p book key ≡ screen os → (on : Wrote) → unless_asked room (asked_of book key) on ≡ on
  unfolding screen_of
  asked-screen room key {os} e on = go (asked_of book key) e
    where
      go : (x : Asked) → screen_in p book x ≡ screen os → unless_asked room x on ≡ on
      go (Body start end) e = refl
      go (Refused n place) e = let z : ◌≡◌ {A = ℕ} 0 1 = cc in absurd (let y : ⊥ = omega arith in y)

  pub change-fits : (a b : ℕ) (room : List ℕ) {os qs : List Operation} → valid_panel p ≡ true → screen_of p book a ≡ screen os → screen_of p book b ≡ screen qs
      → 2 * short_count (picture_of p os) (picture_of p qs) ≤ length room
      → change_of p book a b room
      ≡ wrote 0 0 (short_count (picture_of p os) (picture_of p qs)) (sets room 0 (log_of (short_stream p (picture_of p os) (picture_of p qs))))
  unfolding change_of write_short
  change-fits a b room {os} {qs} v e f l =
      let n : ℕ = short_count (picture_of p os) (picture_of p qs) in
      ap (λ (t : Bool). cond t (unless_asked room (asked_of book a) (unless_asked room (asked_of book b) (change_screens p room (screen_of p book a) (screen_of p book b)))) (wrote 1 0 0 room)) v
      ∙ asked-screen room a e _ ∙ asked-screen room b f _
      ∙ (λ i. change_screens p room (e i) (f i))
      ∙ ap (λ (t : Bool). cond t (wrote 12 n 0 room) (wrote 0 0 n (sets room 0 (log_of (short_stream p (picture_of p os) (picture_of p qs)))))) (le-ltb (length room) (2 * n) l)

-- from a screen to itself nothing differs: 2 pairs, or 6 with a cursor
same_none : (xs : List ℕ) → change_count xs xs ≡ 0
unfolding change_count
same_none [] = refl
same_none (x ∷ xs) = ap (λ (t : Bool). cond t 0 1 + change_count xs xs) (eq-eqb x x refl) ∙ (let e : 0 + change_count xs xs ≡ 0 = omega (arith, same_none xs) in e)

pub same_count : (a : Picture) → short_count a a ≡ end_count a.cursor
unfolding count_over
same_count a = omega (arith, same_none a.graphic, same_none a.codes, same_none a.glyphs)

-- two replies that meet the promise of `write_change`, with the rooms they left, are equal
pub change-settled : {x y : Written} {r₁ r₂ : List ℕ} (p : Panel) (book : List ℕ) (a b : ℕ) (room : List ℕ)
    → wrote_all x r₁ ≡ change_of p book a b room → wrote_all y r₂ ≡ change_of p book a b room → (x ≡ y) × (r₁ ≡ r₂)
change-settled p book a b room i j = let e = settled i j in (ap (λ (o : Wrote). o.written) e, ap (λ (o : Wrote). o.room) e)

-- and so are the results that stand for them
pub change-result-settled : {x y : Result ℕ Refusing} {r₁ r₂ : List ℕ} (p : Panel) (book : List ℕ) (a b : ℕ) (room : List ℕ)
    → wrote_all (written_reply x) r₁ ≡ change_of p book a b room → wrote_all (written_reply y) r₂ ≡ change_of p book a b room → (x ≡ y) × (r₁ ≡ r₂)
change-result-settled {x} {y} p book a b room i j = let s = change-settled p book a b room i j in (same_written x y s.0, s.1)
