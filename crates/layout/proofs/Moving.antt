-- The moves: each answer.
use mathlib.Core.Path.{◌≡◌, refl, ap, sym, ◌∙◌}
use mathlib.Core.Bool.{Bool, true, false, cond}
use mathlib.Core.List.{List}
use Prim.Native.Nat.{ℕ, ◌<◌, ◌≤◌}
use native.Mathlib.Omega.{arith}
use lib.ListN.{length, get_or}
use borrow.Author.Tests.{le-leb, lt-leb, eq-eqb, ne_eqb}
use Rattle.ground.proofs.Tests.{settled}
use Rattle.state.specs.declared.panel.Panel.{Panel}
use Rattle.state.specs.State.{valid_panel}
use Rattle.contents.specs.Contents.{Body, Contents, sound, wrong, is_two, contents_of}
use Rattle.layout.specs.BodiesRead.{BodiesRead, Plain, And, Faulty, reads}
use Rattle.layout.specs.Laid.{laid_out, screens_of}
use Rattle.state.proofs.RefusalNumbers.{not_zero, same_number}
use Rattle.layout.specs.Replies.{moved}
use Rattle.layout.specs.Moved.{Moved, MovedBook, moved_all, not_moved, fitted, fitted_up, up_read, up_in, up_of, numbered_from, down_in, down_of}
use Rattle.layout.specs.Ready.{laid_size}
use Rattle.layout.specs.Uses.{bodies_read}
use Rattle.std.specs.Prelude.{Result, Ok, Err}
use Rattle.state.specs.Refusals.{number_of}
use Rattle.state.specs.declared.refusal.Refused.{Refused}
use Rattle.state.specs.declared.refusal.Refusal.TheVariants.{WrongOperation, UsesAnd}
use Rattle.layout.proofs.Laying.{sound-spanned, sound-size}

-- the form by the first byte
pub first_two : (book : List ℕ) {first : ℕ} → first ≡ get_or book 0 0 → first ≡ 0 → is_two book ≡ true
first_two book e z = eq-eqb (get_or book 0 0) 0 (sym e ∙ z)

pub first_one : (book : List ℕ) {first : ℕ} → first ≡ get_or book 0 0 → (first ≡ 0 → ⊥) → is_two book ≡ false
first_one book e z = ne_eqb (get_or book 0 0) 0 (λ q. z (e ∙ q))

-- in either form the entries of form one are no longer
pub down-size : (two : Bool) (bs : List Body) → laid_size false bs ≤ laid_size two bs
down-size true bs = omega arith
down-size false bs = omega arith

pub open-size : (book : List ℕ) {bs : List Body} → contents_of book ≡ sound bs → laid_size false bs ≤ 32768
open-size book {bs} h = omega (arith, down-size (is_two book) bs, sound-size book h, (sound-spanned book h).short)

module _ (book out : List ℕ) where
  pub down-one : is_two book ≡ false → not_moved 9 0 out ≡ down_of book out
  unfolding down_of
  down-one t = ap (λ (v : Bool). cond v (down_in book (contents_of book) out) (not_moved 9 0 out)) (sym t)

  module _ (t : is_two book ≡ true) where
    down-as : {x : Contents} → contents_of book ≡ x → down_in book x out ≡ down_of book out
    unfolding down_of
    down-as h = ap (λ (y : Contents). down_in book y out) (sym h) ∙ ap (λ (v : Bool). cond v (down_in book (contents_of book) out) (not_moved 9 0 out)) (sym t)

    pub down-wrong : {place : ℕ} → contents_of book ≡ wrong place → not_moved 9 place out ≡ down_of book out
    down-wrong h = down-as h

    module _ {bs : List Body} (h : contents_of book ≡ sound bs) {n : Bool} (e : n ≡ numbered_from 0 bs) where
      down_numbered : {v : Bool} → n ≡ v → cond v (fitted (laid_out false (screens_of book bs)) out) (not_moved 17 0 out) ≡ down_of book out
      down_numbered f = ap (λ (v : Bool). cond v (fitted (laid_out false (screens_of book bs)) out) (not_moved 17 0 out)) (sym f ∙ e) ∙ down-as h

      pub down-other : n ≡ false → not_moved 17 0 out ≡ down_of book out
      down-other f = down_numbered f

      pub down_fits : n ≡ true → fitted (laid_out false (screens_of book bs)) out ≡ down_of book out
      down_fits f = down_numbered f

-- the move up, by what was found first
module _ (p : Panel) (book out : List ℕ) where
  abbrev up_by : Bool → Bool → MovedBook → MovedBook
  up_by valid two moved = cond valid (cond two (not_moved 9 0 out) moved) (not_moved 1 0 out)

  pub up-panel : valid_panel p ≡ false → not_moved 1 0 out ≡ up_of p book out
  unfolding up_of
  up-panel v = ap (λ (t : Bool). up_by t (is_two book) (up_in p book (contents_of book) out)) (sym v)

  module _ (v : valid_panel p ≡ true) where
    pub up-two : is_two book ≡ true → not_moved 9 0 out ≡ up_of p book out
    unfolding up_of
    up-two t = λ i. up_by (sym v i) (sym t i) (up_in p book (contents_of book) out)

    module _ (t : is_two book ≡ false) where
      up-as : {x : Contents} → contents_of book ≡ x → up_in p book x out ≡ up_of p book out
      unfolding up_of
      up-as h = λ j. up_by (sym v j) (sym t j) (up_in p book (sym h j) out)

      pub up-wrong : {place : ℕ} → contents_of book ≡ wrong place → not_moved 9 place out ≡ up_of p book out
      up-wrong h = up-as h

      -- what reading the bodies came to
      pub up-refused : {bs : List Body} → contents_of book ≡ sound bs → (e : Refused) → Err e ≡ reads (bodies_read p book 0 bs) → not_moved (number_of e.refusal) e.place out ≡ up_of p book out
      up-refused {bs} h e q = go (bodies_read p book 0 bs) q ∙ up-as h
        where
          go : (x : BodiesRead) → Err e ≡ reads x → not_moved (number_of e.refusal) e.place out ≡ up_read x (fitted_up (laid_out true (screens_of book bs)) out) out
          go Plain q = let z : ◌≡◌ {A = ℕ} 0 1 = cc in absurd (let y : ⊥ = omega arith in y)
          go (And screen) q = let r : e ≡ record { refusal = UsesAnd; place = screen } = cc in ap (λ (x : Refused). not_moved (number_of x.refusal) x.place out) r
          go (Faulty place) q = let r : e ≡ record { refusal = WrongOperation; place = place } = cc in ap (λ (x : Refused). not_moved (number_of x.refusal) x.place out) r

      pub up-plain : {bs : List Body} → contents_of book ≡ sound bs → Ok tt ≡ reads (bodies_read p book 0 bs) → fitted_up (laid_out true (screens_of book bs)) out ≡ up_of p book out
      up-plain {bs} h q = go (bodies_read p book 0 bs) q ∙ up-as h
        where
          go : (x : BodiesRead) → Ok tt ≡ reads x → fitted_up (laid_out true (screens_of book bs)) out ≡ up_read x (fitted_up (laid_out true (screens_of book bs)) out) out
          go Plain q = refl
          go (And screen) q = let z : ◌≡◌ {A = ℕ} 0 1 = cc in absurd (let y : ⊥ = omega arith in y)
          go (Faulty place) q = let z : ◌≡◌ {A = ℕ} 0 1 = cc in absurd (let y : ⊥ = omega arith in y)

-- in form two the book may pass the most bytes
module _ (out laid : List ℕ) {size : ℕ} (f : size ≡ length laid) where
  pub up-long : 32768 < size → not_moved 18 size out ≡ fitted_up laid out
  up-long l =
      ap (λ (n : ℕ). not_moved 18 n out) f
      ∙ ap (λ (v : Bool). cond v (fitted laid out) (not_moved 18 (length laid) out)) (sym (lt-leb (length laid) 32768 (omega arith)))

  pub up_fits : size ≤ 32768 → fitted laid out ≡ fitted_up laid out
  up_fits l = ap (λ (v : Bool). cond v (fitted laid out) (not_moved 18 (length laid) out)) (sym (le-leb (length laid) 32768 (omega arith)))

-- two replies that meet the promise of a move are equal, and so are the outputs
same_moved : (x y : Result ℕ Refused) → moved x ≡ moved y → x ≡ y
same_moved (Ok n) (Ok m) h = λ i. Ok ((h i).size)
same_moved (Ok n) (Err e) h = absurd (not_zero e.refusal (ap (λ (r : Moved). r.number) (sym h)))
same_moved (Err d) (Ok m) h = absurd (not_zero d.refusal (ap (λ (r : Moved). r.number) h))
same_moved (Err d) (Err e) h =
    let n = same_number d.refusal e.refusal (ap (λ (r : Moved). r.number) h) in
    λ i. Err (record { refusal = n i; place = (h i).place })

module _ {x y : Result ℕ Refused} {a b : List ℕ} where
  same_books : {m : MovedBook} → moved_all (moved x) a ≡ m → moved_all (moved y) b ≡ m → (x ≡ y) × (a ≡ b)
  same_books h k = let e = settled h k in (same_moved x y (ap (λ (z : MovedBook). z.reply) e), ap (λ (z : MovedBook). z.out) e)

  pub move-up-result-settled : (p : Panel) (book out : List ℕ) → moved_all (moved x) a ≡ up_of p book out → moved_all (moved y) b ≡ up_of p book out → (x ≡ y) × (a ≡ b)
  move-up-result-settled p book out h k = same_books h k

  pub move-down-result-settled : (book out : List ℕ) → moved_all (moved x) a ≡ down_of book out → moved_all (moved y) b ≡ down_of book out → (x ≡ y) × (a ≡ b)
  move-down-result-settled book out h k = same_books h k

-- the same of replies
pub move-up-settled : {x y : MovedBook} (p : Panel) (book out : List ℕ) → x ≡ up_of p book out → y ≡ up_of p book out → x ≡ y
move-up-settled p book out h k = settled h k

-- the same of replies
pub move-down-settled : {x y : MovedBook} (book out : List ℕ) → x ≡ down_of book out → y ≡ down_of book out → x ≡ y
move-down-settled book out h k = settled h k
