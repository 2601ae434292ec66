-- The two screens: what their planes answered, and what is answered then.
use mathlib.Core.Path.{◌≡◌, refl, ap, sym, subst, ◌∙◌}
use mathlib.Core.Bool.{Bool, true, false, cond}
use mathlib.Core.List.{List, ◌++◌}
use mathlib.Core.Logic.{⊎_elim}
use Prim.Native.Nat.{ℕ, ◌-◌, ◌*◌, ◌≤◌}
use native.Mathlib.Nat.{mul_assoc}
use native.Mathlib.Omega.{arith}
use lib.ListN.{length, take}
use lib.Seq.{length-take-le, take-append_seam}
use borrow.Author.Tests.{eq-eqb}
use Rattle.ground.proofs.Tests.{both}
use Rattle.state.specs.declared.panel.Panel.{Panel}
use Rattle.state.specs.State.{valid_panel}
use Rattle.state.specs.Sizes.{cell_count, valid_size}
use Rattle.state.proofs.Sizes.{is-size}
use Rattle.contents.specs.Replies.{Asked, Body, Refused}
use Rattle.std.specs.Prelude.{Result, Ok, Err, OnOk}
use Rattle.state.specs.declared.refusal.Refused.{Refused as Turned}
use Rattle.state.specs.Refusals.{number_of}
use Rattle.state.proofs.RefusalNumbers.{not_zero}
use Rattle.contents.specs.Replies.{asked}
use Rattle.contents.specs.Asked.{asked_of}
use Rattle.contents.proofs.Asking.{asked-number}
use Rattle.book.specs.declared.operation.Placed.{Placed}
use Rattle.book.specs.declared.operation.Placed.TheVariants.{Text, Rectangle, Dot, Glyph, Cursor, Combine}
use Rattle.book.specs.Operation.{Operation, operation_of}
use Rattle.book.specs.Range.{InRange}
use Rattle.book.specs.Screen.{Screen, screen, refused, screen_in, screen_of}
use Rattle.book.proofs.Walking.{walk-all, walk-number}
use Rattle.writer.specs.Written.{Wrote, wrote, wrote_all, written_reply}
use Rattle.picture.specs.Picture.{Picture, blank, applied, applied_all, picture_of}
use Rattle.picture.specs.Planned.{Planned, Plan, styled, planned_all, refused_plan, plan_screen, areas_fit, planes_of}
use Rattle.picture.specs.declared.style.Style.{Style}
use Rattle.picture.specs.Ready.{Sized, picture_with}
use Rattle.difference.specs.Change.{write_short, change_screens, unless_asked, change_of}
use Rattle.difference.specs.declared.changes.Planes.{Planes}
use Rattle.difference.specs.declared.write.Drawn.{Drawn}
use Rattle.difference.specs.Differing.{LaidRange, Between, picture_from}
use Rattle.difference.specs.Drawing.{Three, Fronts, planes_now, planes_in, picture_in, DrawnScreen, DrawsOver}

-- the parts lent are the panel's
pub front-sized : {p : Panel} {n : ℕ} {g t h : List ℕ} → Fronts p g t h → n ≡ valid_size p (cell_count p) → n ≤ 2560 → Sized p (take (8 * n) g) (take n t) h
front-sized {p} {n} {g} {t} k e f =
    let s : n ≡ p.lines * p.columns = is-size p k.valid e in
    let i : length (take (8 * n) g) ≡ 8 * n = length-take-le (8 * n) g (omega (arith, f, k.graphic)) in
    record {
      graphic = omega (arith, i, s, mul_assoc 8 p.lines p.columns);
      codes = length-take-le n t (omega (arith, f, k.codes)) ∙ s;
      glyphs = k.glyphs;
    }

-- a screen's cursor is in range
module _ (p : Panel) where
  applied-range : (book : List ℕ) (o : Placed) → InRange p book o → (a : Picture) → LaidRange p a.cursor → LaidRange p (applied p (operation_of book o) a).cursor
  unfolding applied
  applied-range book (Text line column from n) k a l = l
  applied-range book (Rectangle top column height width value) k a l = l
  applied-range book (Dot x y on) k a l = l
  applied-range book (Glyph code from) k a l = l
  applied-range book (Cursor line column height blink) k a l = k
  applied-range book (Combine c) k a l = l

  pub laid-range : (book : List ℕ) (key : ℕ) {os : List Operation} → screen_of p book key ≡ screen os → LaidRange p (picture_of p os).cursor
  unfolding screen_of picture_of applied_all blank
  laid-range book key {os} e = go (asked_of book key) e
    where
      go : (a : Asked) → screen_in p book a ≡ screen os → LaidRange p (applied_all p os (blank p)).cursor
      go (Body start end) e =
          walk-all p book end (λ n qs. (a : Picture) → LaidRange p a.cursor → LaidRange p (applied_all p qs a).cursor) (λ n a l. l)
          (λ n at next o qs k more a l. more (applied p (operation_of book o) a) (applied-range book o k.range a l)) _ start e (blank p) tt
      go (Refused n place) e = let z : ◌≡◌ {A = ℕ} 0 1 = cc in absurd (let y : ⊥ = omega arith in y)

  -- a refusal has a number
  refused-number : (book : List ℕ) (key : ℕ) {n place : ℕ} → screen_of p book key ≡ refused n place → n ≡ 0 → ⊥
  unfolding screen_of
  refused-number book key {n} {place} e z = go (asked_of book key) refl e
    where
      same : {m q : ℕ} → refused m q ≡ refused n place → m ≡ n
      same f = cc

      go : (a : Asked) → asked_of book key ≡ a → screen_in p book a ≡ refused n place → ⊥
      go (Body start end) d e = let i = walk-number p book end (end - start) start e in omega arith
      go (Refused m q) d e =
          let f : m ≡ n = same e in
          ⊎_elim (λ i. let y : ⊥ = omega arith in y) (λ i. let y : ⊥ = omega arith in y) (asked-number book key d)

-- planes at the front of room for any panel's
front : {n : ℕ} (xs ys : List ℕ) → length xs ≡ n → take n (xs ++ ys) ≡ xs
front {n} xs ys e = ap (λ (m : ℕ). take m (xs ++ ys)) (sym e) ∙ take-append_seam xs ys

module _ (p : Panel) (book : List ℕ) (key : ℕ) {g t h : List ℕ} (v : valid_panel p ≡ true) (k : Sized p g t h) where
  fitting : areas_fit p g t h ≡ true
  fitting =
      both (both (eq-eqb (length g) (8 * p.lines * p.columns) k.graphic) (eq-eqb (length t) (p.lines * p.columns) k.codes))
      (eq-eqb (length h) 1024 k.glyphs)

  module _ {g₁ t₁ h₁ : List ℕ} where
    planned-is : {r : Planned} → planned_all r g₁ t₁ h₁ ≡ planes_of p book key g t h → planned_all r g₁ t₁ h₁ ≡ plan_screen p g t h (screen_of p book key)
    unfolding planes_of
    planned-is x =
        x
        ∙ ap (λ (b : Bool). cond b (cond (areas_fit p g t h) (plan_screen p g t h (screen_of p book key)) (planned_all (refused_plan 2 0) g t h)) (planned_all (refused_plan 1 0) g t h)) v
        ∙ ap (λ (b : Bool). cond b (plan_screen p g t h (screen_of p book key)) (planned_all (refused_plan 2 0) g t h)) fitting

    -- refused with its number and place
    pub planned-refused : (e : Turned) → planned_all (styled (Err e)) g₁ t₁ h₁ ≡ planes_of p book key g t h → screen_of p book key ≡ refused (number_of e.refusal) e.place
    planned-refused e x = go (screen_of p book key) (planned-is x)
      where
        go : (s : Screen) → planned_all (styled (Err e)) g₁ t₁ h₁ ≡ plan_screen p g t h s → s ≡ refused (number_of e.refusal) e.place
        go (screen os) d = absurd (not_zero e.refusal (ap (λ (y : Plan). y.planned.number) d))
        go (refused n place) d = sym (ap (λ (y : Plan). refused y.planned.number y.planned.place) d)

    module _ (r : Style) (x : planned_all (styled (Ok r)) g₁ t₁ h₁ ≡ planes_of p book key g t h) (z : Sized p g₁ t₁ h₁) (g₂ t₂ : List ℕ) where
      abbrev d : Drawn
      d = record { graphic = g₁ ++ g₂; codes = t₁ ++ t₂; glyphs = h₁; style = r }

      same : picture_in p d ≡ picture_with g₁ t₁ h₁ r
      same i = picture_with (front g₁ g₂ z.graphic i) (front t₁ t₂ z.codes i) h₁ r

      pub planned-drawn : DrawnScreen p (screen_of p book key) d
      planned-drawn = go (screen_of p book key) refl (planned-is x)
        where
          go : (s : Screen) → screen_of p book key ≡ s → planned_all (styled (Ok r)) g₁ t₁ h₁ ≡ plan_screen p g t h s → DrawnScreen p (screen_of p book key) d
          go (screen os) e y =
              let is : picture_in p d ≡ picture_of p os =
              same ∙ ap (λ (q : Plan). record { graphic = q.graphic; codes = q.codes; glyphs = q.glyphs; combination = q.planned.combination; cursor = q.planned.cursor }) y in
              record {
                os = os;
                whole = e;
                is = is;
                sized = subst (λ (q : Picture). Sized p q.graphic q.codes q.glyphs) (sym same) z;
                range = subst (λ (q : Picture). LaidRange p q.cursor) (sym is) (laid-range p book key e);
              }
          go (refused n place) e y = absurd (refused-number p book key e (sym (ap (λ (q : Plan). q.planned.number) y)))

    pub planned-draws : (r : Result Style Turned) → planned_all (styled r) g₁ t₁ h₁ ≡ planes_of p book key g t h → OnOk r ((valid_panel p ≡ true) × Sized p g₁ t₁ h₁) → (g₂ t₂ : List ℕ)
        → DrawsOver p (screen_of p book key) r (g₁ ++ g₂) (t₁ ++ t₂) h₁
    planned-draws (Ok r) x z g₂ t₂ = planned-drawn r x z.1 g₂ t₂
    planned-draws (Err e) x z g₂ t₂ = planned-refused e x

-- two screens, the first one refused, the second, or both drawn
module _ (p : Panel) (room : List ℕ) {s : Screen} (t : Screen) where
  pub first-refused : (e : Turned) → s ≡ refused (number_of e.refusal) e.place → wrote_all (written_reply (Err e)) room ≡ change_screens p room s t
  first-refused e x = ap (λ (y : Screen). change_screens p room y t) (sym x)

  module _ {d : Drawn} (k : DrawnScreen p s d) where
    pub second-refused : (e : Turned) → t ≡ refused (number_of e.refusal) e.place → wrote_all (written_reply (Err e)) room ≡ change_screens p room s t
    second-refused e x = λ i. change_screens p room (sym k.whole i) (sym x i)

    module _ {e : Drawn} (l : DrawnScreen p t e) (a b : Planes) (m : planes_now a ≡ planes_in p d) (n : planes_now b ≡ planes_in p e) where
      shown : picture_from b e.style ≡ picture_in p e
      shown = ap (λ (x : Three). picture_with x.graphic x.codes x.glyphs e.style) n

      pub both-drawn : valid_panel p ≡ true → Between p a (picture_from b e.style)
      both-drawn v =
          record {
            valid = v;
            old = subst (λ (x : Three). Sized p x.graphic x.codes x.glyphs) (sym m) k.sized;
            new = subst (λ (q : Picture). Sized p q.graphic q.codes q.glyphs) (sym shown) l.sized;
            range = subst (λ (q : Picture). LaidRange p q.cursor) (sym shown) l.range;
          }

      pub both-written : {w : Wrote} → w ≡ write_short p a.graphic.now a.codes.now a.glyphs.now (picture_from b e.style) room → w ≡ change_screens p room s t
      both-written x =
          x
          ∙ (λ i. write_short p (m i).graphic (m i).codes (m i).glyphs ((shown ∙ l.is) i) room)
          ∙ ap (λ (q : Picture). write_short p q.graphic q.codes q.glyphs (picture_of p l.os) room) k.is
          ∙ (λ i. change_screens p room (sym k.whole i) (sym l.whole i))

-- the tests at the door
module _ (p : Panel) (book : List ℕ) (a b : ℕ) (room : List ℕ) {v : Bool} (i : v ≡ valid_panel p) where
  abbrev screens : Wrote
  screens = change_screens p room (screen_of p book a) (screen_of p book b)

  by-panel : (t : Bool) → v ≡ t → cond t (unless_asked room (asked_of book a) (unless_asked room (asked_of book b) screens)) (wrote 1 0 0 room) ≡ change_of p book a b room
  unfolding change_of
  by-panel t e = ap (λ (u : Bool). cond u (unless_asked room (asked_of book a) (unless_asked room (asked_of book b) screens)) (wrote 1 0 0 room)) (sym e ∙ i)

  pub change-1 : v ≡ false → wrote 1 0 0 room ≡ change_of p book a b room
  change-1 e = by-panel false e

  module _ (e : v ≡ true) where
    pub change-valid : valid_panel p ≡ true
    change-valid = sym i ∙ e

    pub change-a : (d : Turned) → asked (Err d) ≡ asked_of book a → wrote_all (written_reply (Err d)) room ≡ change_of p book a b room
    change-a d j = ap (λ (x : Asked). unless_asked room x (unless_asked room (asked_of book b) screens)) j ∙ by-panel true e

    module _ {m n : ℕ} (j : Body m n ≡ asked_of book a) where
      past-a : unless_asked room (asked_of book b) screens ≡ change_of p book a b room
      past-a = ap (λ (x : Asked). unless_asked room x (unless_asked room (asked_of book b) screens)) j ∙ by-panel true e

      pub change-b : (d : Turned) → asked (Err d) ≡ asked_of book b → wrote_all (written_reply (Err d)) room ≡ change_of p book a b room
      change-b d l = ap (λ (x : Asked). unless_asked room x screens) l ∙ past-a

      pub change-both : {m n : ℕ} → Body m n ≡ asked_of book b → {w : Wrote} → w ≡ screens → w ≡ change_of p book a b room
      change-both l d = d ∙ ap (λ (x : Asked). unless_asked room x screens) l ∙ past-a
