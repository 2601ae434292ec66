-- A screen's body asked for: each answer, and where a body lies.
use mathlib.Core.Path.{◌≡◌, refl, ap, sym, ◌∙◌}
use mathlib.Core.Bool.{Bool, true, false, cond}
use mathlib.Core.List.{List, [], ◌∷◌}
use mathlib.Core.Logic.{◌⊎◌, inl, inr}
use Prim.Native.Nat.{ℕ, zero, suc, ◌+◌, ◌≤◌}
use native.Mathlib.Omega.{arith}
use lib.Dec.{eqb}
use lib.ListN.{length, get_or}
use Rattle.ground.proofs.Tests.{settled}
use Rattle.contents.specs.declared.entry.Entry.{Entry}
use Rattle.std.proofs.Common.{◌==◌, find, Option, Some, None}
use Rattle.std.specs.Prelude.{Result, Ok, Err, IfOk, IfSome}
use Rattle.std.specs.Option.{ok_or}
use Rattle.state.specs.declared.refusal.Refusal.TheVariants.{NoSuchScreen}
use Rattle.state.specs.Refusals.{number_of}
use Rattle.state.specs.declared.refusal.Refused.{Refused as Turned}
use Rattle.state.proofs.RefusalNumbers.{same_number}
use Rattle.contents.specs.Replies.{asked, Asked, Body as Asked-Body, Refused, bodies}
use Rattle.contents.specs.declared.spans.Span.{Span}
use Rattle.contents.specs.Contents.{Body, Contents, sound, wrong, with_body, is_two, count_at, entries_at, entry_size, first_body, entry_at, wrong_entry, body_of, entries_from, opens, contents_of}
use Rattle.contents.specs.Inside.{Inside}
use Rattle.contents.specs.Asked.{body_at, body_in, asked_of}
use Rattle.contents.proofs.Entries.{right, opened}
use Rattle.contents.proofs.Soundness.{sound-book}

not_body : (n place : ℕ) {s e : ℕ} → Refused n place ≡ Asked-Body s e → ⊥
not_body n place h = let z : ◌≡◌ {A = ℕ} 0 1 = cc in omega arith

-- a sound book has at most 64 screens
pub sound-few : (book : List ℕ) {bs : List Body} → contents_of book ≡ sound bs → length bs ≤ 64
sound-few book h = (sound-book book h).opens.few

-- each answer, of the screens of a book
pub asked-wrong : (book : List ℕ) (key : ℕ) {place : ℕ} → contents_of book ≡ wrong place → Refused 9 place ≡ asked_of book key
unfolding asked_of
asked-wrong book key h = ap (λ (x : Contents). body_in x key) (sym h)

abbrev sought : Option Span → Asked
sought (Some s) = Asked-Body s.start s.end
sought None = Refused 10 0

sought-in : (ss : List Span) (key : ℕ) → sought (find (λ (s : Span). s.key == key) ss) ≡ body_at (bodies ss) key
sought-in [] key = refl
sought-in (s ∷ ss) key = go (s.key == key) (sought-in ss key)
  where
    go : (v : Bool) → sought (find (λ (x : Span). x.key == key) ss) ≡ body_at (bodies ss) key
        → sought (cond v (Some s) (find (λ (x : Span). x.key == key) ss)) ≡ cond v (Asked-Body s.start s.end) (body_at (bodies ss) key)
    go true h = refl
    go false h = h

-- a screen that is found, or the refusal of none
pub asked-or : (o : Option Span) (e : Turned) → (e.refusal ≡ NoSuchScreen) × (e.place ≡ 0) → asked (ok_or o e) ≡ sought o
asked-or (Some s) e h = refl
asked-or None e h = rw (h.0, h.1) refl

pub key-or : (key : ℕ) (o : Option Span) (e : Turned) → IfSome o (λ (s : Span). s.key ≡ key) → IfOk (ok_or o e) (λ (s : Span). s.key ≡ key)
key-or key (Some s) e h = h
key-or key None e h = tt

pub asked-found : (book : List ℕ) (key : ℕ) (ss : List Span) {r : Option Span} → contents_of book ≡ sound (bodies ss) → r ≡ find (λ (s : Span). s.key == key) ss → sought r ≡ asked_of book key
unfolding asked_of
asked-found book key ss h f = ap sought f ∙ sought-in ss key ∙ ap (λ (x : Contents). body_in x key) (sym h)

-- a body ends inside the book and not before it begins
bodies-inside : (two : Bool) (book : List ℕ) (left at start least key : ℕ) {s e : ℕ} → start ≤ length book
    → body_in (entries_from two book left at start least) key ≡ Asked-Body s e → (s ≤ e) × (e ≤ length book)
unfolding entries_from
bodies-inside two book zero at start least key h b = absurd (not_body 10 0 b)
bodies-inside two book (suc left) at start least key {s} {e} h b =
    go (wrong_entry x (length book) start least left) refl (entries_from two book left (at + entry_size two) (start + x.size) (x.key + 1))
    (λ l. bodies-inside two book left (at + entry_size two) (start + x.size) (x.key + 1) key l) b
  where
    x : Entry
    x = entry_at two book at least

    go : (w : Bool) → wrong_entry x (length book) start least left ≡ w → (y : Contents)
        → (start + x.size ≤ length book → body_in y key ≡ Asked-Body s e → (s ≤ e) × (e ≤ length book))
        → body_in (cond w (wrong at) (with_body (body_of x start) y)) key ≡ Asked-Body s e → (s ≤ e) × (e ≤ length book)
    go true f y ih b = absurd (not_body 9 at b)
    go false f (wrong place) ih b = absurd (not_body 9 place b)
    go false f (sound bs) ih b = told (eqb x.key key) b
      where
        told : (v : Bool) → cond v (Asked-Body start (start + x.size)) (body_at bs key) ≡ Asked-Body s e → (s ≤ e) × (e ≤ length book)
        told true b =
            let i : start ≡ s = cc in
            let j : start + x.size ≡ e = cc in
            let k = (right x (length book) start least left f).inside in
            (omega arith, omega arith)
        told false b = ih (right x (length book) start least left f).inside b

-- a body that was given lies inside the book
pub asked-inside : (book : List ℕ) (number : ℕ) {start end : ℕ} → asked_of book number ≡ Asked-Body start end → Inside book start end
unfolding asked_of contents_of
asked-inside book number {start} {end} = go (opens two n (length book)) refl
  where
    two : Bool
    two = is_two book

    n : ℕ
    n = get_or book (count_at two) 0

    go : (v : Bool) → opens two n (length book) ≡ v
        → body_in (cond v (entries_from two book n (entries_at two) (first_body two n) 0) (wrong 0)) number ≡ Asked-Body start end → Inside book start end
    go true e h =
        let o = opened two n (length book) e in
        let k = bodies-inside two book n (entries_at two) (first_body two n) 0 number o.contents h in
        record { order = k.0; in_book = k.1; short = o.short }
    go false e h = absurd (not_body 9 0 h)

-- a refusal is 9 or 10
pub asked-number : (book : List ℕ) (number : ℕ) {n place : ℕ} → asked_of book number ≡ Refused n place → (n ≡ 9) ⊎ (n ≡ 10)
unfolding asked_of
asked-number book number {n} {place} = go (contents_of book)
  where
    none : (bs : List Body) → body_at bs number ≡ Refused n place → n ≡ 10
    none [] h = cc
    none (b ∷ bs) h = told (eqb b.key number) (λ g. none bs g) h
      where
        told : (v : Bool) → (body_at bs number ≡ Refused n place → n ≡ 10)
            → cond v (Asked-Body b.start b.end) (body_at bs number) ≡ Refused n place → n ≡ 10
        told true ih h = absurd (not_body n place (sym h))
        told false ih h = ih h

    go : (x : Contents) → body_in x number ≡ Refused n place → (n ≡ 9) ⊎ (n ≡ 10)
    go (sound bs) h = inr (none bs h)
    go (wrong p) h = inl (cc)

-- two answers that are read alike, each with the key that was asked for, are equal
same_asked : (key : ℕ) (x y : Result Span Turned) → IfOk x (λ s. s.key ≡ key) → IfOk y (λ s. s.key ≡ key) → asked x ≡ asked y → x ≡ y
same_asked key (Ok s) (Ok t) p q h =
    let a : s.start ≡ t.start = cc in
    let b : s.end ≡ t.end = cc in
    λ i. Ok (record { key = (p ∙ sym q) i; start = a i; end = b i })
same_asked key (Ok s) (Err e) p q h = absurd (not_body (number_of e.refusal) e.place (sym h))
same_asked key (Err d) (Ok t) p q h = absurd (not_body (number_of d.refusal) d.place h)
same_asked key (Err d) (Err e) p q h =
    let a : number_of d.refusal ≡ number_of e.refusal = cc in
    let b : d.place ≡ e.place = cc in
    λ i. Err (record { refusal = same_number d.refusal e.refusal a i; place = b i })

-- two replies that meet the promise of `ask` are equal
pub ask-result-settled : {x y : Result Span Turned} (book : List ℕ) (number : ℕ) → IfOk x (λ s. s.key ≡ number) → IfOk y (λ s. s.key ≡ number)
    → asked x ≡ asked_of book number → asked y ≡ asked_of book number → x ≡ y
ask-result-settled {x} {y} book number p q h k = same_asked number x y p q (settled h k)

-- the same of replies
pub ask-settled : {x y : Asked} (book : List ℕ) (number : ℕ) → x ≡ asked_of book number → y ≡ asked_of book number → x ≡ y
ask-settled book number h k = settled h k
