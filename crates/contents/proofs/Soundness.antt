-- Contents that are sound: what each entry says, and that a book of which all that holds is sound.
use mathlib.Core.Path.{◌≡◌, refl, ap, sym, subst, ◌∙◌}
use mathlib.Core.Bool.{Bool, true, false, cond, not, ◌&&◌, ◌||◌}
use mathlib.Core.List.{List, [], ◌∷◌}
use Prim.Native.Nat.{ℕ, zero, suc, ◌+◌, ◌<◌, ◌≤◌}
use native.Mathlib.Omega.{arith}
use lib.Dec.{ltb, eqb}
use lib.ListN.{length, get_or}
use borrow.Author.Tests.{le-ltb, le-leb, eq-eqb, eqb-true}
use Rattle.contents.specs.declared.entry.Entry.{Entry}
use Rattle.contents.specs.Contents.{Body, Contents, sound, wrong, with_body, is_two, count_at, entries_at, entry_size, first_body, entry_at, wrong_entry, body_of, entries_from, opens, contents_in, contents_of}
use Rattle.contents.specs.Spans.{starts_of, ends_of}
use Rattle.contents.proofs.Entries.{Right, right, Opened, opened}

not-wrong : (place : ℕ) {bs : List Body} → wrong place ≡ sound bs → ⊥
not-wrong place h = let z : ◌≡◌ {A = ℕ} 0 1 = cc in omega arith

sound-same : {bs cs : List Body} → sound bs ≡ sound cs → bs ≡ cs
sound-same h = cc

-- an entry of which that holds is not wrong
pub right_is : {e : Entry} {most start least left : ℕ} → Right e most start least left → wrong_entry e most start least left ≡ false
right_is {e} {most} {start} {least} {left} k =
    λ i. le-ltb e.key least k.rising i || not (eq-eqb e.offset start k.begins i) || le-ltb most (start + e.size) k.inside i || ended (eqb left 0) refl i
  where
    ended : (v : Bool) → eqb left 0 ≡ v → (eqb left 0 && ltb (start + e.size) most) ≡ false
    ended true z =
        let l : most ≤ start + e.size = omega (arith, k.last (eqb-true left 0 z)) in
        λ i. z i && le-ltb (start + e.size) most l i
    ended false z = λ i. z i && ltb (start + e.size) most

-- the entries from a byte on say that these bodies follow
abbrev pub Entered : Bool → List ℕ → ℕ → ℕ → ℕ → List Body → Type 0
Entered two book at start least [] = Unit {0}
Entered two book at start least (b ∷ bs) =
    Right (entry_at two book at least) (length book) start least (length bs) × (b ≡ body_of (entry_at two book at least) start)
    × Entered two book (at + entry_size two) b.end (b.key + 1) bs

module _ (two : Bool) (book : List ℕ) where
  pub entered : (left at start least : ℕ) {bs : List Body} → entries_from two book left at start least ≡ sound bs
      → (length bs ≡ left) × Entered two book at start least bs
  unfolding entries_from
  entered zero at start least {bs} h =
      let e : [] ≡ bs = sound-same h in
      subst (λ (cs : List Body). (length cs ≡ 0) × Entered two book at start least cs) e (refl, tt)
  entered (suc left) at start least {bs} h =
      go (wrong_entry x (length book) start least left) refl (entries_from two book left (at + entry_size two) (start + x.size) (x.key + 1))
      (λ cs i. entered left (at + entry_size two) (start + x.size) (x.key + 1) i) h
    where
      x : Entry
      x = entry_at two book at least

      go : (w : Bool) → wrong_entry x (length book) start least left ≡ w → (y : Contents)
          → ((cs : List Body) → y ≡ sound cs → (length cs ≡ left) × Entered two book (at + entry_size two) (start + x.size) (x.key + 1) cs)
          → cond w (wrong at) (with_body (body_of x start) y) ≡ sound bs → (length bs ≡ suc left) × Entered two book at start least bs
      go true f y ih h = absurd (not-wrong at h)
      go false f (wrong place) ih h = absurd (not-wrong place h)
      go false f (sound cs) ih h =
          let e : body_of x start ∷ cs ≡ bs = sound-same h in
          let k = ih cs refl in
          subst (λ (ds : List Body). (length ds ≡ suc left) × Entered two book at start least ds) e
          (ap suc k.0, (right x (length book) start least (length cs) (ap (wrong_entry x (length book) start least) k.0 ∙ f), refl, k.1))

  pub entering : (at start least : ℕ) (bs : List Body) → Entered two book at start least bs → entries_from two book (length bs) at start least ≡ sound bs
  unfolding entries_from
  entering at start least [] k = refl
  entering at start least (b ∷ bs) k =
      let x : Entry = entry_at two book at least in
      let rest : Body → Contents = λ (c : Body). entries_from two book (length bs) (at + entry_size two) c.end (c.key + 1) in
      ap (λ (w : Bool). cond w (wrong at) (with_body (body_of x start) (rest (body_of x start)))) (right_is k.0)
      ∙ ap (λ (c : Body). with_body c (rest c)) (sym k.1)
      ∙ ap (with_body b) (entering (at + entry_size two) b.end (b.key + 1) bs k.2)

  -- a body lies inside the book
  pub entered-inside : (at start least : ℕ) (bs : List Body) → Entered two book at start least bs → (i : ℕ) → i < length bs
      → (get_or (starts_of bs) i 0 ≤ get_or (ends_of bs) i 0) × (get_or (ends_of bs) i 0 ≤ length book)
  entered-inside at start least [] k i l = absurd (omega arith)
  entered-inside at start least (b ∷ bs) k zero l =
      let s : b.start ≡ start = ap (λ (c : Body). c.start) k.1 in
      let e : b.end ≡ start + (entry_at two book at least).size = ap (λ (c : Body). c.end) k.1 in
      (omega arith, omega (arith, k.0.inside))
  entered-inside at start least (b ∷ bs) k (suc i) l = entered-inside (at + entry_size two) b.end (b.key + 1) bs k.2 i (omega arith)

-- a book whose contents are sound in a form
pub record SoundIn (two : Bool) (book : List ℕ) (bs : List Body) : Type 0 where
  pub opens : Opened two (length bs) (length book)
  pub count : length bs ≡ get_or book (count_at two) 0
  pub entries : Entered two book (entries_at two) (first_body two (length bs)) 0 bs

abbrev pub SoundBook : List ℕ → List Body → Type 0
SoundBook book bs = SoundIn (is_two book) book bs

pub sound-book : (book : List ℕ) {bs : List Body} → contents_of book ≡ sound bs → SoundBook book bs
unfolding contents_of
sound-book book {bs} = go (opens two n (length book)) refl
  where
    two : Bool
    two = is_two book

    n : ℕ
    n = get_or book (count_at two) 0

    go : (v : Bool) → opens two n (length book) ≡ v → cond v (entries_from two book n (entries_at two) (first_body two n) 0) (wrong 0) ≡ sound bs → SoundBook book bs
    go true v h =
        let k = entered two book n (entries_at two) (first_body two n) 0 h in
        let e : n ≡ length bs = sym k.0 in
        record {
          opens = subst (λ (m : ℕ). Opened two m (length book)) e (opened two n (length book) v);
          count = k.0;
          entries = subst (λ (m : ℕ). Entered two book (entries_at two) (first_body two m) 0 bs) e k.1;
        }
    go false v h = absurd (not-wrong 0 h)

pub book-sound : (book : List ℕ) (bs : List Body) → SoundBook book bs → contents_of book ≡ sound bs
unfolding contents_of
book-sound book bs k =
    let two : Bool = is_two book in
    let l : 1 ≤ length book = omega (arith, first_some two (length bs), k.opens.contents) in
    ap (contents_in two book) (sym k.count)
    ∙ ap (λ (v : Bool). cond v (entries_from two book (length bs) (entries_at two) (first_body two (length bs)) 0) (wrong 0))
    (λ i. le-leb 1 (length book) l i && le-leb (length book) 32768 k.opens.short i && le-leb 1 (length bs) k.opens.some i
    && le-leb (length bs) 64 k.opens.few i && le-leb (first_body two (length bs)) (length book) k.opens.contents i)
    ∙ entering two book (entries_at two) (first_body two (length bs)) 0 bs k.entries
  where
    first_some : (two : Bool) (n : ℕ) → 1 ≤ first_body two n
    first_some true n = omega arith
    first_some false n = omega arith
