-- What reading found, as facts: for whoever reads a body.
use mathlib.Core.Path.{◌≡◌, refl, ap, sym, subst, ◌∙◌}
use mathlib.Core.Bool.{Bool, true, false, cond, ◌&&◌}
use mathlib.Core.List.{List}
use mathlib.Core.Logic.{◌⊎◌, inl, inr, ⊎_elim}
use Prim.Native.Nat.{ℕ, ◌+◌, ◌*◌, ◌<◌, ◌≤◌}
use native.Mathlib.Nat.{mul-le-mul}
use native.Mathlib.Omega.{arith}
use lib.Dec.{ltb, leb, eqb}
use lib.ListN.{length, get_or, drop, length-drop}
use lib.Seq.{length-take-le}
use borrow.Author.Tests.{leb-true, leb-false, ltb-true}
use Rattle.ground.proofs.Tests.{both_left, both_right, settled}
use Rattle.state.specs.declared.panel.Panel.{Panel}
use Rattle.state.specs.declared.registers.Combination.TheVariants.{Or, Exor, And}
use Rattle.state.specs.Combination.{is_attribute}
use Rattle.state.proofs.Valid.{Panelled}
use Rattle.book.specs.declared.operation.Placed.{Placed}
use Rattle.book.specs.declared.operation.Placed.TheVariants.{Text, Rectangle, Dot, Glyph, Cursor, Combine}
use Rattle.std.specs.Prelude.{Result, Ok, Err, Option, Some, None, IfErr}
use Rattle.state.specs.declared.refusal.Refusal.{Refusal}
use Rattle.state.specs.declared.refusal.Refusal.TheVariants.{WrongOperation}
use Rattle.book.specs.declared.operation.Standing.{Standing}
use Rattle.book.specs.Replies.{found, Found, Operation as Found-Operation, End, Faulty}
use Rattle.contents.specs.Contents.{word_at, is_two}
use Rattle.book.specs.Operation.{pairs_for, operation_of, sized, read_text, read_rectangle, read_dot, read_glyph, read_cursor, combination_of, known_mode, read_combine, found_here, found_at}
use Rattle.book.specs.Pairs.{placed_pairs}
use Rattle.book.specs.Range.{InRange, Stands, ByteSized, FoundOperation}
use Rattle.ground.proofs.Conjuncts.{three, four, five}

not_end : {o : Placed} {next : ℕ} → End ≡ Found-Operation o next → ⊥
not_end h = let z : ◌≡◌ {A = ℕ} 0 1 = cc in omega arith

module _ (p : Panel) (book : List ℕ) (at end : ℕ) where
  -- what is known of a reading that begins inside the body
  abbrev Known : Found → Type 0
  Known (Found-Operation o next) = FoundOperation p book at end o next
  Known End = ⊥
  Known Faulty = Unit {0}

  either-known : (t : Bool) (x y : Found) → Known x → Known y → Known (cond t x y)
  either-known true x y k l = k
  either-known false x y k l = l

  module _ (inb : end ≤ length book) where
    sized-known : (size : ℕ) (ranged : Bool) (o : Placed) → 0 < size → (((i : ℕ) → get_or book i 0 < 256) → ByteSized o)
        → (at + size ≤ end → ranged ≡ true → InRange p book o × Stands at (at + size) o) → Known (sized at end size ranged o)
    sized-known size ranged o some bytes facts = go (leb (at + size) end && ranged) refl
      where
        go : (t : Bool) → (leb (at + size) end && ranged) ≡ t → Known (cond t (Found-Operation o (at + size)) Faulty)
        go true e =
            let w : at + size ≤ end = leb-true (at + size) end (both_left (leb (at + size) end) ranged e) in
            let f = facts w (both_right (leb (at + size) end) ranged e) in
            record { on = omega arith; to_end = w; in_book = inb; range = f.0; stands = f.1; bytes = bytes }
        go false e = tt

    text-known : Known (read_text p book at end)
    text-known =
        let line : ℕ = get_or book (at + 1) 0 in
        let column : ℕ = get_or book (at + 2) 0 in
        let n : ℕ = get_or book (at + 3) 0 in
        sized-known (4 + n) _ (Text line column (at + 4) n) (omega arith) (λ b. tt)
        (λ w e.
        let f = four (ltb line p.lines) (leb 1 n) (leb n 80) (leb (column + n) p.columns) e in (
          record {
            down = ltb-true line p.lines f.0;
            some = leb-true 1 n f.1;
            few = leb-true n 80 f.2;
            across = leb-true (column + n) p.columns f.3;
            inside = omega arith;
          },
          (refl, omega arith),
        ))

    rectangle-known : Known (read_rectangle p book at end)
    rectangle-known =
        let top : ℕ = get_or book (at + 1) 0 in
        let column : ℕ = get_or book (at + 2) 0 in
        let height : ℕ = get_or book (at + 3) 0 in
        let width : ℕ = get_or book (at + 4) 0 in
        sized-known 6 _ (Rectangle top column height width (get_or book (at + 5) 0)) (omega arith) (λ b. b (at + 5))
        (λ w e.
        let f = four (leb 1 height) (leb 1 width) (leb (top + height) (8 * p.lines)) (leb (column + width) p.columns) e in (
          record {
            some_rows = leb-true 1 height f.0;
            some_columns = leb-true 1 width f.1;
            down = leb-true (top + height) (8 * p.lines) f.2;
            across = leb-true (column + width) p.columns f.3;
          },
          refl,
        ))

    dot-known : Known (read_dot p book at end)
    dot-known =
        let x : ℕ = word_at book (at + 1) in
        let y : ℕ = get_or book (at + 3) 0 in
        let v : ℕ = get_or book (at + 4) 0 in
        sized-known 5 _ (Dot x y (eqb v 1)) (omega arith) (λ b. tt)
        (λ w e.
        let f = three (ltb x (p.columns * p.width)) (ltb y (8 * p.lines)) (leb v 1) e in
        (record { across = ltb-true x (p.columns * p.width) f.0; down = ltb-true y (8 * p.lines) f.1 }, refl))

    glyph-known : Known (read_glyph p book at end)
    glyph-known =
        let code : ℕ = get_or book (at + 1) 0 in
        sized-known 10 (leb 0x80 code) (Glyph code (at + 2)) (omega arith) (λ b. b (at + 1))
        (λ w e. (record { high = leb-true 0x80 code e; inside = omega arith }, (refl, omega arith)))

    cursor-known : Known (read_cursor p book at end)
    cursor-known =
        let line : ℕ = get_or book (at + 1) 0 in
        let column : ℕ = get_or book (at + 2) 0 in
        let height : ℕ = get_or book (at + 3) 0 in
        let blink : ℕ = get_or book (at + 4) 0 in
        sized-known 5 _ (Cursor line column height (eqb blink 1)) (omega arith) (λ b. tt)
        (λ w e.
        let f = five (ltb line p.lines) (ltb column p.columns) (leb 1 height) (leb height 8) (leb blink 1) e in (
          record {
            down = ltb-true line p.lines f.0;
            across = ltb-true column p.columns f.1;
            some = leb-true 1 height f.2;
            few = leb-true height 8 f.3;
          },
          refl,
        ))

    combine-known : Known (read_combine book at end)
    combine-known =
        let k : ℕ = get_or book (at + 1) 0 in
        sized-known 2 (known_mode (is_two book) k) (Combine (combination_of k)) (omega arith) (λ b. tt) (λ w e. (record { plain = plain (eqb k 0) (eqb k 1) }, refl))
      where
        plain : (a b : Bool) → is_attribute (cond a Or (cond b Exor And)) ≡ false
        plain true b = refl
        plain false true = refl
        plain false false = refl

    here-known : Known (found_here p book at end)
    unfolding found_here
    here-known =
        let code : ℕ = get_or book at 0 in
        either-known (eqb code 1) (read_text p book at end) _ text-known
        (either-known (eqb code 2) (read_rectangle p book at end) _ rectangle-known
        (either-known (eqb code 3) (read_dot p book at end) _ dot-known
        (either-known (eqb code 4) (read_glyph p book at end) _ glyph-known
        (either-known (eqb code 5) (read_cursor p book at end) _ cursor-known
        (either-known (eqb code 6) (read_combine book at end) Faulty combine-known tt)))))

  -- the body's end, or a reading that begins inside it
  sorted : ((end ≤ at) × (found_at p book at end ≡ End)) ⊎ ((at < end) × Known (found_at p book at end))
  unfolding found_at
  sorted = go (leb end at) refl (leb end (length book)) refl
    where
      go : (a : Bool) → leb end at ≡ a → (b : Bool) → leb end (length book) ≡ b
          → ((end ≤ at) × (cond a End (cond b (found_here p book at end) Faulty) ≡ End)) ⊎ ((at < end) × Known (cond a End (cond b (found_here p book at end) Faulty)))
      go true e b f = inl (leb-true end at e, refl)
      go false e true f = inr (leb-false end at e, here-known (leb-true end (length book) f))
      go false e false f = inr (leb-false end at e, tt)

  pub found-operation : {o : Placed} {next : ℕ} → found_at p book at end ≡ Found-Operation o next → FoundOperation p book at end o next
  found-operation h = ⊎_elim (λ k. absurd (not_end (sym k.1 ∙ h))) (λ k. subst Known h k.1) sorted

  pub found-end : found_at p book at end ≡ End → end ≤ at
  found-end h = ⊎_elim (λ k. k.0) (λ k. absurd (subst Known h k.1)) sorted

  pub at-end : end ≤ at → found_at p book at end ≡ End
  at-end h = ⊎_elim (λ k. k.1) (λ k. absurd (let z : ⊥ = omega arith in z)) sorted

-- two replies that meet the promise of `read` are equal, and two that meet that of `pairs`
pub read-result-settled : {x y : Result (Option Standing) Refusal} (p : Panel) (book : List ℕ) (at end : ℕ) → IfErr x (λ e. e ≡ WrongOperation) → IfErr y (λ e. e ≡ WrongOperation)
    → found x ≡ found_at p book at end → found y ≡ found_at p book at end → x ≡ y
read-result-settled {x} {y} p book at end i j h k = go x y i j (settled h k)
  where
    go : (x y : Result (Option Standing) Refusal) → IfErr x (λ e. e ≡ WrongOperation) → IfErr y (λ e. e ≡ WrongOperation) → found x ≡ found y → x ≡ y
    go (Ok (Some s)) (Ok (Some t)) i j h =
        let a : s.placed ≡ t.placed = cc in
        let b : s.next ≡ t.next = cc in
        λ q. Ok (Some (record { placed = a q; next = b q }))
    go (Ok (Some s)) (Ok None) i j h = absurd (not_end (sym h))
    go (Ok (Some s)) (Err e) i j h = let z : ◌≡◌ {A = ℕ} 0 1 = cc in absurd (let y : ⊥ = omega arith in y)
    go (Ok None) (Ok (Some t)) i j h = absurd (not_end h)
    go (Ok None) (Ok None) i j h = refl
    go (Ok None) (Err e) i j h = let z : ◌≡◌ {A = ℕ} 0 1 = cc in absurd (let y : ⊥ = omega arith in y)
    go (Err d) (Ok (Some t)) i j h = let z : ◌≡◌ {A = ℕ} 0 1 = cc in absurd (let y : ⊥ = omega arith in y)
    go (Err d) (Ok None) i j h = let z : ◌≡◌ {A = ℕ} 0 1 = cc in absurd (let y : ⊥ = omega arith in y)
    go (Err d) (Err e) i j h = ap Err (i ∙ sym j)

pub pairs-settled : {x y : ℕ} (o : Placed) → x ≡ placed_pairs o → y ≡ placed_pairs o → x ≡ y
pairs-settled o h k = settled h k

-- the pairs of an operation as it stands in the book
pub pairs-placed : (p : Panel) (book : List ℕ) (o : Placed) → InRange p book o → pairs_for (operation_of book o) ≡ placed_pairs o
pairs-placed p book (Text line column from n) k = ap (λ (m : ℕ). m + 5) (length-take-le n (drop from book) (rw length-drop (omega (arith, k.inside))))
pairs-placed p book (Rectangle top column height width value) k = refl
pairs-placed p book (Dot x y on) k = refl
pairs-placed p book (Glyph code from) k = refl
pairs-placed p book (Cursor line column height blink) k = refl
pairs-placed p book (Combine c) k = refl

-- 256 rows of 80 bytes and five pairs
abbrev pub most_pairs : ℕ
most_pairs = 21760

pub pairs-few : (p : Panel) → Panelled p → (book : List ℕ) (o : Placed) → InRange p book o → placed_pairs o ≤ most_pairs
pairs-few p q book (Text line column from n) k = omega (arith, k.few)
pairs-few p q book (Rectangle top column height width value) k =
    mul-le-mul {n₂ = 256} {m₂ = 85} (omega (arith, k.down, q.lines)) (omega (arith, k.across, q.columns))
pairs-few p q book (Dot x y on) k = omega arith
pairs-few p q book (Glyph code from) k = omega arith
pairs-few p q book (Cursor line column height blink) k = omega arith
pairs-few p q book (Combine c) k = omega arith

-- the same of replies
pub read-settled : {x y : Found} (p : Panel) (book : List ℕ) (at end : ℕ) → x ≡ found_at p book at end → y ≡ found_at p book at end → x ≡ y
read-settled p book at end h k = settled h k
