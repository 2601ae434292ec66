-- An entry that is not wrong, and what is known of a book that opens.
use mathlib.Core.Path.{◌≡◌, refl, ap, sym, ◌∙◌}
use mathlib.Core.Bool.{Bool, true, false, cond, not, ◌&&◌, ◌||◌}
use mathlib.Core.List.{List}
use Prim.Native.Nat.{ℕ, ◌+◌, ◌*◌, ◌<◌, ◌≤◌}
use native.Mathlib.Omega.{arith}
use lib.Dec.{ltb, leb, eqb}
use borrow.Author.Tests.{ltb-false, leb-true, eqb-true, eq-eqb, not-false}
use Rattle.ground.proofs.Conjuncts.{five, neither}
use Rattle.contents.specs.declared.entry.Entry.{Entry}
use Rattle.contents.specs.Contents.{word_at, entries_at, entry_size, first_body, entry_at, wrong_entry, opens}

-- an entry that is not wrong; the last body ends with the book
pub record Right (e : Entry) (most start least left : ℕ) : Type 0 where
  pub rising : least ≤ e.key
  pub begins : e.offset ≡ start
  pub inside : start + e.size ≤ most
  pub last : left ≡ 0 → start + e.size ≡ most

pub right : (e : Entry) (most start least left : ℕ) → wrong_entry e most start least left ≡ false → Right e most start least left
right e most start least left h =
    let keyed : Bool = ltb e.key least in
    let placed : Bool = not (eqb e.offset start) in
    let past : Bool = ltb most (start + e.size) in
    let three = neither (keyed || placed || past) (eqb left 0 && ltb (start + e.size) most) h in
    let two = neither (keyed || placed) past three.0 in
    let one = neither keyed placed two.0 in
    let i : start + e.size ≤ most = ltb-false most (start + e.size) two.1 in
    record {
      rising = ltb-false e.key least one.0;
      begins = eqb-true e.offset start (not-false (eqb e.offset start) one.1);
      inside = i;
      last = λ z.
          let f : ltb (start + e.size) most ≡ false = ap (λ (t : Bool). t && ltb (start + e.size) most) (sym (eq-eqb left 0 z)) ∙ three.1 in
          let l : most ≤ start + e.size = ltb-false (start + e.size) most f in
          omega arith;
    }

-- a book of so many bytes that opens
pub record Opened (two : Bool) (n size : ℕ) : Type 0 where
  pub some : 1 ≤ n
  pub few : n ≤ 64
  pub contents : first_body two n ≤ size
  pub short : size ≤ 32768

pub opened : (two : Bool) (n size : ℕ) → opens two n size ≡ true → Opened two n size
opened two n size e =
    let l = five (leb 1 size) (leb size 32768) (leb 1 n) (leb n 64) (leb (first_body two n) size) e in
    record {
      some = leb-true 1 n l.2;
      few = leb-true n 64 l.3;
      contents = leb-true (first_body two n) size l.4;
      short = leb-true size 32768 l.1;
    }

-- an entry of those before the bodies lies before them
pub entry-room : (two : Bool) (n i at size : ℕ) → at ≡ entries_at two + entry_size two * i → i < n → first_body two n ≤ size → at + entry_size two ≤ size
entry-room true n i at size a l f = omega arith
entry-room false n i at size a l f = omega arith

pub next-entry : (two : Bool) (i at : ℕ) → at ≡ entries_at two + entry_size two * i → at + entry_size two ≡ entries_at two + entry_size two * (i + 1)
next-entry true i at a = omega arith
next-entry false i at a = omega arith

pub first_entry : (two : Bool) → entries_at two ≡ entries_at two + entry_size two * 0
first_entry true = refl
first_entry false = refl

-- in form one the key is the number
pub key-numbered : (two : Bool) (book : List ℕ) (at least : ℕ) → two ≡ false → (entry_at two book at least).key ≡ least
key-numbered true book at least e = absurd (let z : ◌≡◌ {A = ℕ} 0 1 = ap (λ (t : Bool). cond t 0 1) e in omega arith)
key-numbered false book at least e = refl

-- the bytes of the entries are few
pub size_few : (two : Bool) (n : ℕ) {size : ℕ} → size ≡ entry_size two → n ≤ 255 → size * n ≤ 1530
size_few true n e h = rw e (omega arith)
size_few false n e h = rw e (omega arith)

pub at-few : (two : Bool) {at : ℕ} → at ≡ entries_at two → at ≤ 2
at-few true e = rw e (omega arith)
at-few false e = rw e (omega arith)

-- an entry as it was read, in form two and in form one
pub entry-two : (two : Bool) (book : List ℕ) (at least : ℕ) → two ≡ true → {k o s : ℕ} → k ≡ word_at book at → o ≡ word_at book (at + 2) → s ≡ word_at book (at + 4)
    → record { key = k; offset = o; size = s } ≡ entry_at two book at least
entry-two true book at least t a b c =
    let e : at + 4 ≡ at + 2 + 2 = omega arith in
    (λ j. record { key = a j; offset = b j; size = c j }) ∙ (λ j. record { key = word_at book at; offset = word_at book (at + 2); size = word_at book (e j) })
entry-two false book at least t a b c = absurd (let z : ◌≡◌ {A = ℕ} 1 0 = ap (λ (x : Bool). cond x 0 1) t in omega arith)

pub entry-one : (two : Bool) (book : List ℕ) (at least : ℕ) → two ≡ false → {o s : ℕ} → o ≡ word_at book at → s ≡ word_at book (at + 2)
    → record { key = least; offset = o; size = s } ≡ entry_at two book at least
entry-one false book at least t a b =
    let e : at ≡ at + 0 = omega arith in
    (λ j. record { key = least; offset = a j; size = b j }) ∙ (λ j. record { key = least; offset = word_at book (e j); size = word_at book (e j + 2) })
entry-one true book at least t a b = absurd (let z : ◌≡◌ {A = ℕ} 0 1 = ap (λ (x : Bool). cond x 0 1) t in omega arith)
