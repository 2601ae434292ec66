-- The two laws of a layout: a sound book of bytes is laid out of its own screens, and what is laid out of screens has them for contents.
use mathlib.Core.Path.{◌≡◌, refl, ap, sym, subst, ◌∙◌}
use mathlib.Core.Bool.{Bool, true, false, ◌&&◌}
use mathlib.Core.List.{List, [], ◌∷◌, ◌++◌, append_assoc}
use Prim.Native.Nat.{ℕ, suc, ◌+◌, ◌-◌, ◌*◌, ◌/◌, ◌%◌, ◌<◌, ◌≤◌}
use native.Mathlib.Nat.{add-zero, add_assoc}
use native.Mathlib.Omega.{arith}
use lib.Dec.{eqb}
use lib.ListN.{length, get_or, take, drop, length-append, take-append-drop, drop_of_length-le}
use lib.Seq.{drop-cons, drop-drop, drop_at, get_or-drop, take-append_seam, drop-append_seam}
use borrow.Author.Tests.{eqb-true, eq-eqb, ne_eqb}
use Rattle.ground.specs.Bytes.{word_of}
use Rattle.ground.proofs.Tests.{both_left, both_right}
use Rattle.contents.specs.declared.entry.Entry.{Entry}
use Rattle.contents.specs.Contents.{word_at, Body, sound, is_two, count_at, entries_at, entry_size, first_body, entry_at, body_of, contents_of}
use Rattle.contents.proofs.Entries.{Right, Opened}
use Rattle.contents.proofs.Soundness.{Entered, SoundIn, sound-book, book-sound}
use Rattle.layout.specs.Laid.{Kept, word_bytes, entry_bytes, head_bytes, entries_laid, bodies_laid, laid_out, bytes_between, screens_of}
use Rattle.layout.specs.Moved.{numbered_from}
use Rattle.layout.specs.Trips.{BookBytes}
use Rattle.layout.proofs.Laying.{laid-length, entries-length, screens-count}
use Rattle.layout.proofs.Puts.{between-length}

-- a word's bytes, and the word of them
word_back : (a b : ℕ) → a < 256 → b < 256 → word_bytes (word_of a b) ≡ a ∷ b ∷ []
word_back a b h k =
    let x : (a + 256 * b) % 256 ≡ a = omega arith in
    let y : (a + 256 * b) / 256 ≡ b = omega arith in
    λ i. x i ∷ y i ∷ []

pub word-there : (v : ℕ) → word_of (v % 256) (v / 256) ≡ v
word-there v = omega arith

module _ (book : List ℕ) (bytes : BookBytes book) where
  word-drop : (at : ℕ) → at + 2 ≤ length book → drop at book ≡ word_bytes (word_at book at) ++ drop (at + 2) book
  word-drop at h =
      let e : suc at ≡ at + 1 = omega arith in
      let f : suc (at + 1) ≡ at + 2 = omega arith in
      drop-cons book at 0 (omega arith) ∙ ap (λ (n : ℕ). get_or book at 0 ∷ drop n book) e
      ∙ ap (λ (l : List ℕ). get_or book at 0 ∷ l) (drop-cons book (at + 1) 0 (omega arith) ∙ ap (λ (n : ℕ). get_or book (at + 1) 0 ∷ drop n book) f)
      ∙ ap (λ (l : List ℕ). l ++ drop (at + 2) book) (sym (word_back (get_or book at 0) (get_or book (at + 1) 0) (bytes at) (bytes (at + 1))))

  entry-drop : (two : Bool) (at least : ℕ) → at + entry_size two ≤ length book
      → drop at book ≡ entry_bytes two (entry_at two book at least).key (entry_at two book at least).offset (entry_at two book at least).size ++ drop (at + entry_size two) book
  entry-drop true at least h =
      let e : at + 2 + 2 + 2 ≡ at + 6 = omega arith in
      word-drop at (omega arith)
      ∙ ap (λ (l : List ℕ). word_bytes (word_at book at) ++ l)
      (word-drop (at + 2) (omega arith)
      ∙ ap (λ (l : List ℕ). word_bytes (word_at book (at + 2)) ++ l)
      (word-drop (at + 2 + 2) (omega arith) ∙ ap (λ (n : ℕ). word_bytes (word_at book (at + 2 + 2)) ++ drop n book) e))
  entry-drop false at least h =
      let z : at + 0 ≡ at = omega arith in
      let e : at + 0 + 2 + 2 ≡ at + 4 = omega arith in
      ap (λ (n : ℕ). drop n book) (sym z) ∙ word-drop (at + 0) (omega arith)
      ∙ ap (λ (l : List ℕ). word_bytes (word_at book (at + 0)) ++ l)
      (word-drop (at + 0 + 2) (omega arith) ∙ ap (λ (n : ℕ). word_bytes (word_at book (at + 0 + 2)) ++ drop n book) e)

  entries-drop : (two : Bool) (at start least : ℕ) (bs : List Body) → Entered two book at start least bs → at + entry_size two * length bs ≤ length book
      → drop at book ≡ entries_laid two (screens_of book bs) start ++ drop (at + entry_size two * length bs) book
  unfolding entries_laid
  entries-drop two at start least [] k h = ap (λ (n : ℕ). drop n book) (sym (none two at))
    where
      none : (two : Bool) (at : ℕ) → at + entry_size two * 0 ≡ at
      none true at = omega arith
      none false at = omega arith
  entries-drop two at start least (b ∷ bs) k h =
      let x : Entry = entry_at two book at least in
      let m : at + entry_size two + entry_size two * length bs ≡ at + entry_size two * suc (length bs) = more two at (length bs) in
      let key : x.key ≡ b.key = ap (λ (c : Body). c.key) (sym k.1) in
      let end : b.end ≡ start + x.size = ap (λ (c : Body). c.end) k.1 in
      let first : b.start ≡ start = ap (λ (c : Body). c.start) k.1 in
      let l : length (bytes_between book b.start b.end) ≡ x.size = long b.start b.end x.size (end ∙ ap (λ (n : ℕ). n + x.size) (sym first)) (omega (arith, k.0.inside)) in
      let size : x.size ≡ length (bytes_between book b.start b.end) = sym l in
      let next : b.end ≡ start + length (bytes_between book b.start b.end) = end ∙ ap (λ (n : ℕ). start + n) size in
      entry-drop two at least (omega arith)
      ∙ (λ i. entry_bytes two (key i) (k.0.begins i) (size i) ++ (entries-drop two (at + entry_size two) b.end (b.key + 1) bs k.2 (omega arith)
      ∙ (λ j. entries_laid two (screens_of book bs) (next j) ++ drop (m j) book)) i)
      ∙ sym (append_assoc (entry_bytes two b.key start (length (bytes_between book b.start b.end))) (entries_laid two (screens_of book bs) (start + length (bytes_between book b.start b.end))) (drop (at + entry_size two * suc (length bs)) book))
    where
      more : (two : Bool) (at n : ℕ) → at + entry_size two + entry_size two * n ≡ at + entry_size two * suc n
      more true at n = omega arith
      more false at n = omega arith

      long : (s e z : ℕ) → e ≡ s + z → e ≤ length book → length (bytes_between book s e) ≡ z
      long s e z h l = between-length book s e (omega arith) l ∙ (let q : e - s ≡ z = omega arith in q)

  -- the bodies fill the rest of the book
  bodies-drop : (two : Bool) (at start least : ℕ) (bs : List Body) → Entered two book at start least bs → start ≤ length book → (length bs ≡ 0 → start ≡ length book)
      → drop start book ≡ bodies_laid (screens_of book bs)
  unfolding bodies_laid
  bodies-drop two at start least [] k h z = drop_of_length-le book {i = start} (omega (arith, z refl))
  bodies-drop two at start least (b ∷ bs) k h z =
      let x : Entry = entry_at two book at least in
      let first : b.start ≡ start = ap (λ (c : Body). c.start) k.1 in
      let end : b.end ≡ start + x.size = ap (λ (c : Body). c.end) k.1 in
      let e : b.start + (b.end - b.start) ≡ b.end = omega arith in
      ap (λ (n : ℕ). drop n book) (sym first)
      ∙ sym (take-append-drop (b.end - b.start) (drop b.start book))
      ∙ ap (λ (l : List ℕ). bytes_between book b.start b.end ++ l) (drop-drop (b.end - b.start) b.start book ∙ ap (λ (n : ℕ). drop n book) e
      ∙ bodies-drop two (at + entry_size two) b.end (b.key + 1) bs k.2 (omega (arith, k.0.inside)) (λ q. end ∙ k.0.last q))

  head-drop : (two : Bool) (n : ℕ) → two ≡ is_two book → n ≡ get_or book (count_at two) 0 → entries_at two ≤ length book → book ≡ head_bytes two n ++ drop (entries_at two) book
  head-drop true n t c h =
      let z : get_or book 0 0 ≡ 0 = eqb-true (get_or book 0 0) 0 (sym t) in
      drop-cons book 0 0 (omega arith) ∙ ap (λ (l : List ℕ). get_or book 0 0 ∷ l) (drop-cons book 1 0 (omega arith)) ∙ (λ i. z i ∷ sym c i ∷ drop 2 book)
  head-drop false n t c h = drop-cons book 0 0 (omega arith) ∙ (λ i. sym c i ∷ drop 1 book)

  -- a sound book of bytes is laid out of its own screens
  pub sound-laid : {bs : List Body} → contents_of book ≡ sound bs → book ≡ laid_out (is_two book) (screens_of book bs)
  unfolding laid_out
  sound-laid {bs} h =
      let b = sound-book book h in
      let two : Bool = is_two book in
      let n = screens-count book bs in
      head-drop two (length bs) refl b.count (omega (arith, b.opens.contents))
      ∙ ap (λ (l : List ℕ). head_bytes two (length bs) ++ l)
      (entries-drop two (entries_at two) (first_body two (length bs)) 0 bs b.entries b.opens.contents
      ∙ ap (λ (l : List ℕ). entries_laid two (screens_of book bs) (first_body two (length bs)) ++ l)
      (bodies-drop two (entries_at two) (first_body two (length bs)) 0 bs b.entries b.opens.contents (λ q. absurd (omega (arith, b.opens.some)))))
      ∙ (λ i. head_bytes two (sym n i) ++ (entries_laid two (screens_of book bs) (first_body two (sym n i)) ++ bodies_laid (screens_of book bs)))

-- keys that a form can have
abbrev pub KeyFits : Bool → ℕ → ℕ → Type 0
KeyFits true least key = (least ≤ key) × (key < 65536)
KeyFits false least key = key ≡ least

abbrev pub Keyed : Bool → ℕ → List Kept → Type 0
Keyed two least [] = Unit {0}
Keyed two least (k ∷ ks) = KeyFits two least k.key × Keyed two (k.key + 1) ks

-- the screens of a sound book have them
pub sound-keyed : (book : List ℕ) → BookBytes book → {bs : List Body} → contents_of book ≡ sound bs → Keyed (is_two book) 0 (screens_of book bs)
sound-keyed book bytes {bs} h = go (is_two book) (entries_at (is_two book)) (first_body (is_two book) (length bs)) 0 bs (sound-book book h).entries
  where
    fits : (two : Bool) (at start least : ℕ) (b : Body) (left : ℕ) → Right (entry_at two book at least) (length book) start least left
        → b ≡ body_of (entry_at two book at least) start → KeyFits two least b.key
    fits true at start least b left r e =
        let k : b.key ≡ word_at book at = ap (λ (c : Body). c.key) e in
        let s = r.rising in
        (omega arith, omega (arith, bytes at, bytes (at + 1)))
    fits false at start least b left r e = ap (λ (c : Body). c.key) e

    go : (two : Bool) (at start least : ℕ) (bs : List Body) → Entered two book at start least bs → Keyed two least (screens_of book bs)
    go two at start least [] k = tt
    go two at start least (b ∷ bs) k = (fits two at start least b (length bs) k.0 k.1, go two (at + entry_size two) b.end (b.key + 1) bs k.2)

-- numbers rise
pub numbered-rising : (least : ℕ) (ks : List Kept) → Keyed false least ks → least + length ks ≤ 65536 → Keyed true least ks
numbered-rising least [] k h = tt
numbered-rising least (x ∷ ks) k h =
    let e = k.0 in
    ((omega arith, omega arith), numbered-rising (x.key + 1) ks k.1 (omega arith))

pub numbered-keyed : (book : List ℕ) (i : ℕ) (bs : List Body) → numbered_from i bs ≡ true → Keyed false i (screens_of book bs)
numbered-keyed book i [] h = tt
numbered-keyed book i (b ∷ bs) h =
    let e : b.key ≡ i = eqb-true b.key i (both_left (eqb b.key i) (numbered_from (i + 1) bs) h) in
    (e, subst (λ (n : ℕ). Keyed false (n + 1) (screens_of book bs)) (sym e) (numbered-keyed book (i + 1) bs (both_right (eqb b.key i) (numbered_from (i + 1) bs) h)))

-- screens laid out from a byte on
abbrev pub bodies_from : List Kept → ℕ → List Body
bodies_from [] start = []
bodies_from (k ∷ ks) start = record { key = k.key; start = start; end = start + length k.body } ∷ bodies_from ks (start + length k.body)

bodies-count : (ks : List Kept) (start : ℕ) → length (bodies_from ks start) ≡ length ks
bodies-count [] start = refl
bodies-count (k ∷ ks) start = ap suc (bodies-count ks (start + length k.body))

pub keyed-numbered : (i : ℕ) (ks : List Kept) (start : ℕ) → Keyed false i ks → numbered_from i (bodies_from ks start) ≡ true
keyed-numbered i [] start k = refl
keyed-numbered i (x ∷ ks) start k =
    let r = keyed-numbered (x.key + 1) ks (start + length x.body) k.1 in
    λ j. eq-eqb x.key i k.0 j && (ap (λ (n : ℕ). numbered_from (n + 1) (bodies_from ks (start + length x.body))) (sym k.0) ∙ r) j

-- reading an entry that was laid out
word-at : (book : List ℕ) (at v : ℕ) (rest : List ℕ) → drop at book ≡ word_bytes v ++ rest → word_at book at ≡ v
word-at book at v rest h =
    let a : get_or book at 0 ≡ v % 256 = ap (λ (n : ℕ). get_or book n 0) (sym (add-zero at)) ∙ sym (get_or-drop at book 0 0) ∙ ap (λ (l : List ℕ). get_or l 0 0) h in
    let b : get_or book (at + 1) 0 ≡ v / 256 = sym (get_or-drop at book 1 0) ∙ ap (λ (l : List ℕ). get_or l 1 0) h in
    (λ i. word_of (a i) (b i)) ∙ word-there v

word-behind : (book : List ℕ) (at v : ℕ) (rest : List ℕ) → drop at book ≡ word_bytes v ++ rest → drop (at + 2) book ≡ rest
word-behind book at v rest h = sym (drop-drop 2 at book) ∙ ap (drop 2) h

module _ (book : List ℕ) where
  entry_read : (two : Bool) (at least key start size : ℕ) (rest : List ℕ) → KeyFits two least key → drop at book ≡ entry_bytes two key start size ++ rest
      → entry_at two book at least ≡ record { key = key; offset = start; size = size }
  entry_read true at least key start size rest f h =
      let b : drop (at + 2) book ≡ word_bytes start ++ (word_bytes size ++ rest) = word-behind book at key _ h in
      let c : drop (at + 2 + 2) book ≡ word_bytes size ++ rest = word-behind book (at + 2) start _ b in
      λ i. record { key = word-at book at key _ h i; offset = word-at book (at + 2) start _ b i; size = word-at book (at + 2 + 2) size _ c i }
  entry_read false at least key start size rest f h =
      let z : at + 0 ≡ at = omega arith in
      let a : drop (at + 0) book ≡ word_bytes start ++ (word_bytes size ++ rest) = ap (λ (n : ℕ). drop n book) z ∙ h in
      let b : drop (at + 0 + 2) book ≡ word_bytes size ++ rest = word-behind book (at + 0) start _ a in
      λ i. record { key = sym f i; offset = word-at book (at + 0) start _ a i; size = word-at book (at + 0 + 2) size _ b i }

  entry-behind : (two : Bool) (at key start size : ℕ) (rest : List ℕ) → drop at book ≡ entry_bytes two key start size ++ rest → drop (at + entry_size two) book ≡ rest
  entry-behind true at key start size rest h = sym (drop-drop 6 at book) ∙ ap (drop 6) h
  entry-behind false at key start size rest h = sym (drop-drop 4 at book) ∙ ap (drop 4) h

  -- the entries that were laid out say that the bodies follow
  laid-entered : (two : Bool) (at start least : ℕ) (ks : List Kept) (rest : List ℕ) → Keyed two least ks → drop at book ≡ entries_laid two ks start ++ rest
      → start + length (bodies_laid ks) ≡ length book → Entered two book at start least (bodies_from ks start)
  unfolding entries_laid bodies_laid
  laid-entered two at start least [] rest k h m = tt
  laid-entered two at start least (x ∷ ks) rest k h m =
      let size : ℕ = length x.body in
      let g : drop at book ≡ entry_bytes two x.key start size ++ (entries_laid two ks (start + size) ++ rest) = h ∙ append_assoc (entry_bytes two x.key start size) (entries_laid two ks (start + size)) rest in
      let e = entry_read two at least x.key start size (entries_laid two ks (start + size) ++ rest) k.0 g in
      let n : start + size + length (bodies_laid ks) ≡ length book = sym (ap (λ (l : ℕ). start + l) (length-append x.body (bodies_laid ks)) ∙ sym (add_assoc start size (length (bodies_laid ks)))) ∙ m in (
        subst (λ (y : Entry). Right y (length book) start least (length (bodies_from ks (start + size)))) (sym e)
            (record {
              rising = rises two least x.key k.0;
              begins = refl;
              inside = omega arith;
              last = λ q. none ks (start + size) q n;
            }),
        ap (λ (y : Entry). body_of y start) (sym e),
        laid-entered two (at + entry_size two) (start + size) (x.key + 1) ks rest k.1 (entry-behind two at x.key start size (entries_laid two ks (start + size) ++ rest) g) n,
      )
    where
      rises : (two : Bool) (least key : ℕ) → KeyFits two least key → least ≤ key
      rises true least key f = f.0
      rises false least key f = omega arith

      none : (ks : List Kept) (s : ℕ) → length (bodies_from ks s) ≡ 0 → s + length (bodies_laid ks) ≡ length book → s ≡ length book
      none [] s q n = omega arith
      none (y ∷ ks) s q n = absurd (omega arith)

  -- and each body is found where its entry says
  laid_kept : (start : ℕ) (ks : List Kept) → drop start book ≡ bodies_laid ks → screens_of book (bodies_from ks start) ≡ ks
  unfolding bodies_laid
  laid_kept start [] h = refl
  laid_kept start (x ∷ ks) h =
      let size : ℕ = length x.body in
      let z : start + size - start ≡ size = omega arith in
      let b : bytes_between book start (start + size) ≡ x.body = (λ i. take (z i) (h i)) ∙ take-append_seam x.body (bodies_laid ks) in
      let n : drop (start + size) book ≡ bodies_laid ks = sym (drop-drop size start book) ∙ ap (drop size) h ∙ drop-append_seam x.body (bodies_laid ks) in
      λ i. record { key = x.key; body = b i } ∷ laid_kept (start + size) ks n i

-- screens that make a book of either form
pub record Screens (two : Bool) (ks : List Kept) : Type 0 where
  pub some : 1 ≤ length ks
  pub few : length ks ≤ 64
  pub keyed : Keyed two 0 ks
  pub short : length (laid_out two ks) ≤ 32768

module _ (two : Bool) (ks : List Kept) (k : Screens two ks) where
  pub laid-form : is_two (laid_out two ks) ≡ two
  unfolding laid_out
  laid-form = go two
    where
      go : (two : Bool) → is_two (head_bytes two (length ks) ++ (entries_laid two ks (first_body two (length ks)) ++ bodies_laid ks)) ≡ two
      go true = refl
      go false = ne_eqb (length ks) 0 (λ z. omega (arith, k.some))

  laid-head : (two : Bool) → drop (entries_at two) (laid_out two ks) ≡ entries_laid two ks (first_body two (length ks)) ++ bodies_laid ks
  unfolding laid_out
  laid-head true = refl
  laid-head false = refl

  laid-count : (two : Bool) → get_or (laid_out two ks) (count_at two) 0 ≡ length ks
  unfolding laid_out
  laid-count true = refl
  laid-count false = refl

  pub laid-bodies : drop (first_body two (length ks)) (laid_out two ks) ≡ bodies_laid ks
  laid-bodies =
      sym (drop-drop (entry_size two * length ks) (entries_at two) (laid_out two ks)) ∙ ap (drop (entry_size two * length ks)) (laid-head two)
      ∙ drop_at (entries_laid two ks (first_body two (length ks))) (bodies_laid ks) (entry_size two * length ks) (entries-length two ks (first_body two (length ks)))

  -- what is laid out of screens has them for contents
  pub laid-contents : contents_of (laid_out two ks) ≡ sound (bodies_from ks (first_body two (length ks)))
  laid-contents =
      let book : List ℕ = laid_out two ks in
      let n = bodies-count ks (first_body two (length ks)) in
      let l = laid-length two ks in
      let f : Opened two (length ks) (length book) = record { some = k.some; few = k.few; contents = omega arith; short = k.short } in
      let e : Entered two book (entries_at two) (first_body two (length ks)) 0 (bodies_from ks (first_body two (length ks))) =
      laid-entered book two (entries_at two) (first_body two (length ks)) 0 ks (bodies_laid ks) k.keyed (laid-head two) (sym l) in
      book-sound book (bodies_from ks (first_body two (length ks)))
      (subst (λ (t : Bool). SoundIn t book (bodies_from ks (first_body two (length ks)))) (sym laid-form)
      (record {
        opens = subst (λ (m : ℕ). Opened two m (length book)) (sym n) f;
        count = n ∙ sym (laid-count two);
        entries = subst (λ (m : ℕ). Entered two book (entries_at two) (first_body two m) 0 (bodies_from ks (first_body two (length ks)))) (sym n) e;
      }))

  pub laid-screens : screens_of (laid_out two ks) (bodies_from ks (first_body two (length ks))) ≡ ks
  laid-screens = laid_kept (laid_out two ks) (first_body two (length ks)) ks laid-bodies
