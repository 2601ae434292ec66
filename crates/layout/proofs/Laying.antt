-- A book laid out by its screens: its parts put one after the other, its size, and that its screens are those of its contents.
use mathlib.Core.Path.{◌≡◌, refl, ap, sym, ◌∙◌}
use mathlib.Core.Bool.{Bool, true, false, cond}
use mathlib.Core.List.{List, [], ◌∷◌, ◌++◌}
use Prim.Native.Nat.{ℕ, suc, ◌+◌, ◌-◌, ◌*◌, ◌<◌, ◌≤◌}
use native.Mathlib.Nat.{add_assoc, zero-add}
use native.Mathlib.Omega.{arith}
use lib.ListN.{length, drop, length-append}
use lib.Seq.{sets, sets-eq}
use borrow.Author.Tests.{le-leb, lt-leb}
use Rattle.contents.specs.Contents.{Body, sound, is_two, contents_of, entries_at, entry_size, first_body, entry_at}
use Rattle.contents.proofs.Soundness.{Entered, sound-book}
use Rattle.layout.specs.Laid.{Kept, entry_bytes, head_bytes, entries_laid, bodies_laid, laid_out, bytes_between, screens_of}
use Rattle.layout.specs.Moved.{moved_all, not_moved, fitted}
use Rattle.layout.specs.Ready.{BytesPut, sizes_of, entries_for, laid_size, Within, Spanned}
use Rattle.layout.specs.declared.put.Output.{Output}
use Rattle.layout.specs.Puts.{Puts, EntriesFit, BodiesFit}
use Rattle.layout.proofs.Sums.{spanned-wide}
use Rattle.layout.proofs.Puts.{put_both, head-length, entry_length, between-length}

-- the bytes of entries, and of bodies
pub entries-length : (two : Bool) (ks : List Kept) (start : ℕ) → length (entries_laid two ks start) ≡ entry_size two * length ks
unfolding entries_laid
entries-length two [] start = none two
  where
    none : (two : Bool) → 0 ≡ entry_size two * 0
    none true = refl
    none false = refl
entries-length two (k ∷ ks) start =
    let e = entry_length two k.key start (length k.body) in
    let f = entries-length two ks (start + length k.body) in
    length-append (entry_bytes two k.key start (length k.body)) (entries_laid two ks (start + length k.body)) ∙ more two (length ks) e f
  where
    more : (two : Bool) (n : ℕ) {a b : ℕ} → a ≡ entry_size two → b ≡ entry_size two * n → a + b ≡ entry_size two * suc n
    more true n e f = omega arith
    more false n e f = omega arith

pub laid-length : (two : Bool) (ks : List Kept) → length (laid_out two ks) ≡ first_body two (length ks) + length (bodies_laid ks)
unfolding laid_out
laid-length two ks =
    simp (length-append, head-length two (length ks), entries-length two ks (first_body two (length ks)))
    (sym (add_assoc (entries_at two) (entry_size two * length ks) (length (bodies_laid ks))))

pub screens-count : (book : List ℕ) (bs : List Body) → length (screens_of book bs) ≡ length bs
screens-count book [] = refl
screens-count book (b ∷ bs) = ap suc (screens-count book bs)

module _ (book : List ℕ) where
  pub bodies-length : (bs : List Body) → Within (length book) bs → length (bodies_laid (screens_of book bs)) ≡ sizes_of bs
  unfolding bodies_laid sizes_of
  bodies-length [] k = refl
  bodies-length (b ∷ bs) k =
      let e = between-length book b.start b.end k.0 k.1.0 in
      let f = bodies-length bs k.1.1 in
      simp length-append (omega arith)

  entries-as : (two : Bool) (bs : List Body) (start : ℕ) → Within (length book) bs → entries_for two bs start ≡ entries_laid two (screens_of book bs) start
  unfolding entries_for entries_laid
  entries-as two [] start k = refl
  entries-as two (b ∷ bs) start k =
      let e : b.end - b.start ≡ length (bytes_between book b.start b.end) = sym (between-length book b.start b.end k.0 k.1.0) in
      ap (λ (t : List ℕ). entry_bytes two b.key start (b.end - b.start) ++ t) (entries-as two bs (start + (b.end - b.start)) k.1.1)
      ∙ ap (λ (n : ℕ). entry_bytes two b.key start n ++ entries_laid two (screens_of book bs) (start + n)) e

  module _ (bs : List Body) (k : Within (length book) bs) where
    pub laid-size : (two : Bool) → length (laid_out two (screens_of book bs)) ≡ laid_size two bs
    laid-size two =
        let e = screens-count book bs in
        let f = bodies-length bs k in
        laid-length two (screens_of book bs) ∙ (λ i. first_body two (e i) + f i)

    module _ (two : Bool) {a b : Output} {n : ℕ} (q : n ≡ length bs) (x : Puts a (head_bytes two n) b) (z : a.at ≡ 0) (l : laid_size two bs ≤ length a.out.now) where
      behind : b.at ≡ entries_at two
      behind = x.ends ∙ (λ i. z i + head-length two n i) ∙ zero-add (entries_at two)

      pub entries-fit : Spanned bs (length book) → laid_size two bs ≤ 32768 → EntriesFit two bs b
      entries-fit s f =
          record {
            within = (spanned-wide s).within;
            few = s.few;
            fits = f;
            lent = omega (arith, behind, l, x.kept, at_least two (length bs));
          }
        where
          at_least : (two : Bool) (n : ℕ) → entries_at two + entry_size two * n ≡ first_body two n
          at_least true n = refl
          at_least false n = refl

      module _ {c : Output} (y : Puts b (entries_for two bs (first_body two (length bs))) c) where
        entries-is : entries_for two bs (first_body two (length bs)) ≡ entries_laid two (screens_of book bs) (first_body two (length (screens_of book bs)))
        entries-is =
            entries-as two bs (first_body two (length bs)) k
            ∙ ap (λ (m : ℕ). entries_laid two (screens_of book bs) (first_body two m)) (sym (screens-count book bs))

        before : c.at ≡ first_body two (length bs)
        before =
            y.ends
            ∙ (λ i. behind i + (ap length entries-is ∙ entries-length two (screens_of book bs) _ ∙ ap (λ (m : ℕ). entry_size two * m) (screens-count book bs)) i)

        pub bodies-fit : BodiesFit bs (length book) c
        bodies-fit = record { within = k; lent = omega (arith, before, l, x.kept, y.kept) }

        -- head, entries and bodies, one after the other
        pub laid-put : {d : Output} → Puts c (bodies_laid (screens_of book bs)) d → {after : List ℕ} → after ≡ d.out.now
            → BytesPut a.out.now 0 (laid_out two (screens_of book bs)) after
        unfolding laid_out
        laid-put {d} w {after} e =
            let g = put_both x (put_both y w) in
            record {
              holds = e ∙ g.holds
                  ∙ (λ i. sets a.out.now (z i) (head_bytes two ((q ∙ sym (screens-count book bs)) i) ++ (entries-is i ++ bodies_laid (screens_of book bs))));
            }

-- the reply: laid out, or 12
module _ (laid : List ℕ) {a : List ℕ} {size : ℕ} (e : size ≡ length laid) where
  pub fit-done : size ≤ length a → {b : List ℕ} → BytesPut a 0 laid b → moved_all (record { number = 0; place = 0; size = size }) b ≡ fitted laid a
  fit-done h p =
      let g : length laid ≤ length a = omega arith in
      (λ i. moved_all (record { number = 0; place = 0; size = e i }) ((p.holds ∙ put_front laid a g) i))
      ∙ ap (λ (t : Bool). cond t (moved_all (record { number = 0; place = 0; size = length laid }) (laid ++ drop (length laid) a)) (not_moved 12 (length laid) a)) (sym (le-leb (length laid) (length a) g))
    where
      put_front : (laid a : List ℕ) → length laid ≤ length a → sets a 0 laid ≡ laid ++ drop (length laid) a
      put_front laid a g =
          let z : 0 + length laid ≡ length laid = omega arith in
          sets-eq laid a 0 (omega arith) ∙ ap (λ (n : ℕ). laid ++ drop n a) z

  pub fit-short : length a < size → not_moved 12 size a ≡ fitted laid a
  fit-short h =
      ap (λ (n : ℕ). not_moved 12 n a) e
      ∙ ap (λ (t : Bool). cond t (moved_all (record { number = 0; place = 0; size = length laid }) (laid ++ drop (length laid) a)) (not_moved 12 (length laid) a))
      (sym (lt-leb (length laid) (length a) (omega arith)))

-- the bodies of a sound book lie inside it, and are no longer than what follows its entries
module _ (two : Bool) (book : List ℕ) where
  entered-within : (at start least : ℕ) (bs : List Body) → Entered two book at start least bs → Within (length book) bs
  entered-within at start least [] e = tt
  entered-within at start least (b ∷ bs) e =
      let u : b.start ≡ start = ap (λ (c : Body). c.start) e.1 in
      let v : b.end ≡ start + (entry_at two book at least).size = ap (λ (c : Body). c.end) e.1 in
      (omega arith, (omega (arith, e.0.inside), entered-within (at + entry_size two) b.end (b.key + 1) bs e.2))

  sizes-inside : (at start least : ℕ) (bs : List Body) → Entered two book at start least bs → start ≤ length book → start + sizes_of bs ≤ length book
  unfolding sizes_of
  sizes-inside at start least [] e h = omega arith
  sizes-inside at start least (b ∷ bs) e h =
      let u : b.start ≡ start = ap (λ (c : Body). c.start) e.1 in
      let v : b.end ≡ start + (entry_at two book at least).size = ap (λ (c : Body). c.end) e.1 in
      let z = sizes-inside (at + entry_size two) b.end (b.key + 1) bs e.2 (omega (arith, e.0.inside)) in
      omega arith

pub sound-spanned : (book : List ℕ) {bs : List Body} → contents_of book ≡ sound bs → Spanned bs (length book)
sound-spanned book {bs} h =
    let b = sound-book book h in
    record { few = b.opens.few; short = b.opens.short; within = entered-within (is_two book) book (entries_at (is_two book)) (first_body (is_two book) (length bs)) 0 bs b.entries }

pub sound-size : (book : List ℕ) {bs : List Body} → contents_of book ≡ sound bs → laid_size (is_two book) bs ≤ length book
sound-size book {bs} h =
    let b = sound-book book h in
    sizes-inside (is_two book) book (entries_at (is_two book)) (first_body (is_two book) (length bs)) 0 bs b.entries b.opens.contents
