-- The screens of a book taken one after the other: their bytes added up, their entries and bodies put, their keys compared.
use mathlib.Core.Path.{◌≡◌, ap, sym, ◌∙◌}
use mathlib.Core.Bool.{Bool, true, false}
use mathlib.Core.List.{List, [], ◌∷◌}
use Prim.Native.Nat.{ℕ, suc, ◌+◌, ◌-◌, ◌*◌, ◌<◌, ◌≤◌}
use native.Mathlib.Nat.{add_assoc, add-zero}
use native.Mathlib.Omega.{arith}
use lib.ListN.{length, get_or, drop, drop_of_length-le}
use lib.Seq.{drop-cons}
use Rattle.std.proofs.lemmas.List.{length-map}
use Rattle.contents.specs.declared.spans.Span.{Span}
use Rattle.contents.specs.Contents.{Body, entry_size, first_body}
use Rattle.contents.specs.Replies.{body, bodies}
use Rattle.layout.specs.Laid.{entry_bytes, bodies_laid, bytes_between, screens_of}
use Rattle.layout.specs.Ready.{sizes_of, entries_for, laid_size, Within, Spanned}
use Rattle.layout.specs.declared.put.Output.{Output}
use Rattle.layout.specs.Puts.{Puts, EntriesFit, BodiesFit}
use Rattle.layout.proofs.Puts.{Putting, putting, put_on, put-over, entry_length, between-length}

-- the screens from one on: that one, and those behind it; none behind the last
abbrev pub no_span : Span
no_span = record { key = 0; start = 0; end = 0 }

pub span-here : (ss : List Span) (i : ℕ) → i < length ss → bodies (drop i ss) ≡ body (get_or ss i no_span) ∷ bodies (drop (i + 1) ss)
span-here ss i l =
    let e : suc i ≡ i + 1 = omega arith in
    ap bodies (drop-cons ss i no_span l ∙ ap (λ (n : ℕ). get_or ss i no_span ∷ drop n ss) e)

pub no_span-left : (ss : List Span) (i : ℕ) → length ss ≤ i → bodies (drop i ss) ≡ []
no_span-left ss i l = ap bodies (drop_of_length-le ss l)

pub spans-count : (ss : List Span) → length ss ≡ length (bodies ss)
spans-count ss = sym (length-map ss body)

-- inside a book of so many bytes, inside one of the most
pub spanned-wide : {bs : List Body} {most : ℕ} → Spanned bs most → Spanned bs 32768
spanned-wide {bs} {most} k = record { few = k.few; short = omega arith; within = go bs k.within }
  where
    go : (cs : List Body) → Within most cs → Within 32768 cs
    go [] w = tt
    go (c ∷ cs) w = (w.0, (omega (arith, w.1.0, k.short), go cs w.1.1))

first-few : (two : Bool) (n : ℕ) → n ≤ 64 → first_body two n ≤ 386
first-few true n h = omega arith
first-few false n h = omega arith

sizes-few : (bs : List Body) → Within 32768 bs → sizes_of bs ≤ 32768 * length bs
unfolding sizes_of
sizes-few [] w = omega arith
sizes-few (b ∷ bs) w = let h = sizes-few bs w.1.1 in omega (arith, w.1.0)

-- the bytes added up
pub record Summing (two : Bool) (bs : List Body) (size : ℕ) (left : List Body) : Type 0 where
  pub few : laid_size two bs ≤ 2097538
  pub within : Within 32768 left
  pub sum : size + sizes_of left ≡ laid_size two bs

pub summing-starts : (two : Bool) (bs : List Body) {size : ℕ} → Spanned bs 32768 → size ≡ first_body two (length bs) → Summing two bs size bs
summing-starts two bs k e =
    record {
      few = let h = sizes-few bs k.within in let f = first-few two (length bs) k.few in omega (arith, k.few);
      within = k.within;
      sum = ap (λ (n : ℕ). n + sizes_of bs) e;
    }

module _ {two : Bool} {bs : List Body} {size : ℕ} where
  pub summing-room : {b : Body} {left : List Body} → Summing two bs size (b ∷ left) → (b.start ≤ b.end) × (size + (b.end - b.start) ≤ 2097538)
  unfolding sizes_of
  summing-room k = (k.within.0, omega (arith, k.sum, k.few))

  pub summing_on : {b : Body} {left : List Body} → Summing two bs size (b ∷ left) → Summing two bs (size + (b.end - b.start)) left
  unfolding sizes_of
  summing_on {b} {left} k = record { few = k.few; within = k.within.1.1; sum = add_assoc size (b.end - b.start) (sizes_of left) ∙ k.sum }

  pub summing-ends : Summing two bs size [] → size ≡ laid_size two bs
  unfolding sizes_of
  summing-ends k = sym (add-zero size) ∙ k.sum

one : (two : Bool) (at n : ℕ) → at + entry_size two * suc n ≡ at + entry_size two + entry_size two * n
one true at n = omega arith
one false at n = omega arith

-- the entries put
pub record EntriesPut (two : Bool) (bs : List Body) (a b : Output) (start : ℕ) (left : List Body) : Type 0 where
  pub place : b.at + entry_size two * length left ≤ length b.out.now
  pub within : Within 32768 left
  pub sum : start + sizes_of left ≤ 32768
  pub putting : Putting a (entries_for two bs (first_body two (length bs))) b (entries_for two left start)

module _ {two : Bool} {bs : List Body} {a : Output} where
  pub entries-starts : EntriesFit two bs a → {start : ℕ} → start ≡ first_body two (length bs) → EntriesPut two bs a a start bs
  entries-starts k {start} e =
      record {
        place = k.lent;
        within = k.within;
        sum = let g : start + sizes_of bs ≡ laid_size two bs = ap (λ (n : ℕ). n + sizes_of bs) e in omega (arith, g, k.fits);
        putting = rw e (putting a (entries_for two bs (first_body two (length bs))));
      }

  module _ {b : Output} {start : ℕ} {c : Body} {left : List Body} (p : EntriesPut two bs a b start (c ∷ left)) where
    pub entries-room : (c.start ≤ c.end) × ((b.at + entry_size two ≤ length b.out.now) × ((start ≤ 32768) × (start + (c.end - c.start) ≤ 32768)))
    unfolding sizes_of
    entries-room = let g = one two b.at (length left) in (p.within.0, (omega (arith, g, p.place), (omega (arith, p.sum), omega (arith, p.sum))))

    pub entries_next : {d : Output} → Puts b (entry_bytes two c.key start (c.end - c.start)) d → EntriesPut two bs a d (start + (c.end - c.start)) left
    unfolding sizes_of entries_for
    entries_next {d} h =
        record {
          place = let g = one two b.at (length left) in let e : d.at ≡ b.at + entry_size two = h.ends ∙ ap (λ (n : ℕ). b.at + n) (entry_length two c.key start (c.end - c.start)) in
              rw e (omega (arith, g, p.place, h.kept));
          within = p.within.1.1;
          sum = omega (arith, p.sum);
          putting = put_on p.putting h;
        }

  pub entries-ends : {b : Output} {start : ℕ} → EntriesPut two bs a b start [] → Puts a (entries_for two bs (first_body two (length bs))) b
  unfolding entries_for
  entries-ends p = put-over p.putting

-- the bodies put
pub record BodiesPut (bs : List Body) (book : List ℕ) (a b : Output) (left : List Body) : Type 0 where
  pub within : Within (length book) left
  pub room : b.at + sizes_of left ≤ length b.out.now
  pub putting : Putting a (bodies_laid (screens_of book bs)) b (bodies_laid (screens_of book left))

module _ {bs : List Body} {book : List ℕ} {a : Output} where
  pub bodies-starts : BodiesFit bs (length book) a → BodiesPut bs book a a bs
  bodies-starts k = record { within = k.within; room = k.lent; putting = putting a (bodies_laid (screens_of book bs)) }

  module _ {b : Output} {c : Body} {left : List Body} (p : BodiesPut bs book a b (c ∷ left)) where
    pub bodies-room : (c.start ≤ c.end) × (c.end ≤ length book) × (b.at + (c.end - c.start) ≤ length b.out.now)
    unfolding sizes_of
    bodies-room = (p.within.0, p.within.1.0, omega (arith, p.room))

    pub bodies-next : {d : Output} → Puts b (bytes_between book c.start c.end) d → BodiesPut bs book a d left
    unfolding sizes_of bodies_laid
    bodies-next {d} h =
        record {
          within = p.within.1.1;
          room = omega (arith, p.room, h.ends, h.kept, between-length book c.start c.end p.within.0 p.within.1.0);
          putting = put_on p.putting h;
        }

  pub bodies-ends : {b : Output} → BodiesPut bs book a b [] → Puts a (bodies_laid (screens_of book bs)) b
  unfolding bodies_laid
  bodies-ends p = put-over p.putting
