-- A book's entries taken one after the other: what that keeps.
use mathlib.Core.Path.{◌≡◌, refl, ap, sym, subst, ◌∙◌}
use mathlib.Core.Bool.{Bool, true, false, cond, ◌&&◌}
use mathlib.Core.List.{List, [], ◌∷◌, ◌++◌, append_assoc}
use Prim.Native.Nat.{ℕ, zero, suc, ◌+◌, ◌-◌, ◌*◌, ◌<◌, ◌≤◌}
use native.Mathlib.Omega.{arith}
use lib.Dec.{leb, eqb}
use lib.ListN.{length, get_or, take, drop, length-replicate}
use lib.Seq.{sets, sets-eq, take-append_seam}
use Rattle.std.proofs.Common.{map}
use Rattle.ground.specs.Lists.{zeros}
use Rattle.ground.proofs.Tests.{settled}
use Rattle.contents.specs.declared.entry.Entry.{Entry}
use Rattle.std.proofs.lemmas.List.{map-append, append-nil, length-map, drop-map}
use Rattle.contents.specs.declared.spans.Span.{Span}
use Rattle.std.specs.Prelude.{Result, Ok, Err}
use Rattle.std.proofs.Math.Bridge.{le_prop}
use Rattle.state.specs.declared.refusal.Refused.{Refused}
use Rattle.state.proofs.RefusalNumbers.{not_zero, same_number}
use Rattle.contents.specs.declared.spans.Spans.{Spans as Screens}
use Rattle.contents.specs.Replies.{opened as read_opened, Spans, body, bodies}
use Rattle.contents.specs.Contents.{Body, Contents, sound, wrong, with_body, is_two, count_at, entries_at, entry_size, first_body, entry_at, wrong_entry, body_of, entries_from, opens, contents_in, contents_of}
use Rattle.contents.specs.Spans.{keys_of, starts_of, ends_of, spans_of}
use Rattle.contents.proofs.Entries.{right, Opened, opened, entry-room, next-entry, first_entry, key-numbered}

-- what stands in front of others
abbrev pub with_bodies : List Body → Contents → Contents
with_bodies bs (sound cs) = sound (bs ++ cs)
with_bodies bs (wrong place) = wrong place

none : (x : Contents) → with_bodies [] x ≡ x
none (sound bs) = refl
none (wrong place) = refl

more : (bs : List Body) (b : Body) (x : Contents) → with_bodies bs (with_body b x) ≡ with_bodies (bs ++ b ∷ []) x
more bs b (sound cs) = ap sound (sym (append_assoc bs (b ∷ []) cs))
more bs b (wrong place) = refl

-- the entries from one on, behind the screens that were read, taken as the whole
pub record Opening (two : Bool) (book : List ℕ) (n : ℕ) (done : List Span) (at start least i : ℕ) : Type 0 where
  pub few : n ≤ 64
  pub contents : first_body two n ≤ length book
  pub short : length book ≤ 32768
  pub place : at ≡ entries_at two + entry_size two * i
  pub inside : start ≤ length book
  pub numbered : two ≡ false → least ≡ i
  pub same : with_bodies (bodies done) (entries_from two book (n - i) at start least) ≡ entries_from two book n (entries_at two) (first_body two n) 0

module _ (two : Bool) (book : List ℕ) (n : ℕ) where
  abbrev whole : Contents
  whole = entries_from two book n (entries_at two) (first_body two n) 0

  pub opening-starts : first_body two n ≤ length book → length book ≤ 32768 → n ≤ 64 → {at start : ℕ}
      → at ≡ entries_at two → start ≡ first_body two n → Opening two book n [] at start 0 0
  opening-starts h s f {at} {start} a b =
      let z : n - 0 ≡ n = omega arith in
      record {
        few = f;
        contents = h;
        short = s;
        place = a ∙ first_entry two;
        inside = omega arith;
        numbered = λ e. refl;
        same = none (entries_from two book (n - 0) at start 0) ∙ (λ j. entries_from two book (z j) (a j) (b j) 0);
      }

  module _ {done : List Span} {at start least i : ℕ} (k : Opening two book n done at start least i) (on : i < n) where
    pub opening-room : (at + entry_size two ≤ length book) × (two ≡ false → least ≤ 64)
    opening-room =
        let q = k.numbered in (
          entry-room two n i at (length book) k.place on k.contents,
          λ e.
              let z : least ≡ i = q e in
              omega (arith, k.few),
        )

    module _ {e : Entry} (read : e ≡ entry_at two book at least) where
      -- the next entry told apart from those behind it
      told : {w : Bool} (v : Bool) → w ≡ wrong_entry e (length book) start least (n - i - 1) → w ≡ v
          → with_bodies (bodies done) (cond v (wrong at) (with_body (body_of e start) (entries_from two book (n - i - 1) (at + entry_size two) (start + e.size) (e.key + 1)))) ≡ whole
      unfolding entries_from
      told v i' v' =
          let l : suc (n - i - 1) ≡ n - i = omega arith in
          ap (λ (t : Bool). with_bodies (bodies done) (cond t (wrong at) (with_body (body_of e start) (entries_from two book (n - i - 1) (at + entry_size two) (start + e.size) (e.key + 1)))))
          (sym v' ∙ i')
          ∙ ap (λ (x : Entry). with_bodies (bodies done) (cond (wrong_entry x (length book) start least (n - i - 1)) (wrong at) (with_body (body_of x start) (entries_from two book (n - i - 1) (at + entry_size two) (start + x.size) (x.key + 1)))))
          read
          ∙ ap (λ (m : ℕ). with_bodies (bodies done) (entries_from two book m at start least)) l ∙ k.same

      pub opening-wrong : {w : Bool} → w ≡ wrong_entry e (length book) start least (n - i - 1) → w ≡ true → wrong at ≡ whole
      opening-wrong i' v = told true i' v

      pub opening_on : {w : Bool} {step : ℕ} {more_done : List Span} → w ≡ wrong_entry e (length book) start least (n - i - 1) → w ≡ false → step ≡ entry_size two
          → more_done ≡ done ++ record { key = e.key; start = start; end = start + e.size } ∷ []
          → Opening two book n more_done (at + step) (start + e.size) (e.key + 1) (i + 1)
      opening_on {w} {step} i' v s d =
          let m : n - i - 1 ≡ n - (i + 1) = omega arith in
          record {
            few = k.few;
            contents = k.contents;
            short = k.short;
            place = ap (λ (x : ℕ). at + x) s ∙ next-entry two i at k.place;
            inside = (right e (length book) start least (n - i - 1) (sym i' ∙ v)).inside;
            numbered = λ o. ap (λ (x : ℕ). x + 1) (ap (λ (x : Entry). x.key) read ∙ key-numbered two book at least o ∙ k.numbered o);
            same =
                (λ j. with_bodies ((ap bodies d ∙ map-append body done (record { key = e.key; start = start; end = start + e.size } ∷ [])) j) (entries_from two book (sym m j) (at + s j) (start + e.size) (e.key + 1)))
                ∙ sym (more (bodies done) (body_of e start) (entries_from two book (n - i - 1) (at + entry_size two) (start + e.size) (e.key + 1)))
                ∙ told false i' v;
          }

  pub opening-ends : {done : List Span} {at start least i : ℕ} → Opening two book n done at start least i → n ≤ i → sound (bodies done) ≡ whole
  unfolding entries_from
  opening-ends {done} {at} {start} {least} {i} k h =
      let z : zero ≡ n - i = omega arith in
      ap sound (sym (append-nil (bodies done)))
      ∙ ap (λ (m : ℕ). with_bodies (bodies done) (entries_from two book m at start least)) z ∙ k.same

-- the tables of the screens that were read, each at the front of 64 zeros
keys-are : (ss : List Span) → map (λ (x : Span). x.key) ss ≡ keys_of (bodies ss)
keys-are [] = refl
keys-are (s ∷ ss) = ap (λ (l : List ℕ). s.key ∷ l) (keys-are ss)

starts-are : (ss : List Span) → map (λ (x : Span). x.start) ss ≡ starts_of (bodies ss)
starts-are [] = refl
starts-are (s ∷ ss) = ap (λ (l : List ℕ). s.start ∷ l) (starts-are ss)

ends-are : (ss : List Span) → map (λ (x : Span). x.end) ss ≡ ends_of (bodies ss)
ends-are [] = refl
ends-are (s ∷ ss) = ap (λ (l : List ℕ). s.end ∷ l) (ends-are ss)

pub take-front : (ss blank : List Span) {n : ℕ} → length ss ≡ n → take n (ss ++ drop n blank) ≡ ss
take-front ss blank {n} l = ap (λ (m : ℕ). take m (ss ++ drop n blank)) (sym l) ∙ take-append_seam ss (drop n blank)

module _ (ss blank : List Span) {n : ℕ} (l : length ss ≡ n) (few : n ≤ 64) where
  in-front : (f : Span → ℕ) → map f blank ≡ zeros 64 → map f (ss ++ drop n blank) ≡ sets (zeros 64) 0 (map f ss)
  unfolding zeros
  in-front f z =
      let m : n ≡ 0 + length (map f ss) = rw length-map (omega (arith, l)) in
      map-append f ss (drop n blank)
      ∙ ap (λ (t : List ℕ). map f ss ++ t) (sym (drop-map f n blank) ∙ (λ j. drop (m j) (z j)))
      ∙ sym (sets-eq (map f ss) (zeros 64) 0 (rw (length-map, length-replicate) (omega (arith, l, few))))

  pub tables-are : (two : Bool) {x : Contents} → map (λ (y : Span). y.key) blank ≡ zeros 64 → map (λ (y : Span). y.start) blank ≡ zeros 64 → map (λ (y : Span). y.end) blank ≡ zeros 64
      → sound (bodies ss) ≡ x
      → record {
        number = 0;
        place = 0;
        two = two;
        count = n;
        keys = map (λ (y : Span). y.key) (ss ++ drop n blank);
        starts = map (λ (y : Span). y.start) (ss ++ drop n blank);
        ends = map (λ (y : Span). y.end) (ss ++ drop n blank);
      } ≡ spans_of two x
  tables-are two a b c e =
      let m : n ≡ 0 + length (bodies ss) = rw length-map (omega (arith, l)) in
      (λ j. record {
        number = 0;
        place = 0;
        two = two;
        count = m j;
        keys = (in-front (λ (y : Span). y.key) a ∙ ap (sets (zeros 64) 0) (keys-are ss)) j;
        starts = (in-front (λ (y : Span). y.start) b ∙ ap (sets (zeros 64) 0) (starts-are ss)) j;
        ends = (in-front (λ (y : Span). y.end) c ∙ ap (sets (zeros 64) 0) (ends-are ss)) j;
      }) ∙ ap (spans_of two) e

-- a book that opens, and one that does not, by its first byte, n and the byte of its first body
module _ (book : List ℕ) {first at n from : ℕ} (a : first ≡ get_or book 0 0) (b : at ≡ count_at (eqb first 0)) (c : n ≡ get_or book at 0)
    (d : from ≡ first_body (eqb first 0) n) where
  abbrev tested : Bool
  tested = leb 1 (length book) && leb (length book) 32768 && leb 1 n && leb n 64 && leb from (length book)

  abbrev tests : ℕ → Bool
  tests f = leb 1 (length book) && leb (length book) 32768 && leb 1 n && leb n 64 && leb f (length book)

  open-tested : {v : Bool} → tested ≡ v → opens (eqb first 0) n (length book) ≡ v
  open-tested e = ap tests (sym d) ∙ e

  pub open-known : tested ≡ true → Opened (eqb first 0) n (length book)
  open-known e = opened (eqb first 0) n (length book) (open-tested e)

  opening-as : (v : Bool) → tested ≡ v
      → cond v (entries_from (eqb first 0) book n (entries_at (eqb first 0)) (first_body (eqb first 0) n) 0) (wrong 0) ≡ contents_of book
  unfolding contents_of
  opening-as v e =
      let two : Bool = eqb first 0 in
      ap (λ (t : Bool). cond t (entries_from two book n (entries_at two) (first_body two n) 0) (wrong 0)) (sym (open-tested e))
      ∙ ap (λ (m : ℕ). contents_in two book m) (c ∙ ap (λ (i : ℕ). get_or book i 0) b)
      ∙ ap (λ (f : ℕ). contents_in (eqb f 0) book (get_or book (count_at (eqb f 0)) 0)) a

  pub open-form : eqb first 0 ≡ is_two book
  open-form = ap (λ (f : ℕ). eqb f 0) a

  pub open-sound : tested ≡ true → entries_from (eqb first 0) book n (entries_at (eqb first 0)) (first_body (eqb first 0) n) 0 ≡ contents_of book
  open-sound e = opening-as true e

  pub open-shut : tested ≡ false → wrong 0 ≡ contents_of book
  open-shut e = opening-as false e

-- two replies that meet the promise of `open` are equal
pub open-result-settled : {x y : Result Screens Refused} (book : List ℕ) → read_opened x ≡ spans_of (is_two book) (contents_of book) → read_opened y ≡ spans_of (is_two book) (contents_of book) → x ≡ y
open-result-settled {x} {y} book h k = go x y (settled h k)
  where
    same : (ss ts : List Span) → map (λ (s : Span). s.key) ss ≡ map (λ (s : Span). s.key) ts → map (λ (s : Span). s.start) ss ≡ map (λ (s : Span). s.start) ts
        → map (λ (s : Span). s.end) ss ≡ map (λ (s : Span). s.end) ts → ss ≡ ts
    same [] [] a b c = refl
    same [] (t ∷ ts) a b c = let z : ◌≡◌ {A = ℕ} 0 (suc (length (map (λ (s : Span). s.key) ts))) = ap length a in absurd (let w : ⊥ = omega arith in w)
    same (s ∷ ss) [] a b c = let z : ◌≡◌ {A = ℕ} (suc (length (map (λ (s : Span). s.key) ss))) 0 = ap length a in absurd (let w : ⊥ = omega arith in w)
    same (s ∷ ss) (t ∷ ts) a b c =
        let i : s.key ≡ t.key = cc in
        let j : s.start ≡ t.start = cc in
        let k : s.end ≡ t.end = cc in
        let r = same ss ts (cc) (cc) (cc) in
        λ q. record { key = i q; start = j q; end = k q } ∷ r q

    counted : (two : Bool) (ss : List Span) (n m : ℕ) → n ≡ m → (f : n ≤ 64) (g : m ≤ 64)
        → ◌≡◌ {A = Screens} (record { two = two; count = n; spans = ss; few = f }) (record { two = two; count = m; spans = ss; few = g })
    counted two ss n m e f g =
        subst (λ (l : ℕ). (g : l ≤ 64) → ◌≡◌ {A = Screens} (record { two = two; count = n; spans = ss; few = f }) (record { two = two; count = l; spans = ss; few = g })) e
        (λ g q. record { two = two; count = n; spans = ss; few = le_prop f g q }) g

    go : (x y : Result Screens Refused) → read_opened x ≡ read_opened y → x ≡ y
    go (Ok s) (Ok t) h =
        let l = same s.spans t.spans (ap (λ (r : Spans). r.keys) h) (ap (λ (r : Spans). r.starts) h) (ap (λ (r : Spans). r.ends) h) in
        ap Ok ((λ q. record { two = (h q).two; count = s.count; spans = l q; few = s.few }) ∙ counted t.two t.spans s.count t.count (ap (λ (r : Spans). r.count) h) s.few t.few)
    go (Ok s) (Err e) h = absurd (not_zero e.refusal (ap (λ (r : Spans). r.number) (sym h)))
    go (Err d) (Ok t) h = absurd (not_zero d.refusal (ap (λ (r : Spans). r.number) h))
    go (Err d) (Err e) h =
        let n = same_number d.refusal e.refusal (ap (λ (r : Spans). r.number) h) in
        λ q. Err (record { refusal = n q; place = (h q).place })

-- the same of replies
pub open-settled : {x y : Spans} (book : List ℕ) → x ≡ spans_of (is_two book) (contents_of book) → y ≡ spans_of (is_two book) (contents_of book) → x ≡ y
open-settled book h k = settled h k
