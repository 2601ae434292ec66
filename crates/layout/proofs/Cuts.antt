-- A torn book saved: the bodies cut behind their good operations, and each answer.
use mathlib.Core.Path.{◌≡◌, refl, ap, sym, subst, ◌∙◌}
use mathlib.Core.Bool.{Bool, true, false, cond}
use mathlib.Core.List.{List, [], ◌∷◌, ◌++◌}
use Prim.Native.Nat.{ℕ, suc, ◌+◌, ◌-◌, ◌<◌, ◌≤◌}
use native.Mathlib.Nat.{zero-add}
use native.Mathlib.Omega.{arith}
use lib.ListN.{length, set, take, drop, length-set, replicate}
use lib.Dec.{eqb}
use lib.Seq.{sets, sets-eq, take-append_seam}
use borrow.Author.Tests.{eq-eqb, ne_eqb}
use Rattle.std.proofs.lemmas.List.{map-set, take-map}
use Rattle.ground.specs.Lists.{zeros}
use Rattle.ground.proofs.Tests.{settled}
use Rattle.state.specs.declared.panel.Panel.{Panel}
use Rattle.state.specs.State.{valid_panel}
use Rattle.contents.specs.declared.spans.Span.{Span}
use Rattle.contents.specs.Contents.{Body, Contents, sound, wrong, is_two, contents_of, entries_at, entry_size, first_body, entry_at}
use Rattle.contents.specs.Replies.{body, bodies}
use Rattle.contents.specs.Spans.{keys_of}
use Rattle.contents.proofs.Soundness.{Entered, sound-book}
use Rattle.std.specs.Prelude.{Result, Ok, Err}
use Rattle.std.proofs.Math.Bridge.{le_prop}
use Rattle.state.specs.declared.refusal.Refused.{Refused}
use Rattle.state.proofs.RefusalNumbers.{not_zero, same_number}
use Rattle.layout.specs.declared.saved.Saved.{Saved}
use Rattle.layout.specs.declared.saved.Salvaged.{Salvaged as Report}
use Rattle.layout.specs.Laid.{laid_out, screens_of}
use Rattle.layout.specs.Moved.{Moved, MovedBook, moved_all, fitted}
use Rattle.layout.specs.Ready.{sizes_of, laid_size, Within, Spanned}
use Rattle.layout.specs.Replies.{kept, dropped, salvaged}
use Rattle.layout.specs.Saved.{good_end, cut_all, kept_bytes, dropped_bytes, Salvaged, SavedBook, saved_all, not_saved, saved_by, saved_in, salvage_of}
use Rattle.layout.proofs.Good.{good-within}
use Rattle.layout.proofs.Sums.{no_span}

-- bodies that were cut have their keys and starts
module _ (p : Panel) (book : List ℕ) where
  pub cut-count : (bs : List Body) → length (cut_all p book bs) ≡ length bs
  cut-count [] = refl
  cut-count (b ∷ bs) = ap suc (cut-count bs)

  pub cut-keys : (bs : List Body) → keys_of (cut_all p book bs) ≡ keys_of bs
  cut-keys [] = refl
  cut-keys (b ∷ bs) = ap (λ (l : List ℕ). b.key ∷ l) (cut-keys bs)

  -- a good end lies inside its body
  pub entered-good : (two : Bool) (at start least : ℕ) (b : Body) (bs : List Body) → Entered two book at start least (b ∷ bs)
      → (b.start ≡ start) × (b.start ≤ good_end p book b) × (good_end p book b ≤ b.end) × (b.end ≤ length book)
  entered-good two at start least b bs k =
      let first : b.start ≡ start = ap (λ (c : Body). c.start) k.1 in
      let last : b.end ≡ start + (entry_at two book at least).size = ap (λ (c : Body). c.end) k.1 in
      let w = good-within p book b.end (b.end - b.start) b.start (omega arith) in
      (first, w.0, w.1, omega (arith, k.0.inside))

  cut-within : (two : Bool) (at start least : ℕ) (bs : List Body) → Entered two book at start least bs → Within (length book) (cut_all p book bs)
  cut-within two at start least [] k = tt
  cut-within two at start least (b ∷ bs) k =
      let g = entered-good two at start least b bs k in
      (g.1, (omega (arith, g.2, g.3), cut-within two (at + entry_size two) b.end (b.key + 1) bs k.2))

  cut-sizes : (two : Bool) (at start least : ℕ) (bs : List Body) → Entered two book at start least bs → start ≤ length book → start + sizes_of (cut_all p book bs) ≤ length book
  unfolding sizes_of
  cut-sizes two at start least [] e h = omega arith
  cut-sizes two at start least (b ∷ bs) e h =
      let g = entered-good two at start least b bs e in
      let z = cut-sizes two (at + entry_size two) b.end (b.key + 1) bs e.2 g.3 in
      omega (arith, g.0, g.1, g.2)

  module _ {bs : List Body} (h : contents_of book ≡ sound bs) where
    pub cut-spanned : Spanned (cut_all p book bs) (length book)
    cut-spanned =
        let b = sound-book book h in
        record {
          few = rw (cut-count bs) b.opens.few;
          short = b.opens.short;
          within = cut-within (is_two book) (entries_at (is_two book)) (first_body (is_two book) (length bs)) 0 bs b.entries;
        }

    pub cut-size : laid_size (is_two book) (cut_all p book bs) ≤ length book
    cut-size =
        let b = sound-book book h in
        subst (λ (n : ℕ). first_body (is_two book) n + sizes_of (cut_all p book bs) ≤ length book) (sym (cut-count bs))
        (cut-sizes (is_two book) (entries_at (is_two book)) (first_body (is_two book) (length bs)) 0 bs b.entries b.opens.contents)

-- nothing kept of no body
abbrev pub none : Saved
none = record { kept = 0; dropped = 0 }

-- the screens cut, one after the other
pub record Cutting (p : Panel) (book : List ℕ) (bs : List Body) (cut : List Span) (screens : List Saved) (i : ℕ) (left : List Body) : Type 0 where
  pub within : Within (length book) left
  pub last : i + length left ≤ 64
  pub long : length cut ≡ 64
  pub reported : length screens ≡ 64
  pub spans : sets (bodies cut) i (cut_all p book left) ≡ sets (bodies (replicate 64 no_span)) 0 (cut_all p book bs)
  pub kept : sets (kept screens) i (kept_bytes p book left) ≡ sets (zeros 64) 0 (kept_bytes p book bs)
  pub dropped : sets (dropped screens) i (dropped_bytes p book left) ≡ sets (zeros 64) 0 (dropped_bytes p book bs)

module _ (p : Panel) (book : List ℕ) (bs : List Body) where
  pub cutting-starts : Spanned bs (length book) → Cutting p book bs (replicate 64 no_span) (replicate 64 none) 0 bs
  unfolding zeros
  cutting-starts k = record { within = k.within; last = omega (arith, k.few); long = refl; reported = refl; spans = refl; kept = refl; dropped = refl }

  module _ {cut : List Span} {screens : List Saved} {i : ℕ} {b : Body} {left : List Body} (k : Cutting p book bs cut screens i (b ∷ left)) where
    pub cutting-room : {good : ℕ} → good ≡ good_end p book b → (i < 64) × ((b.start ≤ good) × (good ≤ b.end))
    cutting-room e =
        let w = good-within p book b.end (b.end - b.start) b.start k.within.0 in
        (omega (arith, k.last), (rw e w.0, rw e w.1))

    pub cutting-on : {good : ℕ} → good ≡ good_end p book b → {s : Span} {r : Saved} → body s ≡ record { key = b.key; start = b.start; end = good }
        → r.kept ≡ good - b.start → r.dropped ≡ b.end - good → Cutting p book bs (set cut i s) (set screens i r) (i + 1) left
    cutting-on {good} e {s} {r} f g h =
        let j : i + 1 ≡ suc i = omega arith in
        record {
          within = k.within.1.1;
          last = omega (arith, k.last);
          long = simp length-set k.long;
          reported = simp length-set k.reported;
          spans = (λ t. sets ((map-set body cut i s ∙ ap (set (bodies cut) i) (f ∙ ap (λ (n : ℕ). record { key = b.key; start = b.start; end = n }) e)) t) (j t) (cut_all p book left)) ∙ k.spans;
          kept = (λ t. sets ((map-set (λ (x : Saved). x.kept) screens i r ∙ ap (set (kept screens) i) (g ∙ ap (λ (n : ℕ). n - b.start) e)) t) (j t) (kept_bytes p book left)) ∙ k.kept;
          dropped = (λ t. sets ((map-set (λ (x : Saved). x.dropped) screens i r ∙ ap (set (dropped screens) i) (h ∙ ap (λ (n : ℕ). b.end - n) e)) t) (j t) (dropped_bytes p book left)) ∙ k.dropped;
        }

  module _ {cut : List Span} {screens : List Saved} {i : ℕ} (k : Cutting p book bs cut screens i []) where
    pub cut-kept-bytes : kept screens ≡ sets (zeros 64) 0 (kept_bytes p book bs)
    cut-kept-bytes = k.kept

    pub cut-dropped-bytes : dropped screens ≡ sets (zeros 64) 0 (dropped_bytes p book bs)
    cut-dropped-bytes = k.dropped

    pub cut-bodies : (n : ℕ) → n ≡ length bs → n ≤ 64 → bodies (take n cut) ≡ cut_all p book bs
    cut-bodies n e f =
        let m : n ≡ length (cut_all p book bs) = e ∙ sym (cut-count p book bs) in
        sym (take-map body n cut) ∙ ap (take n) (k.spans ∙ sets-eq (cut_all p book bs) (bodies (replicate 64 no_span)) 0 (omega (arith, m, f)))
        ∙ ap (λ (q : ℕ). take n (cut_all p book bs ++ drop q (bodies (replicate 64 no_span)))) (zero-add (length (cut_all p book bs)))
        ∙ ap (λ (l : ℕ). take l (cut_all p book bs ++ drop (length (cut_all p book bs)) (bodies (replicate 64 no_span)))) m
        ∙ take-append_seam (cut_all p book bs) (drop (length (cut_all p book bs)) (bodies (replicate 64 no_span)))

-- each answer
module _ (p : Panel) (book out : List ℕ) where
  pub save-panel : valid_panel p ≡ false → not_saved 1 0 out ≡ salvage_of p book out
  unfolding salvage_of
  save-panel v = ap (λ (t : Bool). cond t (saved_in p book (contents_of book) out) (not_saved 1 0 out)) (sym v)

  module _ (v : valid_panel p ≡ true) where
    save-as : {x : Contents} → contents_of book ≡ x → saved_in p book x out ≡ salvage_of p book out
    unfolding salvage_of
    save-as h = λ t. cond (sym v t) (saved_in p book (sym h t) out) (not_saved 1 0 out)

    pub save-wrong : {place : ℕ} → contents_of book ≡ wrong place → not_saved 9 place out ≡ salvage_of p book out
    save-wrong h = save-as h

    module _ {bs : List Body} (h : contents_of book ≡ sound bs) {m : Moved} {after : List ℕ} (f : moved_all m after ≡ fitted (laid_out (is_two book) (screens_of book (cut_all p book bs))) out) where
      saved-as : {w : Bool} → w ≡ eqb m.number 0
          → cond w (saved_all (record { number = 0; place = 0; size = m.size; count = length bs; kept = sets (zeros 64) 0 (kept_bytes p book bs); dropped = sets (zeros 64) 0 (dropped_bytes p book bs) }) after) (not_saved m.number m.place after)
          ≡ salvage_of p book out
      saved-as w =
          ap (λ (t : Bool). cond t (saved_all (record { number = 0; place = 0; size = m.size; count = length bs; kept = sets (zeros 64) 0 (kept_bytes p book bs); dropped = sets (zeros 64) 0 (dropped_bytes p book bs) }) after) (not_saved m.number m.place after)) w
          ∙ ap (λ (x : MovedBook). saved_by x (length bs) (kept_bytes p book bs) (dropped_bytes p book bs)) f ∙ save-as h

      pub save-short : (m.number ≡ 0 → ⊥) → not_saved m.number m.place after ≡ salvage_of p book out
      save-short q = saved-as (sym (ne_eqb m.number 0 q))

      pub save-done : m.number ≡ 0 → {n : ℕ} → n ≡ length bs → {ks ds : List ℕ} → ks ≡ sets (zeros 64) 0 (kept_bytes p book bs) → ds ≡ sets (zeros 64) 0 (dropped_bytes p book bs)
          → saved_all (record { number = 0; place = 0; size = m.size; count = n; kept = ks; dropped = ds }) after ≡ salvage_of p book out
      save-done q {n} e {ks} {ds} x y =
          (λ d. saved_all (record { number = 0; place = 0; size = m.size; count = e d; kept = x d; dropped = y d }) after) ∙ saved-as (sym (eq-eqb m.number 0 q))

-- two replies that meet the promise of `salvage` are equal, and so are the outputs
pub salvage-result-settled : {x y : Result Report Refused} {a b : List ℕ} (p : Panel) (book out : List ℕ)
    → saved_all (salvaged x) a ≡ salvage_of p book out → saved_all (salvaged y) b ≡ salvage_of p book out → (x ≡ y) × (a ≡ b)
salvage-result-settled {x} {y} p book out h k = let e = settled h k in (go x y (ap (λ (z : SavedBook). z.reply) e), ap (λ (z : SavedBook). z.out) e)
  where
    same : (ss ts : List Saved) → kept ss ≡ kept ts → dropped ss ≡ dropped ts → ss ≡ ts
    same [] [] a b = refl
    same [] (t ∷ ts) a b = let z : ◌≡◌ {A = ℕ} 0 (suc (length (kept ts))) = ap length a in absurd (let w : ⊥ = omega arith in w)
    same (s ∷ ss) [] a b = let z : ◌≡◌ {A = ℕ} (suc (length (kept ss))) 0 = ap length a in absurd (let w : ⊥ = omega arith in w)
    same (s ∷ ss) (t ∷ ts) a b =
        let i : s.kept ≡ t.kept = cc in
        let j : s.dropped ≡ t.dropped = cc in
        let r = same ss ts (cc) (cc) in
        λ q. record { kept = i q; dropped = j q } ∷ r q

    counted : (size : ℕ) (ss : List Saved) (n m : ℕ) → n ≡ m → (f : n ≤ 64) (g : m ≤ 64)
        → ◌≡◌ {A = Report} (record { size = size; count = n; screens = ss; few = f }) (record { size = size; count = m; screens = ss; few = g })
    counted size ss n m e f g =
        subst (λ (l : ℕ). (g : l ≤ 64) → ◌≡◌ {A = Report} (record { size = size; count = n; screens = ss; few = f }) (record { size = size; count = l; screens = ss; few = g })) e
        (λ g q. record { size = size; count = n; screens = ss; few = le_prop f g q }) g

    go : (x y : Result Report Refused) → salvaged x ≡ salvaged y → x ≡ y
    go (Ok s) (Ok t) h =
        let l = same s.screens t.screens (ap (λ (r : Salvaged). r.kept) h) (ap (λ (r : Salvaged). r.dropped) h) in
        ap Ok ((λ q. record { size = (h q).size; count = s.count; screens = l q; few = s.few }) ∙ counted t.size t.screens s.count t.count (ap (λ (r : Salvaged). r.count) h) s.few t.few)
    go (Ok s) (Err e) h = absurd (not_zero e.refusal (ap (λ (r : Salvaged). r.number) (sym h)))
    go (Err d) (Ok t) h = absurd (not_zero d.refusal (ap (λ (r : Salvaged). r.number) h))
    go (Err d) (Err e) h =
        let n = same_number d.refusal e.refusal (ap (λ (r : Salvaged). r.number) h) in
        λ q. Err (record { refusal = n q; place = (h q).place })

-- the same of replies
pub salvage-settled : {x y : SavedBook} (p : Panel) (book out : List ℕ) → x ≡ salvage_of p book out → y ≡ salvage_of p book out → x ≡ y
salvage-settled p book out h k = settled h k
