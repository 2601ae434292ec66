-- A saved book is well formed, has the good operations in their order, and a sound one comes back.
use mathlib.Core.Path.{◌≡◌, refl, ap, sym, subst, ◌∙◌}
use mathlib.Core.Bool.{Bool, true, false, cond}
use mathlib.Core.List.{List, [], ◌∷◌, ◌++◌}
use Prim.Native.Nat.{ℕ, zero, suc, ◌+◌, ◌-◌, ◌<◌, ◌≤◌}
use native.Mathlib.Omega.{arith}
use lib.Dec.{leb}
use lib.ListN.{length, get_or, drop, length-append}
use lib.Seq.{sets, take-append_seam, drop-drop, drop-append_seam}
use Rattle.ground.specs.Lists.{zeros}
use Rattle.state.specs.declared.panel.Panel.{Panel}
use Rattle.state.specs.State.{valid_panel}
use Rattle.contents.specs.Contents.{Body, Contents, sound, wrong, is_two, contents_of, entries_at, entry_size, first_body}
use Rattle.contents.specs.Spans.{keys_of, starts_of, ends_of}
use Rattle.contents.proofs.Soundness.{Entered, sound-book}
use Rattle.layout.specs.Laid.{Kept, laid_out, bodies_laid, bytes_between, screens_of}
use Rattle.layout.specs.Moved.{MovedBook, moved_all, not_moved, fitted}
use Rattle.layout.specs.Saved.{good_end, cut_all, kept_bytes, dropped_bytes, SavedBook, not_saved, saved_by, saved_in, salvage_of}
use Rattle.layout.specs.Salvages.{saved_bytes, ReadsAs, Salvages, AllRead, ComesBack}
use Rattle.layout.specs.Trips.{BookBytes}
use Rattle.layout.proofs.Bodies.{body_alike}
use Rattle.layout.proofs.Cuts.{cut-count, cut-spanned, cut-size, entered-good}
use Rattle.layout.proofs.Good.{good-move, sound-good}
use Rattle.layout.proofs.Laying.{screens-count, laid-length, laid-size}
use Rattle.layout.proofs.Layouts.{sound-laid, sound-keyed, Keyed, bodies_from, Screens, laid-form, laid-bodies, laid-contents}
use Rattle.layout.proofs.Puts.{between-length}

-- a book that was saved: from a sound one, and what was laid out
record Made (p : Panel) (book out : List ℕ) : Type 0 where
  bodies : List Body
  contents : contents_of book ≡ sound bodies
  bytes : saved_bytes (salvage_of p book out) ≡ laid_out (is_two book) (screens_of book (cut_all p book bodies))
  kept : (salvage_of p book out).reply.kept ≡ sets (zeros 64) 0 (kept_bytes p book bodies)
  dropped : (salvage_of p book out).reply.dropped ≡ sets (zeros 64) 0 (dropped_bytes p book bodies)

made : (p : Panel) (book out : List ℕ) → (salvage_of p book out).reply.number ≡ 0 → Made p book out
unfolding salvage_of
made p book out = go (valid_panel p) refl (contents_of book) refl
  where
    go : (v : Bool) → valid_panel p ≡ v → (x : Contents) → contents_of book ≡ x → (cond v (saved_in p book x out) (not_saved 1 0 out)).reply.number ≡ 0 → Made p book out
    go false v x h z = absurd (omega arith)
    go true v (wrong place) h z = absurd (omega arith)
    go true v (sound bs) h z = fits (leb (length laid) (length out)) refl z
      where
        laid : List ℕ
        laid = laid_out (is_two book) (screens_of book (cut_all p book bs))

        fit : Bool → MovedBook
        fit w = cond w (moved_all (record { number = 0; place = 0; size = length laid }) (laid ++ drop (length laid) out)) (not_moved 12 (length laid) out)

        by : Bool → SavedBook
        by w = saved_by (fit w) (length bs) (kept_bytes p book bs) (dropped_bytes p book bs)

        is : (w : Bool) → leb (length laid) (length out) ≡ w → salvage_of p book out ≡ by w
        is w e = (λ i. cond (v i) (saved_in p book (h i) out) (not_saved 1 0 out)) ∙ ap by e

        fits : (w : Bool) → leb (length laid) (length out) ≡ w → (by w).reply.number ≡ 0 → Made p book out
        fits false e z = absurd (omega arith)
        fits true e z =
            record {
              bodies = bs;
              contents = h;
              bytes = ap saved_bytes (is true e) ∙ take-append_seam laid (drop (length laid) out);
              kept = ap (λ (x : SavedBook). x.reply.kept) (is true e);
              dropped = ap (λ (x : SavedBook). x.reply.dropped) (is true e);
            }

-- the keys are the same
keyed-cut : (two : Bool) (p : Panel) (book : List ℕ) (least : ℕ) (bs : List Body) → Keyed two least (screens_of book bs) → Keyed two least (screens_of book (cut_all p book bs))
keyed-cut two p book least [] k = tt
keyed-cut two p book least (b ∷ bs) k = (k.0, keyed-cut two p book (b.key + 1) bs k.1)

keys-cut : (p : Panel) (book : List ℕ) (start : ℕ) (bs : List Body) → keys_of (bodies_from (screens_of book (cut_all p book bs)) start) ≡ keys_of bs
keys-cut p book start [] = refl
keys-cut p book start (b ∷ bs) = ap (λ (l : List ℕ). b.key ∷ l) (keys-cut p book (start + length (bytes_between book b.start (good_end p book b))) bs)

cut-screens : (p : Panel) (book : List ℕ) → BookBytes book → {bs : List Body} → contents_of book ≡ sound bs → Screens (is_two book) (screens_of book (cut_all p book bs))
cut-screens p book bytes {bs} h =
    let b = sound-book book h in
    let n = screens-count book (cut_all p book bs) in
    let m = cut-count p book bs in
    let e = laid-size book (cut_all p book bs) (cut-spanned p book h).within (is_two book) in
    let g = cut-size p book h in
    record {
      some = omega (arith, b.opens.some);
      few = omega (arith, b.opens.few);
      keyed = keyed-cut (is_two book) p book 0 bs (sound-keyed book bytes h);
      short = omega (arith, b.opens.short);
    }

-- each body of what was laid out reads as the good operations
reads-cut : (p : Panel) (a b : List ℕ) (two : Bool) (at from least start : ℕ) (bs : List Body) → Entered two a at from least bs
    → drop start b ≡ bodies_laid (screens_of a (cut_all p a bs)) → start + length (bodies_laid (screens_of a (cut_all p a bs))) ≤ length b → (is_two b ≡ true → is_two a ≡ true)
    → ReadsAs p b (bodies_from (screens_of a (cut_all p a bs)) start) a bs
unfolding bodies_laid
reads-cut p a b two at from least start [] e d w rule = tt
reads-cut p a b two at from least start (c ∷ bs) e d w rule =
    let g = entered-good p a two at from least c bs e in
    let good : ℕ = good_end p a c in
    let body : List ℕ = bytes_between a c.start good in
    let rest : List ℕ = bodies_laid (screens_of a (cut_all p a bs)) in
    let n : length body ≡ good - c.start = between-length a c.start good g.1 (omega (arith, g.2, g.3)) in
    let end : ℕ = start + length body in
    let l : length body + length rest ≡ length (body ++ rest) = sym (length-append body rest) in (
      good-move p a b (c.end - c.start) c.start start c.end end (omega (arith, g.1, g.2)) (body_alike a b c.start good start rest g.1 (omega (arith, g.2, g.3)) d)
          (ap (λ (m : ℕ). start + m) (sym n)) (omega arith) rule,
      reads-cut p a b two (at + entry_size two) c.end (c.key + 1) end bs e.2 (sym (drop-drop (length body) start b) ∙ ap (drop (length body)) d ∙ drop-append_seam body rest) (omega arith) rule,
    )

-- kept and dropped make the body
sums-cut : (p : Panel) (book : List ℕ) (two : Bool) (at from least : ℕ) (bs : List Body) → Entered two book at from least bs → (i : ℕ) → i < length bs
    → get_or (kept_bytes p book bs) i 0 + get_or (dropped_bytes p book bs) i 0 ≡ get_or (ends_of bs) i 0 - get_or (starts_of bs) i 0
sums-cut p book two at from least [] e i l = absurd (omega arith)
sums-cut p book two at from least (b ∷ bs) e zero l =
    let g = entered-good p book two at from least b bs e in
    omega (arith, g.1, g.2)
sums-cut p book two at from least (b ∷ bs) e (suc i) l = sums-cut p book two (at + entry_size two) b.end (b.key + 1) bs e.2 i (omega arith)

pub salvages : Salvages
salvages p book out bytes z =
    let m = made p book out z in
    let bs : List Body = m.bodies in
    let two : Bool = is_two book in
    let ks : List Kept = screens_of book (cut_all p book bs) in
    let k = cut-screens p book bytes m.contents in
    let b = sound-book book m.contents in
    let r : List ℕ = laid_out two ks in
    let cs : List Body = bodies_from ks (first_body two (length ks)) in
    let rule : is_two r ≡ true → is_two book ≡ true = λ q. sym (laid-form two ks k) ∙ q in
    record {
      bodies = bs;
      saved = cs;
      contents = m.contents;
      again = ap contents_of m.bytes ∙ laid-contents two ks k;
      form = ap is_two m.bytes ∙ laid-form two ks k;
      keys = keys-cut p book (first_body two (length ks)) bs;
      reads = subst (λ (x : List ℕ). ReadsAs p x cs book bs) (sym m.bytes)
          (reads-cut p book r two (entries_at two) (first_body two (length bs)) 0 (first_body two (length ks)) bs b.entries (laid-bodies two ks k) (omega (arith, laid-length two ks)) rule);
      kept = m.kept;
      dropped = m.dropped;
      sums = sums-cut p book two (entries_at two) (first_body two (length bs)) 0 bs b.entries;
    }

-- bodies that are all well formed are not cut
uncut : (p : Panel) (book : List ℕ) (two : Bool) (at from least : ℕ) (bs : List Body) → Entered two book at from least bs → AllRead p book bs → cut_all p book bs ≡ bs
uncut p book two at from least [] e r = refl
uncut p book two at from least (b ∷ bs) e r =
    let g = entered-good p book two at from least b bs e in
    let q : good_end p book b ≡ b.end = sound-good p book b.end (b.end - b.start) b.start (omega arith) (omega (arith, g.1, g.2)) r.0.is in
    λ i. record { key = b.key; start = b.start; end = q i } ∷ uncut p book two (at + entry_size two) b.end (b.key + 1) bs e.2 r.1 i

pub comes_back : ComesBack
unfolding salvage_of
comes_back p book out bs bytes v h r =
    let b = sound-book book h in
    let u = uncut p book (is_two book) (entries_at (is_two book)) (first_body (is_two book) (length bs)) 0 bs b.entries r in
    let l : laid_out (is_two book) (screens_of book (cut_all p book bs)) ≡ book = ap (λ (cs : List Body). laid_out (is_two book) (screens_of book cs)) u ∙ sym (sound-laid book bytes h) in
    (λ i. cond (v i) (saved_in p book (h i) out) (not_saved 1 0 out))
    ∙ ap (λ (x : List ℕ). saved_by (fitted x out) (length bs) (kept_bytes p book bs) (dropped_bytes p book bs)) l
