-- Up then down, and down then up, give the same bytes.
use mathlib.Core.Path.{◌≡◌, refl, ap, sym, subst, ◌∙◌}
use mathlib.Core.Bool.{Bool, true, false, cond}
use mathlib.Core.List.{List, ◌++◌}
use Prim.Native.Nat.{ℕ, ◌+◌, ◌≤◌}
use native.Mathlib.Omega.{arith}
use lib.Dec.{leb}
use lib.ListN.{length, drop}
use lib.Seq.{take-append_seam}
use borrow.Author.Tests.{le-leb, leb-true}
use Rattle.state.specs.declared.panel.Panel.{Panel}
use Rattle.state.specs.State.{valid_panel}
use Rattle.contents.specs.Contents.{Body, Contents, sound, wrong, is_two, contents_of, entries_at, first_body}
use Rattle.contents.proofs.Soundness.{sound-book}
use Rattle.layout.specs.BodiesRead.{BodiesRead}
use Rattle.layout.specs.BodiesRead.{Plain, And, Faulty}
use Rattle.layout.specs.Uses.{bodies_read}
use Rattle.layout.specs.Laid.{Kept, laid_out, screens_of}
use Rattle.layout.specs.Moved.{moved_all, not_moved, fitted, fitted_up, up_read, up_in, up_of, numbered_from, down_in, down_of}
use Rattle.layout.specs.Trips.{moved_bytes, BookBytes, UpDown, DownUp}
use Rattle.layout.proofs.Laying.{screens-count, laid-length}
use Rattle.layout.proofs.Bodies.{bodies-move}
use Rattle.layout.proofs.Layouts.{sound-laid, sound-keyed, Keyed, numbered-rising, numbered-keyed, keyed-numbered, bodies_from, Screens, laid-form, laid-bodies, laid-contents, laid-screens}

-- a book that fitted is what was laid out
fitted-bytes : (laid out : List ℕ) → (fitted laid out).reply.number ≡ 0 → moved_bytes (fitted laid out) ≡ laid
fitted-bytes laid out = go (leb (length laid) (length out))
  where
    go : (v : Bool) → (cond v (moved_all (record { number = 0; place = 0; size = length laid }) (laid ++ drop (length laid) out)) (not_moved 12 (length laid) out)).reply.number ≡ 0
        → moved_bytes (cond v (moved_all (record { number = 0; place = 0; size = length laid }) (laid ++ drop (length laid) out)) (not_moved 12 (length laid) out)) ≡ laid
    go true z = take-append_seam laid (drop (length laid) out)
    go false z = absurd (omega arith)

-- a move that was made: from a sound book, and what it laid out
pub record Up (p : Panel) (book out : List ℕ) : Type 0 where
  pub bodies : List Body
  pub form : is_two book ≡ false
  pub contents : contents_of book ≡ sound bodies
  pub short : length (laid_out true (screens_of book bodies)) ≤ 32768
  pub bytes : moved_bytes (up_of p book out) ≡ laid_out true (screens_of book bodies)

pub up-made : (p : Panel) (book out : List ℕ) → (up_of p book out).reply.number ≡ 0 → Up p book out
unfolding up_of
up-made p book out = go (valid_panel p) refl (is_two book) refl (contents_of book) refl
  where
    go : (v : Bool) → valid_panel p ≡ v → (t : Bool) → is_two book ≡ t → (x : Contents) → contents_of book ≡ x
        → (cond v (cond t (not_moved 9 0 out) (up_in p book x out)) (not_moved 1 0 out)).reply.number ≡ 0 → Up p book out
    go false v t f x h z = absurd (omega arith)
    go true v true t x h z = absurd (omega arith)
    go true v false t (wrong place) h z = absurd (omega arith)
    go true v false t (sound bs) h z = read (bodies_read p book 0 bs) refl (leb (length laid) 32768) refl z
      where
        laid : List ℕ
        laid = laid_out true (screens_of book bs)

        read : (y : BodiesRead) → bodies_read p book 0 bs ≡ y → (w : Bool) → leb (length laid) 32768 ≡ w
            → (up_read y (cond w (fitted laid out) (not_moved 18 (length laid) out)) out).reply.number ≡ 0 → Up p book out
        read (And i) q w e z = absurd (omega arith)
        read (Faulty place) q w e z = absurd (omega arith)
        read Plain q false e z = absurd (omega arith)
        read Plain q true e z =
            record {
              bodies = bs;
              form = t;
              contents = h;
              short = leb-true (length laid) 32768 e;
              bytes = (λ i. moved_bytes (cond (v i) (cond (t i) (not_moved 9 0 out) (up_in p book (h i) out)) (not_moved 1 0 out)))
                  ∙ (λ i. moved_bytes (up_read (q i) (cond (e i) (fitted laid out) (not_moved 18 (length laid) out)) out)) ∙ fitted-bytes laid out z;
            }

pub record Down (book out : List ℕ) : Type 0 where
  pub bodies : List Body
  pub form : is_two book ≡ true
  pub contents : contents_of book ≡ sound bodies
  pub numbered : numbered_from 0 bodies ≡ true
  pub bytes : moved_bytes (down_of book out) ≡ laid_out false (screens_of book bodies)

pub down-made : (book out : List ℕ) → (down_of book out).reply.number ≡ 0 → Down book out
unfolding down_of
down-made book out = go (is_two book) refl (contents_of book) refl
  where
    go : (t : Bool) → is_two book ≡ t → (x : Contents) → contents_of book ≡ x → (cond t (down_in book x out) (not_moved 9 0 out)).reply.number ≡ 0 → Down book out
    go false t x h z = absurd (omega arith)
    go true t (wrong place) h z = absurd (omega arith)
    go true t (sound bs) h z = fits (numbered_from 0 bs) refl z
      where
        laid : List ℕ
        laid = laid_out false (screens_of book bs)

        fits : (v : Bool) → numbered_from 0 bs ≡ v → (cond v (fitted laid out) (not_moved 17 0 out)).reply.number ≡ 0 → Down book out
        fits false e z = absurd (omega arith)
        fits true e z =
            record {
              bodies = bs;
              form = t;
              contents = h;
              numbered = e;
              bytes = ap (λ (v : Bool). moved_bytes (cond v (down_in book (contents_of book) out) (not_moved 9 0 out))) t ∙ ap (λ (y : Contents). moved_bytes (down_in book y out)) h
                  ∙ ap (λ (v : Bool). moved_bytes (cond v (fitted laid out) (not_moved 17 0 out))) e ∙ fitted-bytes laid out z;
            }

-- the entries of form one are shorter
less : (n m : ℕ) → first_body false n + m ≤ first_body true n + m
less n m = omega arith

-- the screens of a sound book, laid out in the other form
module _ (book : List ℕ) (bytes : BookBytes book) {bs : List Body} (h : contents_of book ≡ sound bs) where
  own-screens : {two : Bool} → is_two book ≡ two → book ≡ laid_out two (screens_of book bs)
  own-screens t = sound-laid book bytes h ∙ ap (λ (v : Bool). laid_out v (screens_of book bs)) t

  up-screens : is_two book ≡ false → length (laid_out true (screens_of book bs)) ≤ 32768 → Screens true (screens_of book bs)
  up-screens t s =
      let b = sound-book book h in
      let n = screens-count book bs in
      record {
        some = omega (arith, b.opens.some);
        few = omega (arith, b.opens.few);
        keyed = numbered-rising 0 (screens_of book bs) (subst (λ (v : Bool). Keyed v 0 (screens_of book bs)) t (sound-keyed book bytes h)) (omega (arith, b.opens.few));
        short = s;
      }

  down-screens : is_two book ≡ true → numbered_from 0 bs ≡ true → Screens false (screens_of book bs)
  down-screens t e =
      let b = sound-book book h in
      let n = screens-count book bs in
      let l : length book ≡ length (laid_out true (screens_of book bs)) = ap length (own-screens t) in
      let f = laid-length true (screens_of book bs) in
      let g = laid-length false (screens_of book bs) in
      record {
        some = omega (arith, b.opens.some);
        few = omega (arith, b.opens.few);
        keyed = numbered-keyed book 0 bs e;
        short = omega (arith, b.opens.short);
      }

-- a book of either form that is laid out of these screens is moved to the other
down-laid : (ks : List Kept) (back : List ℕ) → Screens true ks → Keyed false 0 ks → down_of (laid_out true ks) back ≡ fitted (laid_out false ks) back
unfolding down_of
down-laid ks back k f =
    let book : List ℕ = laid_out true ks in
    let bs : List Body = bodies_from ks (first_body true (length ks)) in
    ap (λ (v : Bool). cond v (down_in book (contents_of book) back) (not_moved 9 0 back)) (laid-form true ks k)
    ∙ ap (λ (x : Contents). down_in book x back) (laid-contents true ks k)
    ∙ ap (λ (v : Bool). cond v (fitted (laid_out false (screens_of book bs)) back) (not_moved 17 0 back)) (keyed-numbered 0 ks (first_body true (length ks)) f)
    ∙ ap (λ (cs : List Kept). fitted (laid_out false cs) back) (laid-screens true ks k)

up-laid : (p : Panel) (ks : List Kept) (back : List ℕ) → valid_panel p ≡ true → Screens false ks → length (laid_out true ks) ≤ 32768
    → bodies_read p (laid_out false ks) 0 (bodies_from ks (first_body false (length ks))) ≡ Plain → up_of p (laid_out false ks) back ≡ fitted (laid_out true ks) back
unfolding up_of
up-laid p ks back v k s r =
    let book : List ℕ = laid_out false ks in
    let bs : List Body = bodies_from ks (first_body false (length ks)) in
    (λ i. cond (v i) (cond (laid-form false ks k i) (not_moved 9 0 back) (up_in p book (laid-contents false ks k i) back)) (not_moved 1 0 back))
    ∙ (λ i. up_read (r i) (fitted_up (laid_out true (laid-screens false ks k i)) back) back)
    ∙ ap (λ (w : Bool). cond w (fitted (laid_out true ks) back) (not_moved 18 (length (laid_out true ks)) back)) (le-leb (length (laid_out true ks)) 32768 s)

pub up-down : UpDown
up-down p book out back bytes z =
    let u = up-made p book out z in
    let ks : List Kept = screens_of book u.bodies in
    let n : Keyed false 0 ks = subst (λ (v : Bool). Keyed v 0 ks) u.form (sound-keyed book bytes u.contents) in
    ap (λ (l : List ℕ). down_of l back) u.bytes
    ∙ down-laid ks back (up-screens book bytes u.contents u.form u.short) n
    ∙ ap (λ (l : List ℕ). fitted l back) (sym (own-screens book bytes u.contents u.form))

pub down-up : DownUp
down-up p book out back v bytes w z =
    let d = down-made book out z in
    let ks : List Kept = screens_of book d.bodies in
    let own = own-screens book bytes d.contents d.form in
    let l : length book ≡ length (laid_out true ks) = ap length own in
    let k = down-screens book bytes d.contents d.form d.numbered in
    let b = sound-book book d.contents in
    let never : is_two (laid_out false ks) ≡ true → is_two book ≡ true = λ q. d.form in
    let g = bodies-move p book (laid_out false ks) 0 (is_two book) (entries_at (is_two book)) (first_body (is_two book) (length d.bodies)) 0 (first_body false (length ks)) d.bodies b.entries
    (w d.bodies d.contents) (laid-bodies false ks k) (omega (arith, laid-length false ks)) never in
    ap (λ (m : List ℕ). up_of p m back) d.bytes
    ∙ up-laid p ks back v k (omega (arith, b.opens.short)) g
    ∙ ap (λ (m : List ℕ). fitted m back) (sym own)
