-- Bodies that are read in one book, read in another that has their bytes.
use mathlib.Core.Path.{◌≡◌, refl, ap, sym, ◌∙◌}
use mathlib.Core.Bool.{Bool, true}
use mathlib.Core.List.{List, [], ◌∷◌, ◌++◌}
use Prim.Native.Nat.{ℕ, ◌+◌, ◌-◌, ◌≤◌}
use native.Mathlib.Omega.{arith}
use lib.ListN.{length, get_or, drop, length-append, get_or-append}
use lib.Seq.{get_or-drop, get_or-take, drop-drop, drop-append_seam}
use Rattle.state.specs.declared.panel.Panel.{Panel}
use Rattle.contents.specs.Contents.{Body, is_two, entry_size, entry_at}
use Rattle.contents.proofs.Soundness.{Entered}
use Rattle.book.specs.Operation.{Operation}
use Rattle.book.specs.Screen.{Screen, screen, refused, operations_from}
use Rattle.book.proofs.Locality.{Alike, operations-move}
use Rattle.layout.specs.BodyRead.{BodyRead}
use Rattle.layout.specs.BodyRead.{Plain as Body-Plain, And as Body-And, Faulty as Body-Faulty}
use Rattle.layout.specs.BodiesRead.{BodiesRead}
use Rattle.layout.specs.BodiesRead.{Plain, And, Faulty}
use Rattle.layout.specs.Uses.{body_read, and_before, read_before, bodies_read}
use Rattle.layout.specs.Laid.{bodies_laid, bytes_between, screens_of}
use Rattle.layout.proofs.Layouts.{bodies_from}
use Rattle.layout.proofs.Puts.{between-length}

-- a stretch of one book that stands in another
pub body_alike : (a b : List ℕ) (s e start : ℕ) (rest : List ℕ) → s ≤ e → e ≤ length a → drop start b ≡ bytes_between a s e ++ rest → Alike a s b start (e - s)
body_alike a b s e start rest o i h =
    record {
      bytes = λ j l.
          let n : length (bytes_between a s e) ≡ e - s = between-length a s e o i in
          sym
          (sym (get_or-drop start b j 0) ∙ ap (λ (x : List ℕ). get_or x j 0) h ∙ get_or-append (bytes_between a s e) rest 0 j (omega arith)
          ∙ get_or-take (e - s) (drop s a) j 0 l ∙ get_or-drop s a j 0);
    }

-- a book that can be read: its first body, and the others
not_plain : (i : ℕ) (x : BodiesRead) → and_before i x ≡ Plain → ⊥
not_plain i Plain h = let z : ◌≡◌ {A = ℕ} 0 1 = cc in omega arith
not_plain i (And j) h = let z : ◌≡◌ {A = ℕ} 0 1 = cc in omega arith
not_plain i (Faulty place) h = let z : ◌≡◌ {A = ℕ} 0 1 = cc in omega arith

never : (place : ℕ) → Faulty place ≡ Plain → ⊥
never place h = let z : ◌≡◌ {A = ℕ} 0 1 = cc in omega arith

first_plain : (x : BodyRead) (i : ℕ) (rest : BodiesRead) → read_before x i rest ≡ Plain → (x ≡ Body-Plain) × (rest ≡ Plain)
first_plain Body-Plain i rest h = (refl, h)
first_plain Body-And i rest h = absurd (not_plain i rest h)
first_plain (Body-Faulty place) i rest h = absurd (never place h)

not-faulty : (place : ℕ) → Body-Faulty place ≡ Body-Plain → ⊥
not-faulty place h = let z : ◌≡◌ {A = ℕ} 0 1 = cc in omega arith

record PlainBody (x : Screen) : Type 0 where
  operations : List Operation
  is : x ≡ screen operations

plain_body : (x : Screen) → body_read x ≡ Body-Plain → PlainBody x
plain_body (screen os) h = record { operations = os; is = refl }
plain_body (refused n place) h = absurd (not-faulty place h)

pub bodies-move : (p : Panel) (a b : List ℕ) (i : ℕ) (two : Bool) (at from least start : ℕ) (bs : List Body) → Entered two a at from least bs → bodies_read p a i bs ≡ Plain
    → drop start b ≡ bodies_laid (screens_of a bs) → start + length (bodies_laid (screens_of a bs)) ≤ length b → (is_two b ≡ true → is_two a ≡ true)
    → bodies_read p b i (bodies_from (screens_of a bs) start) ≡ Plain
unfolding bodies_laid
bodies-move p a b i two at from least start [] e h d w rule = refl
bodies-move p a b i two at from least start (c ∷ bs) e h d w rule =
    let x = entry_at two a at least in
    let f = first_plain (body_read (operations_from (c.end - c.start) p a c.start c.end)) i (bodies_read p a (i + 1) bs) h in
    let o = plain_body (operations_from (c.end - c.start) p a c.start c.end) f.0 in
    let first : c.start ≡ from = ap (λ (y : Body). y.start) e.1 in
    let last : c.end ≡ from + x.size = ap (λ (y : Body). y.end) e.1 in
    let inside : from + x.size ≤ length a = e.0.inside in
    let body : List ℕ = bytes_between a c.start c.end in
    let n : length body ≡ c.end - c.start = between-length a c.start c.end (omega arith) (omega arith) in
    let end : ℕ = start + length body in
    let l : length body + length (bodies_laid (screens_of a bs)) ≡ length (body ++ bodies_laid (screens_of a bs)) = sym (length-append body (bodies_laid (screens_of a bs))) in
    let m : operations_from (end - start) p b start end ≡ screen o.operations =
    operations-move p a b (c.end - c.start) c.start start c.end end (omega arith) (omega arith) o.is (body_alike a b c.start c.end start (bodies_laid (screens_of a bs)) (omega arith) (omega arith) d) (omega arith) (omega arith) rule in
    let rest : bodies_read p b (i + 1) (bodies_from (screens_of a bs) end) ≡ Plain =
    bodies-move p a b (i + 1) two (at + entry_size two) c.end (c.key + 1) end bs e.2 f.1
    (sym (drop-drop (length body) start b) ∙ ap (drop (length body)) d ∙ drop-append_seam body (bodies_laid (screens_of a bs))) (omega arith) rule in
    (λ j. read_before (body_read (m j)) i (rest j)) ∙ ap (λ (y : BodyRead). read_before y i Plain) (sym (ap body_read o.is) ∙ f.0)
