-- The bodies of a book read on a panel, one after the other.
use mathlib.Core.Path.{◌≡◌, refl, ap, sym, ◌∙◌}
use mathlib.Core.Bool.{Bool, true, false, cond, ◌||◌}
use mathlib.Core.List.{List, [], ◌∷◌}
use Prim.Native.Nat.{ℕ, ◌+◌, ◌-◌}
use native.Mathlib.Omega.{arith}
use Rattle.state.specs.declared.panel.Panel.{Panel}
use Rattle.contents.specs.Contents.{Body}
use Rattle.book.specs.declared.operation.Placed.{Placed}
use Rattle.book.specs.declared.operation.Placed.TheVariants.{Text, Rectangle, Dot, Glyph, Cursor, Combine}
use Rattle.book.specs.Replies.{Found, Operation as Found-Operation, End, Faulty as Found-Faulty}
use Rattle.book.specs.Operation.{Operation, operation_of, found_at}
use Rattle.book.specs.Range.{FoundOperation}
use Rattle.book.specs.Screen.{Screen, screen, refused as screen_refused, with_operation, operations_from}
use Rattle.book.proofs.Finding.{found-operation}
use Rattle.book.proofs.Walking.{walk-on, walk_end, walk-faulty}
use Rattle.std.specs.Option.{option_or}
use Rattle.std.specs.Prelude.{Option, Some, None, Ok, Err}
use Rattle.state.specs.declared.refusal.Refused.{Refused}
use Rattle.state.specs.declared.refusal.Refusal.TheVariants.{WrongOperation}
use Rattle.layout.specs.BodyRead.{BodyRead, Plain as Body-Plain, And as Body-And, Faulty as Body-Faulty, reads_one}
use Rattle.layout.specs.BodiesRead.{BodiesRead, Plain, And, Faulty, reads}
use Rattle.layout.specs.Uses.{is_and, uses_and, body_read, and_before, read_before, bodies_read}
use Rattle.layout.specs.Ready.{placed_and}

placed-and : (book : List ℕ) (o : Placed) → placed_and o ≡ is_and (operation_of book o)
placed-and book (Text line column from n) = refl
placed-and book (Rectangle top column height width value) = refl
placed-and book (Dot x y on) = refl
placed-and book (Glyph code from) = refl
placed-and book (Cursor line column height blink) = refl
placed-and book (Combine k) = refl

-- with what was read before
abbrev body_on : Bool → Screen → BodyRead
body_on uses (screen os) = cond (uses || uses_and os) Body-And Body-Plain
body_on uses (screen_refused n place) = Body-Faulty place

none_yet : (x : Screen) → body_on false x ≡ body_read x
none_yet (screen os) = refl
none_yet (screen_refused n place) = refl

one_more : (uses : Bool) {a : Bool} (o : Operation) (x : Screen) → a ≡ is_and o → body_on (uses || a) x ≡ body_on uses (with_operation o x)
unfolding uses_and
one_more true o (screen os) e = refl
one_more false o (screen os) e = ap (λ (t : Bool). cond (t || uses_and os) Body-And Body-Plain) e
one_more uses o (screen_refused n place) e = refl

-- what is left of a body read as the whole
pub record BodyReading (p : Panel) (book : List ℕ) (start end at : ℕ) (uses : Bool) : Type 0 where
  pub left : body_on uses (operations_from (end - at) p book at end) ≡ body_read (operations_from (end - start) p book start end)

module _ (p : Panel) (book : List ℕ) (start end : ℕ) where
  pub reading-starts : BodyReading p book start end start false
  reading-starts = record { left = none_yet (operations_from (end - start) p book start end) }

  module _ {at : ℕ} {uses : Bool} (k : BodyReading p book start end at uses) {f : Found} (i : f ≡ found_at p book at end) where
    pub reading-found : {o : Placed} {next : ℕ} → f ≡ Found-Operation o next → FoundOperation p book at end o next
    reading-found e = found-operation p book at end (sym i ∙ e)

    pub reading-on : {o : Placed} {next : ℕ} {a : Bool} → f ≡ Found-Operation o next → a ≡ placed_and o → BodyReading p book start end next (uses || a)
    reading-on {o} {next} e j =
        record {
          left = one_more uses (operation_of book o) (operations_from (end - next) p book next end) (j ∙ placed-and book o)
              ∙ ap (body_on uses) (sym (walk-on p book end at (sym i ∙ e))) ∙ k.left;
        }

    pub reading-ends : f ≡ End → {v : Bool} → uses ≡ v → cond v Body-And Body-Plain ≡ body_read (operations_from (end - start) p book start end)
    unfolding uses_and
    reading-ends e {v} u = go v (sym u) ∙ ap (body_on uses) (sym (walk_end p book end at (sym i ∙ e))) ∙ k.left
      where
        none : (t : Bool) → cond t Body-And Body-Plain ≡ cond (t || false) Body-And Body-Plain
        none true = refl
        none false = refl

        go : (v : Bool) → v ≡ uses → cond v Body-And Body-Plain ≡ cond (uses || false) Body-And Body-Plain
        go v q = ap (λ (t : Bool). cond t Body-And Body-Plain) q ∙ none uses

    pub reading-faulty : f ≡ Found-Faulty → Body-Faulty at ≡ body_read (operations_from (end - start) p book start end)
    reading-faulty e = ap (body_on uses) (sym (walk-faulty p book end at (sym i ∙ e))) ∙ k.left

-- whether a body uses AND, read to its end
pub uses-read : (u : Bool) → Ok u ≡ reads_one (cond u Body-And Body-Plain)
uses-read true = refl
uses-read false = refl

-- what is left of the bodies, behind the first screen that uses AND
abbrev pub joined : Option ℕ → BodiesRead → BodiesRead
joined None x = x
joined (Some i) x = and_before i x

joined_and : (first : Option ℕ) (i : ℕ) (x : BodiesRead) → joined (option_or first (Some i)) x ≡ joined first (and_before i x)
joined_and None i x = refl
joined_and (Some j) i Plain = refl
joined_and (Some j) i (And k) = refl
joined_and (Some j) i (Faulty place) = refl

joined_faulty : (first : Option ℕ) (place : ℕ) → Faulty place ≡ joined first (Faulty place)
joined_faulty None place = refl
joined_faulty (Some j) place = refl

abbrev pub body_reads : Panel → List ℕ → Body → BodyRead
body_reads p book b = body_read (operations_from (b.end - b.start) p book b.start b.end)

pub record BodiesReading (p : Panel) (book : List ℕ) (bs : List Body) (i : ℕ) (left : List Body) (first : Option ℕ) : Type 0 where
  pub same : joined first (bodies_read p book i left) ≡ bodies_read p book 0 bs

module _ (p : Panel) (book : List ℕ) (bs : List Body) where
  pub bodies-start : BodiesReading p book bs 0 bs None
  bodies-start = record { same = refl }

  module _ {i : ℕ} {b : Body} {left : List Body} {first : Option ℕ} (k : BodiesReading p book bs i (b ∷ left) first) where
    told : (x : BodyRead) → body_reads p book b ≡ x → joined first (read_before x i (bodies_read p book (i + 1) left)) ≡ bodies_read p book 0 bs
    told x e = ap (λ (y : BodyRead). joined first (read_before y i (bodies_read p book (i + 1) left))) (sym e) ∙ k.same

    pub bodies-refused : (e : Refused) → Err e ≡ reads_one (body_reads p book b) → Err e ≡ reads (bodies_read p book 0 bs)
    bodies-refused e q = go (body_reads p book b) refl q
      where
        go : (x : BodyRead) → body_reads p book b ≡ x → Err e ≡ reads_one x → Err e ≡ reads (bodies_read p book 0 bs)
        go Body-Plain h q = let z : ◌≡◌ {A = ℕ} 0 1 = cc in absurd (let y : ⊥ = omega arith in y)
        go Body-And h q = let z : ◌≡◌ {A = ℕ} 0 1 = cc in absurd (let y : ⊥ = omega arith in y)
        go (Body-Faulty place) h q = (let r : e ≡ record { refusal = WrongOperation; place = place } = cc in ap (λ (x : Refused). Err x) r) ∙ ap reads (joined_faulty first place ∙ told (Body-Faulty place) h)

    pub bodies-plain : {u : Bool} → Ok u ≡ reads_one (body_reads p book b) → u ≡ false → BodiesReading p book bs (i + 1) left first
    bodies-plain {u} q f = go (body_reads p book b) refl q
      where
        go : (x : BodyRead) → body_reads p book b ≡ x → Ok u ≡ reads_one x → BodiesReading p book bs (i + 1) left first
        go Body-Plain h q = record { same = told Body-Plain h }
        go Body-And h q = let z : false ≡ true = cc in absurd (let n : ◌≡◌ {A = ℕ} 0 1 = ap (λ (t : Bool). cond t 1 0) z in let y : ⊥ = omega arith in y)
        go (Body-Faulty place) h q = let z : ◌≡◌ {A = ℕ} 0 1 = cc in absurd (let y : ⊥ = omega arith in y)

    pub bodies-and : {u : Bool} → Ok u ≡ reads_one (body_reads p book b) → u ≡ true → {f : Option ℕ} → f ≡ option_or first (Some i) → BodiesReading p book bs (i + 1) left f
    bodies-and {u} q t {f} m = go (body_reads p book b) refl q
      where
        go : (x : BodyRead) → body_reads p book b ≡ x → Ok u ≡ reads_one x → BodiesReading p book bs (i + 1) left f
        go Body-And h q = record { same = ap (λ (o : Option ℕ). joined o (bodies_read p book (i + 1) left)) m ∙ joined_and first i (bodies_read p book (i + 1) left) ∙ told Body-And h }
        go Body-Plain h q = let z : true ≡ false = cc in absurd (let n : ◌≡◌ {A = ℕ} 1 0 = ap (λ (t : Bool). cond t 1 0) z in let y : ⊥ = omega arith in y)
        go (Body-Faulty place) h q = let z : ◌≡◌ {A = ℕ} 0 1 = cc in absurd (let y : ⊥ = omega arith in y)

  pub bodies-end : {i : ℕ} {first : Option ℕ} {left : List Body} → BodiesReading p book bs i left first → left ≡ [] → reads (joined first Plain) ≡ reads (bodies_read p book 0 bs)
  bodies-end {i} {first} k e = ap reads (ap (λ (l : List Body). joined first (bodies_read p book i l)) (sym e) ∙ k.same)
