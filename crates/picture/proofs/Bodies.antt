-- A body applied to a picture: the operations still to be applied give the whole.
use mathlib.Core.Path.{◌≡◌, ap, sym, ◌∙◌}
use mathlib.Core.List.{List, [], ◌∷◌}
use Rattle.std.proofs.Common.{None}
use Prim.Native.Nat.{ℕ, ◌-◌, ◌*◌}
use lib.ListN.{length, length-set, length-replicate}
use lib.Seq.{length-sets}
use Rattle.ground.specs.Lists.{zeros}
use Rattle.state.specs.declared.panel.Panel.{Panel}
use Rattle.state.specs.declared.registers.Combination.TheVariants.{Or}
use Rattle.book.specs.declared.operation.Placed.{Placed}
use Rattle.book.specs.Replies.{Operation as Found-Operation, End, Faulty}
use Rattle.book.specs.Operation.{Operation, text, rectangle, dot, glyph, cursor, combine, operation_of, found_at}
use Rattle.book.specs.Range.{FoundOperation}
use Rattle.book.specs.Screen.{Screen, screen, operations_from}
use Rattle.book.proofs.Finding.{found-operation}
use Rattle.book.proofs.Walking.{Step, step-on, step_end, step-never-faulty}
use Rattle.picture.specs.declared.style.Style.{Style}
use Rattle.picture.specs.Picture.{Picture, blank, applied, applied_all}
use Rattle.picture.specs.Ready.{picture_with, Sized, applied_in}
use Rattle.picture.proofs.Storing.{filled-length}

-- the planes of a picture have their sizes
abbrev pub PictureSized : Panel → Picture → Type 0
PictureSized p a = Sized p a.graphic a.codes a.glyphs

-- an operation keeps them
pub applied-sized : (p : Panel) (o : Operation) (a : Picture) → PictureSized p a → PictureSized p (applied p o a)
unfolding applied
applied-sized p (text line column codes) a k = record { graphic = k.graphic; codes = length-sets a.codes _ codes ∙ k.codes; glyphs = k.glyphs }
applied-sized p (rectangle top column height width value) a k =
    record { graphic = filled-length p height top column width value a.graphic ∙ k.graphic; codes = k.codes; glyphs = k.glyphs }
applied-sized p (dot x y on) a k = record { graphic = length-set a.graphic _ _ ∙ k.graphic; codes = k.codes; glyphs = k.glyphs }
applied-sized p (glyph code rows) a k = record { graphic = k.graphic; codes = k.codes; glyphs = length-sets a.glyphs _ rows ∙ k.glyphs }
applied-sized p (cursor line column height blink) a k = k
applied-sized p (combine c) a k = k

-- all of a screen keep them
pub all-sized : (p : Panel) (os : List Operation) (a : Picture) → PictureSized p a → PictureSized p (applied_all p os a)
unfolding applied_all
all-sized p [] a k = k
all-sized p (o ∷ os) a k = all-sized p os (applied p o a) (applied-sized p o a k)

zeros-length : (n : ℕ) → length (zeros n) ≡ n
unfolding zeros
zeros-length n = length-replicate n 0

pub blank-sized : (p : Panel) → PictureSized p (blank p)
unfolding blank
blank-sized p =
    record {
      graphic = zeros-length (8 * p.lines * p.columns);
      codes = zeros-length (p.lines * p.columns);
      glyphs = zeros-length 1024;
    }

-- three cleared planes, OR, no cursor
pub blank-is : (p : Panel) {g t h x y z : List ℕ} → Sized p g t h → x ≡ zeros (length g) → y ≡ zeros (length t) → z ≡ zeros (length h)
    → picture_with x y z (record { combination = Or; cursor = None }) ≡ blank p
unfolding blank
blank-is p k i j l =
    λ q. picture_with ((i ∙ ap zeros k.graphic) q) ((j ∙ ap zeros k.codes) q) ((l ∙ ap zeros k.glyphs) q) (record { combination = Or; cursor = None })

-- and a screen applied to them
pub screen-applied : (p : Panel) (s : Screen) {a : Picture} (k : Style) {g t h x y z : List ℕ} → x ≡ g → y ≡ t → z ≡ h → picture_with g t h k ≡ applied_in p s a → a ≡ blank p
    → picture_with x y z k ≡ applied_in p s (blank p)
screen-applied p s k i j l e d = (λ q. picture_with (i q) (j q) (l q) k) ∙ e ∙ ap (applied_in p s) d

-- with the operations from byte next on still to be applied to b
pub record Drawing (p : Panel) (book : List ℕ) (start end : ℕ) (a b : Picture) (next : ℕ) : Type 0 where
  pub rest : List Operation
  pub left : operations_from (end - next) p book next end ≡ screen rest
  pub gives : applied_all p rest b ≡ applied_in p (operations_from (end - start) p book start end) a

module _ (p : Panel) (book : List ℕ) (start end : ℕ) (a : Picture) where
  module _ {b : Picture} {next : ℕ} (k : Drawing p book start end a b next) where
    module _ {o : Placed} {behind : ℕ} (e : found_at p book next end ≡ Found-Operation o behind) where
      pub drawing-found : FoundOperation p book next end o behind
      drawing-found = found-operation p book next end e

      step : Step p book end o behind k.rest
      step = step-on p book next end k.left e

      pub drawing-on : {c : Picture} → c ≡ applied p (operation_of book o) b → Drawing p book start end a c behind
      unfolding applied_all
      drawing-on h =
          record {
            rest = step.rest;
            left = step.left;
            gives = ap (applied_all p step.rest) h ∙ ap (λ (os : List Operation). applied_all p os b) (sym step.is) ∙ k.gives;
          }

    pub drawing-ends : found_at p book next end ≡ End → b ≡ applied_in p (operations_from (end - start) p book start end) a
    unfolding applied_all
    drawing-ends e = sym (ap (λ (os : List Operation). applied_all p os b) (step_end p book next end k.left e)) ∙ k.gives

    pub drawing-never : found_at p book next end ≡ Faulty → ⊥
    drawing-never e = step-never-faulty p book next end k.left e
