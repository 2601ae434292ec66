-- How many pairs: a block has five more than its bytes, an operation its column's, a screen 1057 + 9·C·L and its operations'.
use mathlib.Core.Path.{◌≡◌, refl, ap, ◌∙◌}
use mathlib.Core.List.{List, [], ◌∷◌, map}
use Prim.Native.Nat.{ℕ, zero, suc, ◌+◌, ◌-◌, ◌*◌, ◌≤◌}
use native.Mathlib.Nat.{mul_comm, mul_assoc, suc-mul}
use native.Mathlib.Omega.{arith}
use lib.ListN.{length, take, drop, length-append, length-map, length-drop, replicate, length-replicate}
use lib.Seq.{length-take-le}
use Rattle.ground.specs.Lists.{zeros}
use Rattle.state.specs.declared.panel.Panel.{Panel}
use Rattle.contents.specs.Replies.{Asked, Body, Refused}
use Rattle.book.specs.declared.operation.Placed.{Placed}
use Rattle.book.specs.declared.operation.Placed.TheVariants.{Text, Rectangle, Dot, Glyph, Cursor, Combine}
use Rattle.book.specs.Operation.{Operation, pairs_for, body_count, operation_of}
use Rattle.book.specs.Range.{InRange}
use Rattle.book.specs.Screen.{screen, operations_from, screen_in, screen_of}
use Rattle.contents.specs.Asked.{asked_of}
use Rattle.book.proofs.Walking.{walk-all}
use Rattle.writer.specs.Counts.{Counts}
use Rattle.writer.specs.Stream.{datum, code, point_to, block, set_up, opening, row_blocks, operation_pairs, body_pairs, stream_of, count_of}

pub data-length : (bytes : List ℕ) → length (map datum bytes) ≡ length bytes
data-length bytes = length-map bytes datum

pub part_length : (book : List ℕ) (from n : ℕ) → from + n ≤ length book → length (take n (drop from book)) ≡ n
part_length book from n h = length-take-le n (drop from book) (rw length-drop (omega arith))

pub block-length : (at : ℕ) (bytes : List ℕ) → length (block at bytes) ≡ length bytes + 5
unfolding block point_to
block-length at bytes = omega (arith, length-append (map datum bytes) (code 0xb2 ∷ []), data-length bytes)

pub run_length : (at n byte : ℕ) → length (block at (replicate n byte)) ≡ n + 5
run_length at n byte = block-length at (replicate n byte) ∙ ap (λ (m : ℕ). m + 5) (length-replicate n byte)

zeros-length : (at n : ℕ) → length (block at (zeros n)) ≡ n + 5
unfolding zeros
zeros-length at n = run_length at n 0

pub opening-length : (p : Panel) → length (opening p) ≡ 1057 + 9 * (p.columns * p.lines)
unfolding opening set_up
opening-length p =
    simp (length-append, zeros-length) (omega (arith, mul_comm p.columns p.lines, mul_assoc 8 p.lines p.columns))

pub rows-length : (p : Panel) (top column height width value : ℕ) → length (row_blocks p top column height width value) ≡ height * (width + 5)
unfolding row_blocks
rows-length p top column zero width value = omega arith
rows-length p top column (suc height) width value =
    rw (length-append, run_length, suc-mul) (omega (arith, rows-length p (suc top) column height width value))

pub operation-length : (p : Panel) (book : List ℕ) (o : Placed) → InRange p book o → length (operation_pairs p (operation_of book o)) ≡ pairs_for (operation_of book o)
unfolding operation_pairs point_to
operation-length p book (Text line column from n) k = block-length _ (take n (drop from book))
operation-length p book (Rectangle top column height width value) k = rows-length p top column height width value
operation-length p book (Dot x y on) k = refl
operation-length p book (Glyph code from) k = block-length _ (take 8 (drop from book)) ∙ ap (λ (m : ℕ). m + 5) (part_length book from 8 k.inside)
operation-length p book (Cursor line column height blink) k = refl
operation-length p book (Combine c) k = refl

pub body-length : (p : Panel) (book : List ℕ) (end n at : ℕ) {os : List Operation} → operations_from n p book at end ≡ screen os
    → length (body_pairs p os) ≡ body_count os
unfolding body_pairs body_count
body-length p book end =
    walk-all p book end (λ n os. length (body_pairs p os) ≡ body_count os) (λ n. refl)
    (λ n at next o os k h.
    length-append (operation_pairs p (operation_of book o)) (body_pairs p os) ∙ (λ i. operation-length p book o k.range i + h i))

-- the stream of a book's screen is as long as its count
pub stream-length : (p : Panel) (book : List ℕ) (number : ℕ) {os : List Operation} → screen_of p book number ≡ screen os → length (stream_of p os) ≡ count_of p os
unfolding screen_of stream_of count_of
stream-length p book number {os} h =
    length-append (opening p) (body_pairs p os) ∙ (λ i. opening-length p i + go (asked_of book number) h i)
  where
    go : (a : Asked) → screen_in p book a ≡ screen os → length (body_pairs p os) ≡ body_count os
    go (Body start end) h = body-length p book end (end - start) start h
    go (Refused n place) h = let z : ◌≡◌ {A = ℕ} 0 1 = cc in absurd (let y : ⊥ = omega arith in y)

-- the counts of document 01
pub pair-counts : (p : Panel) → Counts p
unfolding operation_pairs point_to
pair-counts p =
    record {
      of_opening = opening-length p;
      of_text = λ line column codes. block-length _ codes;
      of_rectangle = λ top column height width value. rows-length p top column height width value;
      of_dot = λ x y on. refl;
      of_glyph = λ code rows e. block-length _ rows ∙ ap (λ (m : ℕ). m + 5) e;
      of_cursor = λ line column height blink. refl;
      of_combination = λ k. refl;
      of_screen = λ book number os e. stream-length p book number e;
    }
