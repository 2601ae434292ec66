-- The definitions of reading an operation, case by case, from what each step of the code gives.
use mathlib.Core.Path.{◌≡◌, refl, ap, sym, ◌∙◌}
use mathlib.Core.Bool.{Bool, true, false, cond, ◌&&◌}
use mathlib.Core.List.{List}
use Prim.Native.Nat.{ℕ, ◌+◌, ◌-◌, ◌*◌, ◌<◌, ◌≤◌}
use native.Mathlib.Omega.{arith}
use lib.Dec.{ltb, leb, eqb}
use lib.ListN.{get_or}
use borrow.Author.Tests.{le-leb, lt-leb, leb-true, leb-false}
use Rattle.state.specs.declared.panel.Panel.{Panel}
use Rattle.state.specs.declared.registers.Combination.{Combination}
use Rattle.book.specs.declared.operation.Placed.{Placed}
use Rattle.book.specs.declared.operation.Placed.TheVariants.{Text, Rectangle, Dot, Glyph, Cursor, Combine}
use Rattle.book.specs.Replies.{Found, Operation as Found-Operation, Faulty}
use Rattle.contents.specs.Contents.{word_at}
use Rattle.book.specs.Operation.{sized, read_text, read_rectangle, read_dot, read_glyph, read_cursor, combination_of, known_mode, read_combine}

-- what the code tests for a whole operation
module _ {at end : ℕ} (h : at ≤ end) (size : ℕ) where
  same_test : leb size (end - at) ≡ leb (at + size) end
  same_test = go (leb (at + size) end) refl
    where
      go : (t : Bool) → leb (at + size) end ≡ t → leb size (end - at) ≡ t
      go true e = let k : at + size ≤ end = leb-true (at + size) end e in le-leb size (end - at) (omega arith)
      go false e = let k : end < at + size = leb-false (at + size) end e in lt-leb size (end - at) (omega arith)

  module _ (o : Placed) (ranged : Bool) where
    sized-as : (v : Bool) → (leb size (end - at) && ranged) ≡ v → cond v (Found-Operation o (at + size)) Faulty ≡ sized at end size ranged o
    sized-as v e = ap (λ (t : Bool). cond t (Found-Operation o (at + size)) Faulty) (sym e ∙ ap (λ (t : Bool). t && ranged) same_test)

    pub is_whole : (leb size (end - at) && ranged) ≡ true → Found-Operation o (at + size) ≡ sized at end size ranged o
    is_whole e = sized-as true e

    pub not-whole : (leb size (end - at) && ranged) ≡ false → Faulty ≡ sized at end size ranged o
    not-whole e = sized-as false e

module _ (p : Panel) (book : List ℕ) (at end : ℕ) {r : Found} where
  pub text-read : {line column n : ℕ} → line ≡ get_or book (at + 1) 0 → column ≡ get_or book (at + 2) 0 → n ≡ get_or book (at + 3) 0
      → r ≡ sized at end (4 + n) (ltb line p.lines && leb 1 n && leb n 80 && leb (column + n) p.columns) (Text line column (at + 4) n)
      → r ≡ read_text p book at end
  text-read i j k h = cc

  pub rectangle-read : {top column height width value : ℕ} {down : Bool} → top ≡ get_or book (at + 1) 0 → column ≡ get_or book (at + 2) 0
      → height ≡ get_or book (at + 3) 0 → width ≡ get_or book (at + 4) 0 → value ≡ get_or book (at + 5) 0 → down ≡ leb (top + height) (8 * p.lines)
      → r ≡ sized at end 6 (leb 1 height && leb 1 width && down && leb (column + width) p.columns) (Rectangle top column height width value)
      → r ≡ read_rectangle p book at end
  rectangle-read i j k l m n h = cc

  pub dot-read : {x y v : ℕ} {across down : Bool} → x ≡ word_at book (at + 1) → y ≡ get_or book (at + 3) 0 → v ≡ get_or book (at + 4) 0
      → across ≡ ltb x (p.columns * p.width) → down ≡ ltb y (8 * p.lines)
      → r ≡ sized at end 5 (across && down && leb v 1) (Dot x y (eqb v 1))
      → r ≡ read_dot p book at end
  dot-read i j k l m h = cc

  pub glyph-read : {code : ℕ} → code ≡ get_or book (at + 1) 0 → r ≡ sized at end 10 (leb 0x80 code) (Glyph code (at + 2)) → r ≡ read_glyph p book at end
  glyph-read i h = cc

  pub cursor-read : {line column height blink : ℕ} → line ≡ get_or book (at + 1) 0 → column ≡ get_or book (at + 2) 0 → height ≡ get_or book (at + 3) 0
      → blink ≡ get_or book (at + 4) 0
      → r ≡ sized at end 5 (ltb line p.lines && ltb column p.columns && leb 1 height && leb height 8 && leb blink 1) (Cursor line column height (eqb blink 1))
      → r ≡ read_cursor p book at end
  cursor-read i j k l h = cc

module _ (book : List ℕ) (at end : ℕ) {r : Found} where
  pub combine-read : {first k : ℕ} {c : Combination} → first ≡ get_or book 0 0 → k ≡ get_or book (at + 1) 0 → c ≡ combination_of k → r ≡ sized at end 2 (known_mode (eqb first 0) k) (Combine c)
      → r ≡ read_combine book at end
  combine-read e i j h = h ∙ (λ t. sized at end 2 (known_mode (eqb (e t) 0) (i t)) (Combine ((j ∙ ap combination_of i) t)))
