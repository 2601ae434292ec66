-- 01, Screens: the operations, their checks, their pairs.
use Rattle.std.specs.Prelude.{ℕ, ◌+◌, ◌-◌, ◌*◌, ◌/◌, ◌%◌, Bool, cond, not, ◌&&◌, List, [], ◌∷◌, ltb, leb, eqb, length, get_or, take, drop}
use Rattle.state.specs.declared.panel.Panel.{Panel}
use Rattle.state.specs.declared.registers.Combination.{Combination}
use Rattle.state.specs.declared.registers.Combination.TheVariants.{Or, Exor, And}
use Rattle.book.specs.declared.operation.Placed.{Placed}
use Rattle.book.specs.declared.operation.Placed.TheVariants.{Text, Rectangle, Dot, Glyph, Cursor, Combine}
use Rattle.book.specs.Replies.{Found, Operation as Found-Operation, End, Faulty}
use Rattle.contents.specs.Contents.{word_at, is_two}

pub data Operation : Type 0 where
  -- line, column, codes
  text : ℕ → ℕ → List ℕ → Operation
  -- top, column, height, width, value
  rectangle : ℕ → ℕ → ℕ → ℕ → ℕ → Operation
  -- x, y, set or reset
  dot : ℕ → ℕ → Bool → Operation
  -- code, eight rows
  glyph : ℕ → List ℕ → Operation
  -- line, column, height, blink
  cursor : ℕ → ℕ → ℕ → Bool → Operation
  combine : Combination → Operation

-- the pairs it is written in
abbrev pub pairs_for : Operation → ℕ
pairs_for (text line column codes) = length codes + 5
pairs_for (rectangle top column height width value) = height * (width + 5)
pairs_for (dot x y on) = 4
pairs_for (glyph code rows) = 13
pairs_for (cursor line column height blink) = 5
pairs_for (combine k) = 1

-- the column Pairs, added up
unfoldable pub body_count : List Operation → ℕ
body_count [] = 0
body_count (o ∷ os) = pairs_for o + body_count os

-- an operation as it stands in the book, with its codes or rows
abbrev pub operation_of : List ℕ → Placed → Operation
operation_of book (Text line column from n) = text line column (take n (drop from book))
operation_of book (Rectangle top column height width value) = rectangle top column height width value
operation_of book (Dot x y on) = dot x y on
operation_of book (Glyph code from) = glyph code (take 8 (drop from book))
operation_of book (Cursor line column height blink) = cursor line column height blink
operation_of book (Combine k) = combine k

-- an operation of so many bytes: whole before the body's end, and in range
abbrev pub sized : ℕ → ℕ → ℕ → Bool → Placed → Found
sized at end size in_range o = cond (leb (at + size) end && in_range) (Found-Operation o (at + size)) Faulty

-- the byte of an operation that begins at a byte of the book
abbrev pub byte_in : List ℕ → ℕ → ℕ → ℕ
byte_in book at k = get_or book (at + k) 0

-- 1 line col n codes: n 1 to 80, col + n at most C, line below L
abbrev pub text_found : Panel → ℕ → ℕ → ℕ → ℕ → ℕ → Found
text_found p at end line column n =
    sized at end (4 + n)
    (ltb line p.lines && leb 1 n && leb n 80 && leb (column + n) p.columns)
    (Text line column (at + 4) n)

abbrev pub read_text : Panel → List ℕ → ℕ → ℕ → Found
read_text p book at end = text_found p at end (byte_in book at 1) (byte_in book at 2) (byte_in book at 3)

-- 2 top col height width value: height and width at least 1, inside the panel
abbrev pub rectangle_found : Panel → ℕ → ℕ → ℕ → ℕ → ℕ → ℕ → ℕ → Found
rectangle_found p at end top column height width value =
    sized at end 6
    (leb 1 height && leb 1 width && leb (top + height) (8 * p.lines) && leb (column + width) p.columns)
    (Rectangle top column height width value)

abbrev pub read_rectangle : Panel → List ℕ → ℕ → ℕ → Found
read_rectangle p book at end =
    rectangle_found p at end (byte_in book at 1) (byte_in book at 2) (byte_in book at 3) (byte_in book at 4) (byte_in book at 5)

-- 3 xlow xhigh y v: x below C·w, y below 8L, v 0 or 1
abbrev pub dot_found : Panel → ℕ → ℕ → ℕ → ℕ → ℕ → Found
dot_found p at end x y v =
    sized at end 5 (ltb x (p.columns * p.width) && ltb y (8 * p.lines) && leb v 1) (Dot x y (eqb v 1))

abbrev pub read_dot : Panel → List ℕ → ℕ → ℕ → Found
read_dot p book at end = dot_found p at end (word_at book (at + 1)) (byte_in book at 3) (byte_in book at 4)

-- 4 code eight rows: code 80H or more
abbrev pub glyph_found : ℕ → ℕ → ℕ → Found
glyph_found at end code = sized at end 10 (leb 0x80 code) (Glyph code (at + 2))

abbrev pub read_glyph : Panel → List ℕ → ℕ → ℕ → Found
read_glyph p book at end = glyph_found at end (byte_in book at 1)

-- 5 line col height blink: line below L, col below C, height 1 to 8, blink 0 or 1
abbrev pub cursor_found : Panel → ℕ → ℕ → ℕ → ℕ → ℕ → ℕ → Found
cursor_found p at end line column height blink =
    sized at end 5
    (ltb line p.lines && ltb column p.columns && leb 1 height && leb height 8 && leb blink 1)
    (Cursor line column height (eqb blink 1))

abbrev pub read_cursor : Panel → List ℕ → ℕ → ℕ → Found
read_cursor p book at end =
    cursor_found p at end (byte_in book at 1) (byte_in book at 2) (byte_in book at 3) (byte_in book at 4)

-- 0 OR, 1 EXOR, 2 AND
abbrev pub combination_of : ℕ → Combination
combination_of k = cond (eqb k 0) Or (cond (eqb k 1) Exor And)

-- a form two book no longer knows AND (02, Req 11)
abbrev pub known_mode : Bool → ℕ → Bool
known_mode two k = leb k 2 && not (two && eqb k 2)

-- 6 k
abbrev pub combine_found : Bool → ℕ → ℕ → ℕ → Found
combine_found two at end k = sized at end 2 (known_mode two k) (Combine (combination_of k))

abbrev pub read_combine : List ℕ → ℕ → ℕ → Found
read_combine book at end = combine_found (is_two book) at end (byte_in book at 1)

-- an operation begins at a byte of the book, in a body that ends before end
unfoldable pub found_here : Panel → List ℕ → ℕ → ℕ → Found
found_here p book at end =
    cond (eqb (get_or book at 0) 1) (read_text p book at end)
    (cond (eqb (get_or book at 0) 2) (read_rectangle p book at end)
    (cond (eqb (get_or book at 0) 3) (read_dot p book at end)
    (cond (eqb (get_or book at 0) 4) (read_glyph p book at end)
    (cond (eqb (get_or book at 0) 5) (read_cursor p book at end)
    (cond (eqb (get_or book at 0) 6) (read_combine book at end)
    Faulty)))))

-- what reading finds at a byte: the body's end, an operation, or a faulty one; a body that passes the book has none
unfoldable pub found_at : Panel → List ℕ → ℕ → ℕ → Found
found_at p book at end = cond (leb end at) End (cond (leb end (length book)) (found_here p book at end) Faulty)

-- where a dot stands: the graphic byte, and in it bit w-1-(x mod w)
abbrev pub dot_byte : Panel → ℕ → ℕ → ℕ
dot_byte p x y = y * p.columns + x / p.width

abbrev pub dot_bit : Panel → ℕ → ℕ
dot_bit p x = p.width - 1 - x % p.width
