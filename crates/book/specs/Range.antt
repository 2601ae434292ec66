-- 01, Screens: what holds of an operation that was found in a book.
use Rattle.std.specs.Prelude.{ℕ, ◌+◌, ◌*◌, ◌<◌, ◌≤◌, ◌≡◌, false, List, length, get_or}
use Rattle.state.specs.declared.panel.Panel.{Panel}
use Rattle.state.specs.declared.registers.Combination.{Combination}
use Rattle.state.specs.Combination.{is_attribute}
use Rattle.book.specs.declared.operation.Placed.{Placed}
use Rattle.book.specs.declared.operation.Placed.TheVariants.{Text, Rectangle, Dot, Glyph, Cursor, Combine}

pub record TextRange (p : Panel) (book : List ℕ) (line column from n : ℕ) : Type 0 where
  pub down : line < p.lines
  pub some : 1 ≤ n
  pub few : n ≤ 80
  pub across : column + n ≤ p.columns
  pub inside : from + n ≤ length book

pub record RectangleRange (p : Panel) (top column height width : ℕ) : Type 0 where
  pub some_rows : 1 ≤ height
  pub some_columns : 1 ≤ width
  pub down : top + height ≤ 8 * p.lines
  pub across : column + width ≤ p.columns

pub record DotRange (p : Panel) (x y : ℕ) : Type 0 where
  pub across : x < p.columns * p.width
  pub down : y < 8 * p.lines

pub record GlyphRange (book : List ℕ) (code from : ℕ) : Type 0 where
  pub high : 0x80 ≤ code
  pub inside : from + 8 ≤ length book

pub record CursorRange (p : Panel) (line column height : ℕ) : Type 0 where
  pub down : line < p.lines
  pub across : column < p.columns
  pub some : 1 ≤ height
  pub few : height ≤ 8

pub record CombineRange (k : Combination) : Type 0 where
  pub plain : is_attribute k ≡ false

-- in range on the panel, codes and rows inside the book
abbrev pub InRange : Panel → List ℕ → Placed → Type 0
InRange p book (Text line column from n) = TextRange p book line column from n
InRange p book (Rectangle top column height width value) = RectangleRange p top column height width
InRange p book (Dot x y on) = DotRange p x y
InRange p book (Glyph code from) = GlyphRange book code from
InRange p book (Cursor line column height blink) = CursorRange p line column height
InRange p book (Combine k) = CombineRange k

-- where an operation that begins at a byte has its codes or rows, and where it ends
abbrev pub Stands : ℕ → ℕ → Placed → Type 0
Stands at next (Text line column from n) = (from ≡ at + 4) × (next ≡ from + n)
Stands at next (Rectangle top column height width value) = next ≡ at + 6
Stands at next (Dot x y on) = next ≡ at + 5
Stands at next (Glyph code from) = (from ≡ at + 2) × (next ≡ from + 8)
Stands at next (Cursor line column height blink) = next ≡ at + 5
Stands at next (Combine k) = next ≡ at + 2

-- the values that no range bounds are bytes
abbrev pub ByteSized : Placed → Type 0
ByteSized (Text line column from n) = Unit {0}
ByteSized (Rectangle top column height width value) = value < 256
ByteSized (Dot x y on) = Unit {0}
ByteSized (Glyph code from) = code < 256
ByteSized (Cursor line column height blink) = Unit {0}
ByteSized (Combine k) = Unit {0}

-- an operation found at a byte of a body, with the byte behind it
pub record FoundOperation (p : Panel) (book : List ℕ) (at end : ℕ) (o : Placed) (next : ℕ) : Type 0 where
  pub on : at < next
  pub to_end : next ≤ end
  pub in_book : end ≤ length book
  pub range : InRange p book o
  pub stands : Stands at next o
  pub bytes : ((i : ℕ) → get_or book i 0 < 256) → ByteSized o
