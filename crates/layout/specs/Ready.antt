-- The screens of a book by where their bodies lie, as they are laid out.
use Rattle.std.specs.Prelude.{ℕ, ◌+◌, ◌-◌, ◌≤◌, ◌≡◌, Bool, false, List, [], ◌∷◌, ◌++◌, length}
use Rattle.std.proofs.lemmas.List.Edits.{sets}
use Rattle.contents.specs.Contents.{Body, first_body}
use Rattle.book.specs.declared.operation.Placed.{Placed}
use Rattle.book.specs.declared.operation.Placed.TheVariants.{Text, Rectangle, Dot, Glyph, Cursor, Combine}
use Rattle.layout.specs.Uses.{and_mode}
use Rattle.layout.specs.Laid.{entry_bytes}

-- bytes put into an output from a place on
pub record BytesPut (a : List ℕ) (at : ℕ) (xs b : List ℕ) : Type 0 where
  pub holds : b ≡ sets a at xs

-- the bytes of their bodies
unfoldable pub sizes_of : List Body → ℕ
sizes_of [] = 0
sizes_of (b ∷ bs) = (b.end - b.start) + sizes_of bs

-- an entry for each of them, the first body to begin at start
unfoldable pub entries_for : Bool → List Body → ℕ → List ℕ
entries_for two [] start = []
entries_for two (b ∷ bs) start = entry_bytes two b.key start (b.end - b.start) ++ entries_for two bs (start + (b.end - b.start))

-- the bytes of a book with these screens
abbrev pub laid_size : Bool → List Body → ℕ
laid_size two bs = first_body two (length bs) + sizes_of bs

-- operation 6 with 2, as it stands in the book
abbrev pub placed_and : Placed → Bool
placed_and (Text line column from n) = false
placed_and (Rectangle top column height width value) = false
placed_and (Dot x y on) = false
placed_and (Glyph code from) = false
placed_and (Cursor line column height blink) = false
placed_and (Combine k) = and_mode k

-- every body lies inside a book of so many bytes
abbrev pub Within : ℕ → List Body → Type 0
Within most [] = Unit {0}
Within most (b ∷ bs) = (b.start ≤ b.end) × ((b.end ≤ most) × Within most bs)

pub record Spanned (bs : List Body) (most : ℕ) : Type 0 where
  pub few : length bs ≤ 64
  pub short : most ≤ 32768
  pub within : Within most bs

-- and all of them fit a book, and the output
pub record Layable (two : Bool) (bs : List Body) (most room : ℕ) : Type 0 where
  pub spanned : Spanned bs most
  pub fits : laid_size two bs ≤ 32768
  pub lent : laid_size two bs ≤ room
