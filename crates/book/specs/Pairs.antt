-- 01, Screens, column Pairs, of an operation whose codes stay in the book.
use Rattle.std.specs.Prelude.{ℕ, ◌+◌, ◌*◌}
use Rattle.book.specs.declared.operation.Placed.{Placed}
use Rattle.book.specs.declared.operation.Placed.TheVariants.{Text, Rectangle, Dot, Glyph, Cursor, Combine}

abbrev pub placed_pairs : Placed → ℕ
placed_pairs (Text line column from n) = n + 5
placed_pairs (Rectangle top column height width value) = height * (width + 5)
placed_pairs (Dot x y on) = 4
placed_pairs (Glyph code from) = 13
placed_pairs (Cursor line column height blink) = 5
placed_pairs (Combine k) = 1
