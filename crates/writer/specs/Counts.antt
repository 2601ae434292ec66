-- 01, Screens: the opening's pairs, and the column Pairs of the operations.
use Rattle.std.specs.Prelude.{◌≡◌, Bool, List, ℕ, ◌+◌, ◌*◌, length}
use Rattle.state.specs.declared.panel.Panel.{Panel}
use Rattle.state.specs.declared.registers.Combination.{Combination}
use Rattle.book.specs.Operation.{Operation, text, rectangle, dot, glyph, cursor, combine}
use Rattle.book.specs.Screen.{screen, screen_of}
use Rattle.writer.specs.Stream.{opening, operation_pairs, stream_of, count_of}

module _ (p : Panel) where
  -- the pairs that an operation is written in
  abbrev pub pairs_in : Operation → ℕ
  pairs_in o = length (operation_pairs p o)

  pub record Counts : Type 0 where
    -- The opening takes 1057 + 9·C·L pairs.
    pub of_opening : length (opening p) ≡ 1057 + 9 * (p.columns * p.lines)
    -- 1: n+5
    pub of_text : (line column : ℕ) (codes : List ℕ) → pairs_in (text line column codes) ≡ length codes + 5
    -- 2: height·(width+5)
    pub of_rectangle : (top column height width value : ℕ) → pairs_in (rectangle top column height width value) ≡ height * (width + 5)
    -- 3: 4
    pub of_dot : (x y : ℕ) (on : Bool) → pairs_in (dot x y on) ≡ 4
    -- 4, eight rows: 13
    pub of_glyph : (code : ℕ) (rows : List ℕ) → length rows ≡ 8 → pairs_in (glyph code rows) ≡ 13
    -- 5: 5
    pub of_cursor : (line column height : ℕ) (blink : Bool) → pairs_in (cursor line column height blink) ≡ 5
    -- 6: 1
    pub of_combination : (k : Combination) → pairs_in (combine k) ≡ 1
    -- and a screen the opening's and its operations', as counted
    pub of_screen : (book : List ℕ) (number : ℕ) (os : List Operation) → screen_of p book number ≡ screen os → length (stream_of p os) ≡ count_of p os
