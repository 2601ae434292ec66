-- 02, Req 13: two neighbours in a screen that may change places.
use Rattle.std.specs.Prelude.{ℕ, ◌+◌, ◌/◌, ◌≡◌, Bool, true, false, not, ◌&&◌, ◌||◌, ltb, leb, eqb, length}
use Rattle.state.specs.declared.panel.Panel.{Panel}
use Rattle.book.specs.Operation.{Operation, text, rectangle, dot, glyph, cursor, combine}
use Rattle.order.specs.declared.area.Area.{Area}

-- 01, Screens: the number of an operation
abbrev pub operation_number : Operation → ℕ
operation_number (text line column codes) = 1
operation_number (rectangle top column height width value) = 2
operation_number (dot x y on) = 3
operation_number (glyph code rows) = 4
operation_number (cursor line column height blink) = 5
operation_number (combine k) = 6

-- what it uses: text cells by line and column, graphic bytes by dot row and column, a code; 5 and 6 use none of these
abbrev pub area_of : Panel → Operation → Area
area_of p (text line column codes) = record { top = line; left = column; height = 1; width = length codes }
area_of p (rectangle top column height width value) = record { top = top; left = column; height = height; width = width }
area_of p (dot x y on) = record { top = y; left = x / p.width; height = 1; width = 1 }
area_of p (glyph code rows) = record { top = code; left = 0; height = 1; width = 1 }
area_of p (cursor line column height blink) = record { top = 0; left = 0; height = 0; width = 0 }
area_of p (combine k) = record { top = 0; left = 0; height = 0; width = 0 }

abbrev pub uses : Area → ℕ → ℕ → Bool
uses a r c = (leb a.top r && ltb r (a.top + a.height)) && (leb a.left c && ltb c (a.left + a.width))

-- graphic: 2 or 3
abbrev pub graphic_number : ℕ → Bool
graphic_number n = eqb n 2 || eqb n 3

-- of different numbers other than the pair 2 and 3
abbrev pub unlike_numbers : ℕ → ℕ → Bool
unlike_numbers m n = not (eqb m n) && not (graphic_number m && graphic_number n)

-- both text, both graphic or both glyph
abbrev pub one_plane : ℕ → ℕ → Bool
one_plane m n = (eqb m 1 && eqb n 1) || (graphic_number m && graphic_number n) || (eqb m 4 && eqb n 4)

-- the rule in the words of the request
pub data Free (p : Panel) (a b : Operation) : Type 0 where
  unlike : unlike_numbers (operation_number a) (operation_number b) ≡ true → Free p a b
  apart : one_plane (operation_number a) (operation_number b) ≡ true
      → ((r c : ℕ) → uses (area_of p a) r c ≡ true → uses (area_of p b) r c ≡ false)
      → Free p a b

-- the rule as a test: two stretches have a place in common, two areas one in rows and in columns
abbrev pub meets : ℕ → ℕ → ℕ → ℕ → Bool
meets s m t n = (ltb 0 m && ltb 0 n) && (ltb s (t + n) && ltb t (s + m))

abbrev pub shares : Area → Area → Bool
shares a b = meets a.top a.height b.top b.height && meets a.left a.width b.left b.width

abbrev pub may_by : ℕ → ℕ → Area → Area → Bool
may_by m n a b = unlike_numbers m n || (one_plane m n && not (shares a b))

abbrev pub may_of : Panel → Operation → Operation → Bool
may_of p a b = may_by (operation_number a) (operation_number b) (area_of p a) (area_of p b)
