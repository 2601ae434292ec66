-- 02, Req 13: what is answered to whoever asks for a screen's operation and the one behind it.
use Rattle.std.specs.Prelude.{ℕ, zero, suc, ◌/◌, Bool, true, false, cond, List, [], ◌∷◌}
use Rattle.state.specs.declared.panel.Panel.{Panel}
use Rattle.state.specs.State.{valid_panel}
use Rattle.book.specs.declared.operation.Placed.{Placed}
use Rattle.book.specs.declared.operation.Placed.TheVariants.{Text, Rectangle, Dot, Glyph, Cursor, Combine}
use Rattle.book.specs.Replies.{Found, Operation as Found-Operation, End, Faulty}
use Rattle.book.specs.Operation.{Operation}
use Rattle.book.specs.Screen.{Screen, screen, refused, screen_of}
use Rattle.order.specs.declared.area.Area.{Area}
use Rattle.order.specs.declared.swap.Kind.{Kind}
use Rattle.order.specs.declared.swap.Kind.TheVariants.{Text as Kind-Text, Graphic as Kind-Graphic, Glyph as Kind-Glyph, Cursor as Kind-Cursor, Combination as Kind-Combination}
use Rattle.order.specs.Replies.{Swap, May, Stays, NoTwo, Refused}
use Rattle.order.specs.Order.{may_by, may_of}

-- an operation and the one behind it, if there is one
abbrev pub beside_of : Panel → Operation → List Operation → Swap
beside_of p a [] = NoTwo
beside_of p a (b ∷ os) = cond (may_of p a b) May Stays

-- operation i, the first being 0, and the one behind it
unfoldable pub swap_at : Panel → List Operation → ℕ → Swap
swap_at p [] i = NoTwo
swap_at p (a ∷ os) zero = beside_of p a os
swap_at p (a ∷ os) (suc i) = swap_at p os i

-- 9, 10, 11
abbrev pub swap_in : Panel → Screen → ℕ → Swap
swap_in p (screen os) i = swap_at p os i
swap_in p (refused n place) i = Refused n place

-- 1 panel not valid, then 9, 10, 11
unfoldable pub swap_of : Panel → List ℕ → ℕ → ℕ → Swap
swap_of p book key i = cond (valid_panel p) (swap_in p (screen_of p book key) i) (Refused 1 0)

-- the number and the area of an operation whose codes stay in the book
abbrev pub placed_number : Placed → ℕ
placed_number (Text line column from n) = 1
placed_number (Rectangle top column height width value) = 2
placed_number (Dot x y on) = 3
placed_number (Glyph code from) = 4
placed_number (Cursor line column height blink) = 5
placed_number (Combine k) = 6

-- rectangles and dots are of one kind
abbrev pub kind_of : Placed → Kind
kind_of (Text line column from n) = Kind-Text
kind_of (Rectangle top column height width value) = Kind-Graphic
kind_of (Dot x y on) = Kind-Graphic
kind_of (Glyph code from) = Kind-Glyph
kind_of (Cursor line column height blink) = Kind-Cursor
kind_of (Combine k) = Kind-Combination

-- text, graphic and glyphs
abbrev pub uses_plane : Kind → Bool
uses_plane Kind-Text = true
uses_plane Kind-Graphic = true
uses_plane Kind-Glyph = true
uses_plane Kind-Cursor = false
uses_plane Kind-Combination = false

abbrev pub placed_area : Panel → Placed → Area
placed_area p (Text line column from n) = record { top = line; left = column; height = 1; width = n }
placed_area p (Rectangle top column height width value) = record { top = top; left = column; height = height; width = width }
placed_area p (Dot x y on) = record { top = y; left = x / p.width; height = 1; width = 1 }
placed_area p (Glyph code from) = record { top = code; left = 0; height = 1; width = 1 }
placed_area p (Cursor line column height blink) = record { top = 0; left = 0; height = 0; width = 0 }
placed_area p (Combine k) = record { top = 0; left = 0; height = 0; width = 0 }

-- one of them and what reading finds behind it
abbrev pub beside_in : Panel → Placed → Found → Swap
beside_in p a (Found-Operation b next) = cond (may_by (placed_number a) (placed_number b) (placed_area p a) (placed_area p b)) May Stays
beside_in p a End = NoTwo
beside_in p a Faulty = NoTwo
