-- 02, Req 11: whether a panel can have every body of a book, and which screen is the first to use AND.
use Rattle.std.specs.Prelude.{ℕ, ◌+◌, ◌-◌, Bool, true, false, cond, ◌||◌, List, [], ◌∷◌}
use Rattle.state.specs.declared.panel.Panel.{Panel}
use Rattle.state.specs.declared.registers.Combination.{Combination}
use Rattle.state.specs.declared.registers.Combination.TheVariants.{Or, Exor, And as Mode-And, Attribute}
use Rattle.contents.specs.Contents.{Body}
use Rattle.book.specs.Operation.{Operation, text, rectangle, dot, glyph, cursor, combine}
use Rattle.book.specs.Screen.{Screen, screen, refused, operations_from}
use Rattle.layout.specs.BodyRead.{BodyRead}
use Rattle.layout.specs.BodyRead.{Plain as Body-Plain, And as Body-And, Faulty as Body-Faulty}
use Rattle.layout.specs.BodiesRead.{BodiesRead}
use Rattle.layout.specs.BodiesRead.{Plain, And, Faulty}

abbrev pub and_mode : Combination → Bool
and_mode Or = false
and_mode Exor = false
and_mode Mode-And = true
and_mode Attribute = false

-- operation 6 with 2
abbrev pub is_and : Operation → Bool
is_and (text line column codes) = false
is_and (rectangle top column height width value) = false
is_and (dot x y on) = false
is_and (glyph code rows) = false
is_and (cursor line column height blink) = false
is_and (combine k) = and_mode k

unfoldable pub uses_and : List Operation → Bool
uses_and [] = false
uses_and (o ∷ os) = is_and o || uses_and os

-- a body's operations, or the byte of its first one that is unknown, cut or out of range
abbrev pub body_read : Screen → BodyRead
body_read (screen os) = cond (uses_and os) Body-And Body-Plain
body_read (refused n place) = Body-Faulty place

-- a faulty operation anywhere comes before AND
abbrev pub and_before : ℕ → BodiesRead → BodiesRead
and_before i Plain = And i
and_before i (And later) = And i
and_before i (Faulty place) = Faulty place

abbrev pub read_before : BodyRead → ℕ → BodiesRead → BodiesRead
read_before Body-Plain i rest = rest
read_before Body-And i rest = and_before i rest
read_before (Body-Faulty place) i rest = Faulty place

-- the first faulty operation; else the first screen with AND, the first of them being i
abbrev pub bodies_read : Panel → List ℕ → ℕ → List Body → BodiesRead
bodies_read p book i [] = Plain
bodies_read p book i (b ∷ bs) =
    read_before (body_read (operations_from (b.end - b.start) p book b.start b.end)) i (bodies_read p book (i + 1) bs)
