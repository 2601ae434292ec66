-- A picture as it is lent: three planes and a style; and what inner routines rest on.
use Rattle.std.specs.Prelude.{ℕ, ◌-◌, ◌*◌, ◌≡◌, true, List, length}
use Rattle.state.specs.declared.panel.Panel.{Panel}
use Rattle.state.specs.State.{valid_panel}
use Rattle.state.specs.Sizes.{cell_count}
use Rattle.book.specs.Operation.{Operation}
use Rattle.book.specs.Screen.{Screen, screen, refused, operations_from}
use Rattle.picture.specs.declared.style.Style.{Style}
use Rattle.picture.specs.Laid.{laid}
use Rattle.picture.specs.Picture.{Picture, applied_all}

abbrev pub picture_with : List ℕ → List ℕ → List ℕ → Style → Picture
picture_with graphic codes glyphs s =
    record { graphic = graphic; codes = codes; glyphs = glyphs; combination = s.combination; cursor = laid s.cursor }

-- planes of C·8L, C·L and 1,024 bytes
abbrev pub graphic_bytes : Panel → ℕ
graphic_bytes p = 8 * p.lines * p.columns

pub record Sized (p : Panel) (g t h : List ℕ) : Type 0 where
  pub graphic : length g ≡ graphic_bytes p
  pub codes : length t ≡ cell_count p
  pub glyphs : length h ≡ 1024

-- a valid panel, a place on it, and the plane that the place is in
pub record InPlane (p : Panel) (Range : Type 0) (size : ℕ) (plane : List ℕ) : Type 0 where
  pub valid : valid_panel p ≡ true
  pub range : Range
  pub sized : length plane ≡ size

-- the operations of a screen applied, none where it was refused
abbrev pub applied_in : Panel → Screen → Picture → Picture
applied_in p (screen os) a = applied_all p os a
applied_in p (refused n place) a = a

-- a body on a valid panel, none of its operations faulty
pub record DrawableBody (p : Panel) (book : List ℕ) (start end : ℕ) : Type 0 where
  pub panel : valid_panel p ≡ true
  pub os : List Operation
  pub operations : operations_from (end - start) p book start end ≡ screen os
