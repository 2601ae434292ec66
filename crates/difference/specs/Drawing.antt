-- A screen drawn: three planes, as a panel has them, and a style.
use Rattle.std.specs.Prelude.{◌≡◌, true, length, List, ℕ, take, Result, Ok, Err}
use Rattle.state.specs.declared.panel.Panel.{Panel}
use Rattle.state.specs.declared.refusal.Refused.{Refused}
use Rattle.state.specs.Refusals.{number_of}
use Rattle.state.specs.State.{valid_panel}
use Rattle.state.specs.Sizes.{cell_count}
use Rattle.book.specs.Operation.{Operation}
use Rattle.book.specs.Screen.{Screen, screen, refused}
use Rattle.picture.specs.Picture.{Picture, picture_of}
use Rattle.picture.specs.Ready.{Sized, graphic_bytes, picture_with}
use Rattle.picture.specs.declared.style.Style.{Style}
use Rattle.difference.specs.declared.changes.Planes.{Planes}
use Rattle.difference.specs.declared.write.Drawn.{Drawn}
use Rattle.difference.specs.Differing.{LaidRange}

pub record Three : Type 0 where
  pub graphic : List ℕ
  pub codes : List ℕ
  pub glyphs : List ℕ

abbrev pub planes_now : Planes → Three
planes_now a = record { graphic = a.graphic.now; codes = a.codes.now; glyphs = a.glyphs.now }

-- the planes' bytes that a panel has
abbrev pub planes_in : Panel → Drawn → Three
planes_in p d = record { graphic = take (graphic_bytes p) d.graphic; codes = take (cell_count p) d.codes; glyphs = d.glyphs }

abbrev pub picture_in : Panel → Drawn → Picture
picture_in p d = let x = planes_in p d in picture_with x.graphic x.codes x.glyphs d.style

-- the picture of a screen that is there
pub record DrawnScreen (p : Panel) (s : Screen) (d : Drawn) : Type 0 where
  pub os : List Operation
  pub whole : s ≡ screen os
  pub is : picture_in p d ≡ picture_of p os
  pub sized : Sized p (picture_in p d).graphic (picture_in p d).codes (picture_in p d).glyphs
  pub range : LaidRange p (picture_in p d).cursor

-- or the screen's refusal: planes and a style drawn
abbrev pub DrawsOver : Panel → Screen → Result Style Refused → List ℕ → List ℕ → List ℕ → Type 0
DrawsOver p s (Ok r) g t h = DrawnScreen p s (record { graphic = g; codes = t; glyphs = h; style = r })
DrawsOver p s (Err e) g t h = s ≡ refused (number_of e.refusal) e.place

-- and all of them drawn in place
abbrev pub Draws : Panel → Screen → Result (Unit {0}) Refused → Drawn → Type 0
Draws p s (Ok _) d = DrawnScreen p s d
Draws p s (Err e) d = s ≡ refused (number_of e.refusal) e.place

-- a valid panel, and room for any panel's planes
pub record Fronts (p : Panel) (g t h : List ℕ) : Type 0 where
  pub valid : valid_panel p ≡ true
  pub graphic : length g ≡ 20480
  pub codes : length t ≡ 2560
  pub glyphs : length h ≡ 1024
