-- What the inner routines rest on.
use Rattle.std.specs.Prelude.{◌≡◌, true, List, ℕ, ◌+◌, ◌*◌, ◌≤◌, length}
use Rattle.state.specs.declared.panel.Panel.{Panel}
use Rattle.state.specs.State.{valid_panel}
use Rattle.book.specs.Range.{CursorRange}
use Rattle.writer.specs.declared.put.Stream.{Stream}
use Rattle.writer.specs.Put.{RoomFor}
use Rattle.picture.specs.Laid.{Laid, Nowhere, Over}
use Rattle.picture.specs.declared.style.Style.{Style}
use Rattle.picture.specs.Ready.{Sized, picture_with}
use Rattle.difference.specs.declared.changes.Planes.{Planes}
use Rattle.picture.specs.Picture.{Picture}
use Rattle.difference.specs.Short.{change_count, count_over, end_count}

-- two planes of one length at a home, with room for their changes
pub record Changing (home : ℕ) (old new : List ℕ) (a : Stream) : Type 0 where
  pub same : length old ≡ length new
  pub low : home + length new ≤ 65536
  pub fits : RoomFor (5 * change_count old new) a

-- a cursor laid is in range
abbrev pub LaidRange : Panel → Laid → Type 0
LaidRange p Nowhere = Unit {0}
LaidRange p (Over k blink) = CursorRange p k.y k.x k.height

pub record Ending (p : Panel) (cursor : Laid) (a : Stream) : Type 0 where
  pub valid : valid_panel p ≡ true
  pub range : LaidRange p cursor
  pub fits : RoomFor (end_count cursor) a

-- a picture by its planes and its style
abbrev pub picture_from : Planes → Style → Picture
picture_from b style = picture_with b.graphic.now b.codes.now b.glyphs.now style

-- the planes of two pictures of a panel
pub record Between (p : Panel) (a : Planes) (b : Picture) : Type 0 where
  pub valid : valid_panel p ≡ true
  pub old : Sized p a.graphic.now a.codes.now a.glyphs.now
  pub new : Sized p b.graphic b.codes b.glyphs
  pub range : LaidRange p b.cursor

pub record BetweenRoomy (p : Panel) (a : Planes) (b : Picture) (s : Stream) : Type 0 where
  pub both : Between p a b
  pub fits : RoomFor (count_over a.graphic.now a.codes.now a.glyphs.now b) s
