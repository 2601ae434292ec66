-- What inner routines rest on, tested once at the door.
use Rattle.std.specs.Prelude.{ℕ, ◌*◌, ◌<◌}
use Rattle.state.specs.declared.panel.Panel.{Panel}
use Rattle.picture.specs.Picture.{picture_cell}
use Rattle.picture.specs.Ready.{picture_with}
use Rattle.painter.specs.declared.scene.Scene.{Scene}

-- a dot row and a column of the panel
pub record OnPanel (p : Panel) (row column : ℕ) : Type 0 where
  pub down : row < 8 * p.lines
  pub across : column < p.columns

-- the byte of a cell in a dot row
abbrev pub shown : Scene → ℕ → ℕ → ℕ
shown s = picture_cell s.panel s.rom.now (picture_with s.graphic.now s.codes.now s.glyphs.now s.style) s.phase
