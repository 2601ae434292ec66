-- A picture that is being made, as the definitions speak of it.
use Rattle.std.specs.Prelude.{◌≡◌}
use Rattle.picture.specs.declared.apply.Canvas.{Canvas}
use Rattle.picture.specs.Picture.{Picture}
use Rattle.picture.specs.Ready.{picture_with}

abbrev pub drawn : Canvas → Picture
drawn c = picture_with c.graphic.now c.codes.now c.glyphs.now c.style

-- still of that panel, and the same planes lent
pub record SamePlanes (a b : Canvas) : Type 0 where
  pub panel : b.panel ≡ a.panel
  pub graphic : b.graphic.ghost_name ≡ a.graphic.ghost_name
  pub codes : b.codes.ghost_name ≡ a.codes.ghost_name
  pub glyphs : b.glyphs.ghost_name ≡ a.glyphs.ghost_name
