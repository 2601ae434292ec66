-- What is worked out of the attribute table and of the glyphs before a row is laid.
use Rattle.std.specs.Prelude.{◌≡◌, true, List, ℕ, ◌/◌, ◌%◌}
use Rattle.state.specs.Attribute.{shades_of}
use Rattle.state.specs.Combination.{is_attribute}
use Rattle.ground.specs.Lists.{build}
use Rattle.display.specs.Types.{Panel, Display}
use Rattle.display.specs.Displayed.{glyph_row}

-- in attribute mode; else it is not read
pub record Shaded (p : Panel) (d : Display) (shades : List ℕ) : Type 0 where
  pub made : is_attribute d.combination ≡ true → shades ≡ shades_of p.width d.phase

-- the glyph rows of all 256 codes, eight of each
unfoldable pub font_of : Display → List ℕ → List ℕ → List ℕ
font_of d mem rom = build 2048 (λ i. glyph_row d mem rom (i / 8) (i % 8))

-- a list of them: it is the same made of itself for the ROM, so that whatever is read of it may be said of it as of a ROM
abbrev pub IsFont : Display → List ℕ → List ℕ → Type 0
IsFont d mem font = font ≡ font_of d mem font
