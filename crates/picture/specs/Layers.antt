-- 01, A displayed byte, of a picture: its two layers, each over the planes that it reads.
use Rattle.std.specs.Prelude.{ℕ, ◌+◌, ◌-◌, ◌*◌, ◌/◌, ◌%◌, ◌^◌, cond, List, ltb, get_or}
use Rattle.state.specs.declared.panel.Panel.{Panel}

-- codes below 80H from the ROM
unfoldable pub glyph_in : List ℕ → List ℕ → ℕ → ℕ → ℕ
glyph_in rom glyphs k v = cond (ltb k 0x80) (get_or rom (8 * k + v) 0) (get_or glyphs (8 * (k - 0x80) + v) 0)

-- the low w bits of the glyph row of the cell's code
unfoldable pub plane_text : Panel → List ℕ → List ℕ → List ℕ → ℕ → ℕ → ℕ
plane_text p rom codes glyphs r c = glyph_in rom glyphs (get_or codes (r / 8 * p.columns + c) 0) (r % 8) % 2 ^ p.width

-- the low w bits of the graphic byte
unfoldable pub plane_graphic : Panel → List ℕ → ℕ → ℕ → ℕ
plane_graphic p graphic r c = get_or graphic (r * p.columns + c) 0 % 2 ^ p.width
