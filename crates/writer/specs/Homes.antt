-- 01, Screens: where a written screen has its three areas.
use Rattle.std.specs.Prelude.{ℕ, cond}
use Rattle.state.specs.declared.panel.Panel.{Panel}

abbrev pub graphic_home : ℕ
graphic_home = 0

-- in two halves the graphic area reaches past 4000H (02, Req 08); what is said of it stands in proofs/Apart.antt
unfoldable pub text_home : Panel → ℕ
text_home p = cond p.dual 0x8000 0x4000

-- the glyph of code 80H at offset 1FH: 2048·1FH + 8·80H = FC00H
abbrev pub glyph_home : ℕ
glyph_home = 0xfc00
