-- 02, Req 14: the short stream from one picture to another, and its pairs.
use Rattle.std.specs.Prelude.{ℕ, suc, ◌+◌, ◌*◌, cond, List, [], ◌∷◌, ◌++◌, eqb}
use Rattle.state.specs.declared.panel.Panel.{Panel}
use Rattle.book.specs.Operation.{cursor}
use Rattle.writer.specs.Stream.{Pair, datum, code, graphic_home, text_home, glyph_home, point_to, combination_code, operation_pairs}
use Rattle.picture.specs.Laid.{Laid, Nowhere, Over}
use Rattle.picture.specs.Picture.{Picture}

-- pointer set, the new byte, C4H
unfoldable pub change_at : ℕ → ℕ → List Pair
change_at at b = point_to at ++ (datum b ∷ code 0xc4 ∷ [])

-- for every byte that differs, ascending from an address on
unfoldable pub changes_from : ℕ → List ℕ → List ℕ → List Pair
changes_from at [] ys = []
changes_from at (x ∷ xs) [] = []
changes_from at (x ∷ xs) (y ∷ ys) = cond (eqb x y) [] (change_at at y) ++ changes_from (suc at) xs ys

-- 9CH if there is no cursor, or the five cursor pairs as operation 5 writes them
abbrev pub end_pairs : Panel → Laid → List Pair
end_pairs p Nowhere = code 0x9c ∷ []
end_pairs p (Over k blink) = operation_pairs p (cursor k.y k.x k.height blink)

-- graphic bytes, text codes and glyph bytes against those of b, then b's mode code and its end
unfoldable pub short_over : Panel → List ℕ → List ℕ → List ℕ → Picture → List Pair
short_over p g t h b =
    changes_from graphic_home g b.graphic
    ++ (changes_from (text_home p) t b.codes
    ++ (changes_from glyph_home h b.glyphs
    ++ (code (combination_code b.combination) ∷ end_pairs p b.cursor)))

abbrev pub short_stream : Panel → Picture → Picture → List Pair
short_stream p a b = short_over p a.graphic a.codes a.glyphs b

-- how many bytes differ
unfoldable pub change_count : List ℕ → List ℕ → ℕ
change_count [] ys = 0
change_count (x ∷ xs) [] = 0
change_count (x ∷ xs) (y ∷ ys) = cond (eqb x y) 0 1 + change_count xs ys

-- plus 2, or plus 6 with a cursor
abbrev pub end_count : Laid → ℕ
end_count Nowhere = 2
end_count (Over k blink) = 6

-- 5 for each difference
unfoldable pub count_over : List ℕ → List ℕ → List ℕ → Picture → ℕ
count_over g t h b = 5 * (change_count g b.graphic + change_count t b.codes + change_count h b.glyphs) + end_count b.cursor

abbrev pub short_count : Picture → Picture → ℕ
short_count a b = count_over a.graphic a.codes a.glyphs b
