-- 02, Req 05: the rows for which an address is a text, glyph or graphic byte (in attribute mode an attribute byte and no graphic byte).
use Rattle.std.specs.Prelude.{ℕ, zero, suc, ◌+◌, ◌*◌, ◌/◌, ◌%◌, Bool, false, cond, ◌&&◌, ◌||◌, List, ◌==◌, nat_eq}
use Rattle.state.specs.Combination.{is_attribute}
use Rattle.state.specs.Address.{address_of}
use Rattle.display.specs.Displayed.{text_code}
use Rattle.display.specs.Layers.{from_memory}
use Rattle.stores.specs.Stores.{from_address}
use Rattle.touch.specs.Types.{Panel, Plane, Combination, Display}

-- one of f 0, f 1, .., n of them
unfoldable pub any_of : ℕ → (ℕ → Bool) → Bool
any_of zero f = false
any_of (suc n) f = any_of n f || f n

-- a byte of one of C columns: home + row·area + c
unfoldable pub in_row : Plane → ℕ → ℕ → ℕ → Bool
in_row q row C a = any_of C (λ c. nat_eq a (address_of q row c))

-- a code's glyph byte in dot row v, where it stands in memory: 2048·offset + 8·code + v
unfoldable pub glyph_byte_at : Display → ℕ → ℕ → ℕ → Bool
glyph_byte_at d code v a = from_memory d code && a == 2048 * d.offset + 8 * code + v

-- one of the codes of dot row r's line
unfoldable pub glyph_at : Panel → Display → List ℕ → ℕ → ℕ → Bool
glyph_at p d mem r a = any_of p.columns (λ c. glyph_byte_at d (text_code d mem (r / 8) c) (r % 8) a)

-- a graphic byte stands by its dot row, an attribute byte by its line
abbrev pub plane_row : Combination → ℕ → ℕ
plane_row k r = cond (is_attribute k) (r / 8) r

-- layers on or off: no display bit is asked
unfoldable pub touches : Panel → Display → List ℕ → ℕ → ℕ → Bool
touches p d mem r a =
    in_row d.text (r / 8) p.columns a || (glyph_at p d mem r a || in_row d.graphic (plane_row d.combination r) p.columns a)

-- one of n addresses from an address on
unfoldable pub touched_by : Panel → Display → List ℕ → ℕ → ℕ → ℕ → Bool
touched_by p d mem at n r = any_of n (λ j. touches p d mem r (from_address at j))

-- the glyph byte as it was before the stores, and as it is after
unfoldable pub touched : Panel → Display → List ℕ → List ℕ → ℕ → ℕ → ℕ → Bool
touched p d mem memory at n r = touched_by p d mem at n r || touched_by p d memory at n r
