-- 01, A displayed byte: the table of the sixteen attribute codes, and what it does to a glyph row.
use Rattle.std.specs.Prelude.{ℕ, ◌+◌, ◌-◌, ◌%◌, ◌^◌, Bool, cond, not, ◌&&◌, List, length, ◌==◌, bit_and, bit_or, nat_le, nat_lt, slice_index}
use Rattle.ground.specs.Bytes.{full_of}
use Rattle.ground.specs.Lists.{build, round_byte}
use Rattle.state.specs.Types.{Manner, Normal, Reverse, Inhibit, Look}

-- the table: low three bits 5 reverse, 3 inhibit, else normal; bit 3 blinks (02, Req 04)
unfoldable pub look_of : ℕ → Look
look_of n =
    record {
      shown = cond (n % 8 == 5) Reverse (cond (n % 8 == 3) Inhibit Normal);
      blinks = nat_le 8 n;
    }

-- normal; reverse, w bits complemented; inhibit, 0
abbrev pub shown_as : Manner → ℕ → ℕ → ℕ
shown_as Normal w n = n
shown_as Reverse w n = 2 ^ w - 1 - n
shown_as Inhibit w n = 0

-- w bits under an attribute byte, whose low four bits are its code; blink shows 0 in phase off (H)
unfoldable pub attributed : ℕ → Bool → ℕ → ℕ → ℕ
attributed w normal attribute n =
    cond ((look_of (attribute % 16)).blinks && not normal) 0 (shown_as (look_of (attribute % 16)).shown w n)

-- what it makes, in one phase, of w bits that are all set under each of the sixteen codes; then again, of all reset
abbrev pub shades_of : ℕ → Bool → List ℕ
shades_of w normal = build 32 (λ n. attributed w normal n (cond (nat_lt n 16) (2 ^ w - 1) 0))

-- n of all dots under a code of such a table: those that are set as it has them of all set, the others as of all reset
abbrev pub shaded : List ℕ → ℕ → ℕ → ℕ → ℕ
shaded shades all code n = bit_or (bit_and n (slice_index shades code)) (bit_and ((all + 256 - n) % 256) (slice_index shades (code + 16)))

-- cell j of w dots, its code the low four bits of byte j from an address on, round
abbrev pub shaded_at : ℕ → List ℕ → ℕ → List ℕ → List ℕ → ℕ → ℕ
shaded_at w mem start shades cells j = shaded shades (full_of w) (round_byte 4 mem start j) (slice_index cells j)

-- all cells so; another length of memory or table leaves them as they were
unfoldable pub shaded_round : ℕ → List ℕ → ℕ → List ℕ → List ℕ → List ℕ
shaded_round w mem start shades cells =
    cond (length mem == 65536 && length shades == 32) (build (length cells) (shaded_at w mem start shades cells)) cells
