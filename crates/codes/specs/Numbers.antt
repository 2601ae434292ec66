-- 01, Bus pairs, and Numbers returned: which codes are defined, and the number of one that is not.
use Rattle.std.specs.Prelude.{ℕ, ◌%◌, Bool, cond, not, ◌&&◌, ◌||◌, leb, eqb}
use Rattle.codes.specs.Types.{Decoded, Defined, Undefined}

abbrev pub between : ℕ → ℕ → ℕ → Bool
between low high code = leb low code && leb code high

-- the column Codes, row by row: 66 of them
unfoldable pub defined_code : ℕ → Bool
defined_code code =
    eqb code 0x21 || eqb code 0x22 || eqb code 0x24 || between 0x40 0x43 code
    || (between 0x80 0x8f code && not (eqb (code % 8) 2) && leb (code % 8) 4)
    || between 0x90 0x9f code || between 0xa0 0xa7 code || between 0xb0 0xb2 code || between 0xc0 0xc5 code
    || eqb code 0xe0 || eqb code 0xe8 || between 0xf0 0xff code

-- 4 undefined code
abbrev pub code_number : ℕ → ℕ
code_number code = cond (defined_code code) 0 4

-- the number of an answer
abbrev pub decoded_number : Decoded → ℕ
decoded_number (Defined command) = 0
decoded_number Undefined = 4
