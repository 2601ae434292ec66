-- 01, Bus pairs: the 66 defined codes, taken apart by their high and low four bits.
use Rattle.std.specs.Prelude.{ℕ, ◌+◌, ◌/◌, ◌%◌, Bool, true, false, cond, ltb, eqb}
use Rattle.ground.specs.Bytes.{bit_of}
use Rattle.codes.specs.Types.{Or, Exor, And, Attribute, Auto, Off, Write, Read, Cursor, Offset, Pointer, TextHome, TextArea, GraphicHome, GraphicArea, Up, Down, Stay, Command, Set, Mode, DisplayMode, Height, Run, Store, Load, Peek, Copy, Bit, Decoded, Defined, Undefined}

-- bit k of a code
abbrev pub has : ℕ → ℕ → Bool
has low k = eqb (bit_of low k) 1

-- 21H, 22H, 24H
abbrev pub register_of : ℕ → Decoded
register_of low =
    cond (eqb low 1) (Defined (Set Cursor))
    (cond (eqb low 2) (Defined (Set Offset))
    (cond (eqb low 4) (Defined (Set Pointer))
    Undefined))

-- 40H to 43H
abbrev pub control_of : ℕ → Decoded
control_of low =
    cond (eqb low 0) (Defined (Set TextHome))
    (cond (eqb low 1) (Defined (Set TextArea))
    (cond (eqb low 2) (Defined (Set GraphicHome))
    (cond (eqb low 3) (Defined (Set GraphicArea))
    Undefined)))

-- 80H-8FH: bit 3 external; low bits 0 OR, 1 EXOR, 3 AND, 4 attribute; 2, 5, 6, 7 undefined (H)
abbrev pub mode_of : ℕ → Decoded
mode_of low =
    cond (eqb (low % 8) 0) (Defined (Mode (has low 3) Or))
    (cond (eqb (low % 8) 1) (Defined (Mode (has low 3) Exor))
    (cond (eqb (low % 8) 3) (Defined (Mode (has low 3) And))
    (cond (eqb (low % 8) 4) (Defined (Mode (has low 3) Attribute))
    Undefined)))

-- 90H-9FH: bit 3 graphic, 2 text, 1 cursor, 0 cursor blink
abbrev pub display_mode_of : ℕ → Decoded
display_mode_of low =
    Defined (DisplayMode (record { graphic = has low 3; text = has low 2; cursor = has low 1; blink = has low 0 }))

-- A0H-A7H: cursor height 1 to 8
abbrev pub height_of : ℕ → Decoded
height_of low = cond (ltb low 8) (Defined (Height (low + 1))) Undefined

-- B0H, B1H, B2H: auto write, auto read, auto off
abbrev pub auto_code_of : ℕ → Decoded
auto_code_of low =
    cond (eqb low 0) (Defined (Run Write))
    (cond (eqb low 1) (Defined (Run Read))
    (cond (eqb low 2) (Defined (Run Off))
    Undefined))

-- C0H, C2H, C4H store, C1H, C3H, C5H load; then +1, -1, 0
abbrev pub transfer_of : ℕ → Decoded
transfer_of low =
    cond (eqb low 0) (Defined (Store Up))
    (cond (eqb low 1) (Defined (Load Up))
    (cond (eqb low 2) (Defined (Store Down))
    (cond (eqb low 3) (Defined (Load Down))
    (cond (eqb low 4) (Defined (Store Stay))
    (cond (eqb low 5) (Defined (Load Stay))
    Undefined)))))

-- E0H peek, E8H copy
abbrev pub sight_code_of : ℕ → Decoded
sight_code_of low = cond (eqb low 0) (Defined Peek) (cond (eqb low 8) (Defined Copy) Undefined)

-- F0H-FFH: F0H up reset, F8H up set, the bit (code mod 8)
abbrev pub bit_code_of : ℕ → Decoded
bit_code_of low = Defined (Bit (has low 3) (low % 8))

abbrev pub group_of : ℕ → ℕ → Decoded
group_of high low =
    cond (eqb high 2) (register_of low)
    (cond (eqb high 4) (control_of low)
    (cond (eqb high 8) (mode_of low)
    (cond (eqb high 9) (display_mode_of low)
    (cond (eqb high 10) (height_of low)
    (cond (eqb high 11) (auto_code_of low)
    (cond (eqb high 12) (transfer_of low)
    (cond (eqb high 14) (sight_code_of low)
    (cond (eqb high 15) (bit_code_of low)
    Undefined))))))))

abbrev pub decode_of : ℕ → Decoded
decode_of code = group_of (code / 16) (code % 16)

-- the column Data
abbrev pub needed_of : Command → ℕ
needed_of (Set t) = 2
needed_of (Mode e k) = 0
needed_of (DisplayMode s) = 0
needed_of (Height h) = 0
needed_of (Run a) = 0
needed_of (Store m) = 1
needed_of (Load m) = 0
needed_of Peek = 0
needed_of Copy = 0
needed_of (Bit s k) = 0

abbrev pub is_off : Auto → Bool
is_off Off = true
is_off Write = false
is_off Read = false

-- B2H, the one code taken in auto
abbrev pub ends_auto : Command → Bool
ends_auto (Set t) = false
ends_auto (Mode e k) = false
ends_auto (DisplayMode s) = false
ends_auto (Height h) = false
ends_auto (Run a) = is_off a
ends_auto (Store m) = false
ends_auto (Load m) = false
ends_auto Peek = false
ends_auto Copy = false
ends_auto (Bit s k) = false
