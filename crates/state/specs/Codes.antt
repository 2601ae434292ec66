-- The bytes that stand for combinations and auto modes.
use Rattle.std.specs.Prelude.{ℕ}
use Rattle.state.specs.Types.{Combination, Or, Exor, And, Attribute, Auto, Off, Write, Read}

-- 0 OR, 1 EXOR, 2 AND, 3 attribute
abbrev pub combination_byte : Combination → ℕ
combination_byte Or = 0
combination_byte Exor = 1
combination_byte And = 2
combination_byte Attribute = 3

-- 0 off, 1 write, 2 read
abbrev pub auto_byte : Auto → ℕ
auto_byte Off = 0
auto_byte Write = 1
auto_byte Read = 2
