-- Bits of a byte, bit 0 the least, and 16 bits given low byte first.
use Rattle.std.specs.Prelude.{ℕ, ◌+◌, ◌-◌, ◌*◌, ◌/◌, ◌%◌, ◌^◌, min, Bool, cond, bit_and, bit_or}

-- bit k of n
abbrev pub bit_of : ℕ → ℕ → ℕ
bit_of n k = n / 2 ^ k % 2

-- the byte n with bit k modulo 8 set or reset
abbrev pub with_bit : ℕ → ℕ → Bool → ℕ
with_bit n k on = cond on (bit_or n (2 ^ (k % 8))) (bit_and n (255 - 2 ^ (k % 8)))

-- the low w bits of a byte set
abbrev pub full_of : ℕ → ℕ
full_of w = 2 ^ min w 8 - 1

-- D1 + 256·D2
abbrev pub word_of : ℕ → ℕ → ℕ
word_of low high = low + 256 * high
