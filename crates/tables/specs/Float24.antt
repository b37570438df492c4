-- Float24: '1 sign, 7 exponent e and 16 fraction bits f, bias 63' (document 01, 'Layout of a library',
-- Constants).
-- Assumes nothing.
use Rattle.std.specs.Prelude.{ℕ, ◌+◌, ◌*◌, ◌^◌, Bool, ◌&&◌, ◌||◌, cond, eqb, leb}
use Rattle.bits.specs.Fields.{field}

-- the fields of a word of the file, from bit 0 up
abbrev pub fraction : ℕ → ℕ
fraction w = field 0 16 w

abbrev pub exponent : ℕ → ℕ
exponent w = field 16 7 w

abbrev pub sign : ℕ → ℕ
sign w = field 23 1 w

abbrev pub top_byte : ℕ → ℕ
top_byte w = field 24 8 w

-- 'Its top byte in the file is 0'; 'For e from 1 to 126'; 'e=0 with f=0 is a zero'; 'Other e=0 words and
-- e=127 are refused'
unfoldable pub good_float24 : ℕ → Bool
good_float24 w = eqb (top_byte w) 0 && (leb 1 (exponent w) && leb (exponent w) 126 || eqb (exponent w) 0 && eqb (fraction w) 0)

-- the bits of the f32: 'the same sign, exponent e+64 and fraction 128f', or 'a zero of that sign'
unfoldable pub f32_bits : ℕ → ℕ
f32_bits w = cond (eqb (exponent w) 0) (sign w * 2 ^ 31) (sign w * 2 ^ 31 + (exponent w + 64) * 2 ^ 23 + fraction w * 128)
