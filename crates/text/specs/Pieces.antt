-- Pieces of text (document 01, 'Listing and report'): strings, digits, numbers.
-- Assumes nothing.
use Rattle.std.specs.Prelude.{ℕ, zero, suc, ◌-◌, ◌/◌, ◌%◌, cond, List, [], ◌∷◌, ◌++◌, ltb, eqb, length, get_or, replicate}
use Prim.Native.Char.{code}
use Prim.Native.String.{String, len, char_at}
use Rattle.instruction.specs.Operations.{Operation, operations}

-- the bytes of a string, from a place on
abbrev pub bytes_from : ℕ → ℕ → String → List ℕ
bytes_from zero i s = []
bytes_from (suc n) i s = code (char_at s i) ∷ bytes_from n (suc i) s

abbrev pub bytes : String → List ℕ
bytes s = bytes_from (len s) 0 s

-- a text, and spaces after it up to a width
abbrev pub padded : ℕ → List ℕ → List ℕ
padded width p = p ++ replicate (width - length p) 0x20

-- a digit, of base 16 at most
abbrev pub digit : ℕ → ℕ
digit n = get_or (bytes "0123456789ABCDEF") n 0

-- 'Hex is upper case, zero-filled': the lowest digits of n in a base, as many as the width says
unfoldable pub digits : ℕ → ℕ → ℕ → List ℕ
digits base zero n = []
digits base (suc k) n = digits base k (n / base) ++ digit (n % base) ∷ []

-- a register's number or a flag, in decimal without zeros before it; none has more than two digits
unfoldable pub decimal : ℕ → List ℕ
decimal n = cond (ltb n 10) (digits 10 1 n) (digits 10 2 n)

unfoldable pub lettered : ℕ → ℕ → List ℕ
lettered letter n = letter ∷ [] ++ decimal n

-- a label of the report, and its number zero-filled
unfoldable pub labelled : List ℕ → ℕ → ℕ → List ℕ
labelled label width n = label ++ digits 10 width n

-- the name of the operation numbered op; none if the list has no such number
abbrev pub name_in : List Operation → ℕ → List ℕ
name_in [] op = []
name_in (o ∷ os) op = cond (eqb op o.lowest) (bytes o.name) (name_in os op)

-- .. in seven columns
unfoldable pub name_text : ℕ → List ℕ
name_text op = padded 7 (name_in operations op)
