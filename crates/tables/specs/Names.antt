-- Names: 'Uniform and label names start inside the symbol table and meet a 00 byte inside it' (document 01,
-- 'Layout of a library').
-- Assumes nothing.
use Rattle.std.specs.Prelude.{ℕ, ◌+◌, Bool, false, ◌&&◌, ◌||◌, cond, List, [], ◌∷◌, eqb, ltb, length, drop}

-- the bytes have a 00 among them
unfoldable pub meets0 : List ℕ → Bool
meets0 [] = false
meets0 (b ∷ s) = eqb b 0 || meets0 s

-- the name that starts at an offset of the symbol table
unfoldable pub good_name : List ℕ → ℕ → Bool
good_name symbols at = ltb at (length symbols) && meets0 (drop at symbols)

-- one past the index of the last 00 byte; 0 if there is none
unfoldable pub names_end : List ℕ → ℕ
names_end [] = 0
names_end (b ∷ s) = cond (meets0 s) (names_end s + 1) (cond (eqb b 0) 1 0)
