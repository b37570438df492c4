-- Bit fields, by position and width. A layout is a list of widths, from bit 0 up. Document 01, 'What a
-- statement has to tie down'.
-- Assumes nothing.
use Rattle.std.specs.Prelude.{ℕ, ◌+◌, ◌*◌, ◌/◌, ◌%◌, ◌^◌, Bool, true, false, ◌&&◌, List, [], ◌∷◌, ltb}

-- the width bits of w from bit pos on
abbrev pub field : ℕ → ℕ → ℕ → ℕ
field pos width w = w / 2 ^ pos % 2 ^ width

-- how many bits the layout has
abbrev pub total : List ℕ → ℕ
total [] = 0
total (n ∷ ns) = total ns + n

-- the fields of w at the layout, the first from bit pos on
abbrev pub fields_from : ℕ → List ℕ → ℕ → List ℕ
fields_from pos [] w = []
fields_from pos (n ∷ ns) w = field pos n w ∷ fields_from (pos + n) ns w

-- the word that has these fields at the layout
abbrev pub pack : List ℕ → List ℕ → ℕ
pack [] fs = 0
pack (n ∷ ns) [] = 0
pack (n ∷ ns) (f ∷ fs) = pack ns fs * 2 ^ n + f

-- as many fields as widths, and no field exceeds its bits
abbrev pub fit : List ℕ → List ℕ → Bool
fit [] [] = true
fit [] (f ∷ fs) = false
fit (n ∷ ns) [] = false
fit (n ∷ ns) (f ∷ fs) = ltb f (2 ^ n) && fit ns fs
