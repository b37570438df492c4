-- Lists that are filled from their start on: the words of a program, the reports of a library.
-- Assumes nothing.
use Rattle.std.specs.Prelude.{ℕ, zero, suc, ◌+◌, ◌-◌, List, [], ◌∷◌, ◌++◌, replicate}

-- f at i, i + 1, .., n in all
unfoldable pub list_of {ℓ} : {A : Type ℓ} → (ℕ → A) → ℕ → ℕ → List A
list_of f i zero = []
list_of f i (suc n) = f i ∷ list_of f (i + 1) n

-- the same, n at most m, and z after them up to a length of m
abbrev pub filled {ℓ} : {A : Type ℓ} → (ℕ → A) → ℕ → ℕ → ℕ → A → List A
filled f i m n z = list_of f i n ++ replicate (m - n) z
