-- Calls of a closure, one for each of a list. Assumes nothing.
use Rattle.std.proofs.Common.{◌≡◌, ℕ, ◌+◌, List, ◌++◌, [], ◌∷◌, length, arith, length-append}
use Rattle.std.proofs.lemmas.Fn.{FoldsTo-push}
use Rattle.std.specs.List.{FoldsTo}

-- one more call
pub called_next : {P A : Type 0} (R : P → A → P → Type 0) (p : P) {q u : P} {x : A} {n k : ℕ} → n + 1 ≡ k → (xs : List A) × (length xs ≡ n) × FoldsTo R p xs q → R q x u
    → (xs : List A) × (length xs ≡ k) × FoldsTo R p xs u
called_next R p {x = x} e (xs, l, t) h = (xs ++ x ∷ [], omega (arith, length-append xs (x ∷ [])), FoldsTo-push R p xs _ x _ t h)
