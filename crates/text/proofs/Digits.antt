-- Digits from the last: one more of them stands before the others. Assumes nothing.
use Rattle.std.proofs.Common.{◌≡◌, ℕ, suc, ◌+◌, ◌-◌, ◌/◌, ◌%◌, ◌<◌, List, ◌∷◌, [], ◌++◌, set, take, length, reverse, arith, append_assoc}
use Rattle.std.proofs.lemmas.List.{reverse-append, take_more_set}
use Rattle.text.specs.Pieces.{digit, digits}

pub one_more : (base width i n : ℕ) (out all : List ℕ) → length out ≡ width → i < width → digits base (width - i) n ++ reverse (take i out) ≡ all
    → digits base (width - (i + 1)) (n / base) ++ reverse (take (i + 1) (set out i (digit (n % base)))) ≡ all
unfolding digits
one_more base width i n out all h k e =
    let a : width - i ≡ suc (width - (i + 1)) = omega arith in
    let t : take (i + 1) (set out i (digit (n % base))) ≡ take i out ++ digit (n % base) ∷ [] = take_more_set out i _ (omega arith) in
    rw (t, reverse-append (take i out) (digit (n % base) ∷ [])) (rw append_assoc at (rw a at e))
