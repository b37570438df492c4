-- The language's count of ones is the plain count. Assumes nothing.
use mathlib.Core.Path.{◌≡◌, ap, ◌∙◌}
use Prim.Native.Nat.{ℕ, zero, suc, ◌+◌, ◌/◌, ◌%◌, ◌^◌, ◌<◌}
use native.Mathlib.Numerals.{add-one}
use native.Mathlib.Omega.{arith}
use lib.Count.{ones, ones_step}
use lib.Pow.{shr_lt}
use Rattle.verifier.specs.Executables.{ones_in}

pub ones_in_lem : (k n : ℕ) → n < 2 ^ k → ones n ≡ ones_in k n
unfolding ones ones_in lib.Count.ones_in
ones_in_lem zero n h = let e : n ≡ 0 = omega arith in rw e
ones_in_lem (suc k) n h =
    let g : n < 2 ^ (k + 1) = rw (add-one k) h in
    ones_step n ∙ ap (λ (m : ℕ). n % 2 + m) (ones_in_lem k (n / 2) (shr_lt k 1 g))
