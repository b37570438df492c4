-- Laws of numbers in a list. Assumes nothing.
use mathlib.Core.Path.{◌≡◌, sym, ◌∙◌}
use mathlib.Core.List.{List, ◌++◌}
use Prim.Native.Nat.{ℕ, ◌+◌, ◌≤◌}
use native.Mathlib.Omega.{arith}
use lib.ListN.{length, drop}
use lib.Seq.{sets, sets-eq}

-- numbers at the start of a buffer
pub put_first : (old ns : List ℕ) → length ns ≤ length old → ns ++ drop (length ns) old ≡ sets old 0 ns
put_first old ns h =
    let z : 0 + length ns ≡ length ns = omega arith in
    sym (sets-eq ns old 0 (rw z h) ∙ rw z)
