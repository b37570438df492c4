-- Laws of ranges. Assumes nothing.
use mathlib.Core.Path.{◌≡◌}
use Prim.Native.Nat.{ℕ, ◌-◌, ◌<◌, ◌≤◌, max}
use native.Mathlib.Omega.{arith}
use lib.Dec.{T, leb}
use Rattle.std.proofs.lemmas.Bool.Decides.{nat_tests}
use Rattle.binary.specs.Ranges.{end_of, inside, Holds, share}
use Rattle.binary.specs.declared.Range.{Range}

-- inside, by a difference
pub inside_by_difference : (r : Range) (n : ℕ) → r.size ≤ n → leb r.start.0 (n - r.size) ≡ inside r n
inside_by_difference r n h = grind (arith, nat_tests)

-- a range is inside exactly if its bytes are, unless it is empty
pub inside_bytes : (r : Range) (n : ℕ) → T (inside r n) → (k : ℕ) → Holds r k → k < n
inside_bytes r n t k h = grind (arith, nat_tests)

pub bytes_inside : (r : Range) (n : ℕ) → 0 < r.size → ((k : ℕ) → Holds r k → k < n) → T (inside r n)
bytes_inside r n full all = let last = all (end_of r - 1) (omega arith) in grind (arith, nat_tests)

-- what it takes to share a byte, as facts
pub record Shared (a b : Range) : Type 0 where
  pub full_a : 0 < a.size
  pub full_b : 0 < b.size
  pub a_first : a.start.0 < end_of b
  pub b_first : b.start.0 < end_of a

module _ (a b : Range) where
  pub shared : T (share a b) → Shared a b
  shared t = record { full_a = grind (arith, nat_tests); full_b = grind (arith, nat_tests); a_first = grind (arith, nat_tests); b_first = grind (arith, nat_tests) }

  -- ranges share a byte exactly if some byte is in both
  pub byte_of_both : T (share a b) → (k : ℕ) × (Holds a k × Holds b k)
  byte_of_both t = let s = shared t in (max a.start.0 b.start.0, omega arith)

  pub both_of_byte : (k : ℕ) → Holds a k → Holds b k → T (share a b)
  both_of_byte k p q = grind (arith, nat_tests)
