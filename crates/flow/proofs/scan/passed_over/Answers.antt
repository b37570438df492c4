-- `scan::passed_over` meets its contract. Assumes nothing.
use Prim.Native.Nat.{ℕ, ◌*◌, ◌^◌, ◌≤◌, ◌<◌}
use native.Mathlib.Nat.{mul-le-mul_right}
use native.Mathlib.Omega.{arith}
use Rattle.flow.proofs.scan.passed_over.Goals as goal

product : (w k : ℕ) → w ≤ 4294967295 → k < 2 ^ 32 → w * k ≤ 4294967295 * 4294967295
product w k h g = omega (arith, mul-le-mul_right k h)

pub overflow_mul-sum : goal.overflow_mul-sum
overflow_mul-sum c = record { fits = omega (arith, product c.args.part.weight c.args.cost.visits (omega arith) (omega arith)) }

pub overflow_add-sum : goal.overflow_add-sum
overflow_add-sum c = record { fits = omega (arith, c.ranges.total, product c.args.part.weight c.args.cost.visits (omega arith) (omega arith)) }
