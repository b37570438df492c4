-- What a test for 29 says: the index is below the count, or it is not and the refusal is that of 29. Assumes
-- nothing.
use mathlib.Core.Path.{◌≡◌, refl}
use mathlib.Core.Bool.{Bool, true, false, cond}
use Prim.Native.Nat.{ℕ, ◌≤◌, ◌<◌}
use native.Mathlib.Omega.{arith}
use lib.Dec.{ltb}
use borrow.Author.Tests.{ltb-true, ltb-false}
use Rattle.answer.specs.Answers.{given, refused, or_missing}

module _ {A : Type 0} (i n : ℕ) (a : A) where
  pub there : given a ≡ or_missing i n (given a) → i < n
  there e = by (ltb i n) refl e
    where
      by : (b : Bool) → ltb i n ≡ b → given a ≡ cond b (given a) (refused 29 0) → i < n
      by true t e = ltb-true i n t
      by false t e = absurd (let z : ◌≡◌ {A = ℕ} 0 1 = cc in omega arith)

  pub missing : {k p : ℕ} → refused k p ≡ or_missing i n (given a) → (n ≤ i) × (k ≡ 29) × (p ≡ 0)
  missing {k} {p} e = by (ltb i n) refl e
    where
      by : (b : Bool) → ltb i n ≡ b → refused k p ≡ cond b (given a) (refused 29 0) → (n ≤ i) × (k ≡ 29) × (p ≡ 0)
      by true t e = absurd (let z : ◌≡◌ {A = ℕ} 0 1 = cc in omega arith)
      by false t e = (ltb-false i n t, cc, cc)
