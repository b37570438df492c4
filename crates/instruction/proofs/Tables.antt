-- Two functions of a number are the same if antt computes the same list of their values below a limit, and
-- they are the same from there on: a table's rule, proved once. Assumes nothing.
use mathlib.Core.Path.{◌≡◌, refl, ap}
use mathlib.Core.Bool.{Bool, true, false}
use mathlib.Core.List.{List, [], ◌∷◌}
use Prim.Native.Nat.{ℕ, zero, suc, ◌+◌, ◌<◌, ◌≤◌}
use native.Mathlib.Omega.{arith}
use lib.Dec.{eqb, ltb}
use lib.ListN.{drop}
use borrow.Author.Tests.{eqb-true, eqb-false, ltb-true, ltb-false}

module _ {A : Type 0} where
  -- what a function gives at n numbers from lo on
  abbrev pub table_from : (ℕ → A) → ℕ → ℕ → List A
  table_from f lo zero = []
  table_from f lo (suc n) = f lo ∷ table_from f (suc lo) n

  pub same_on : (f g : ℕ → A) (lo n : ℕ) → table_from f lo n ≡ table_from g lo n → (k : ℕ) → lo ≤ k → k < lo + n → f k ≡ g k
  same_on f g lo zero e k h l = absurd (omega arith)
  same_on f g lo (suc n) e k h l = at (eqb k lo) refl (cc) (λ below. same_on f g (suc lo) n (ap (drop 1) e) k below (omega arith))
    where
      at : (b : Bool) → eqb k lo ≡ b → f lo ≡ g lo → (suc lo ≤ k → f k ≡ g k) → f k ≡ g k
      at true t here after = rw (eqb-true k lo t) here
      at false t here after = after (omega (arith, eqb-false k lo t))

  pub same_all : (f g : ℕ → A) (n : ℕ) → table_from f 0 n ≡ table_from g 0 n → ((k : ℕ) → n ≤ k → f k ≡ g k) → (k : ℕ) → f k ≡ g k
  same_all f g n e past k = by (ltb k n) refl
    where
      by : (b : Bool) → ltb k n ≡ b → f k ≡ g k
      by true t = same_on f g 0 n e k (omega arith) (omega (arith, ltb-true k n t))
      by false t = past k (ltb-false k n t)
