-- Reading tests that passed, and choices. Assumes nothing.
use mathlib.Core.Path.{◌≡◌, refl}
use mathlib.Core.Bool.{Bool, true, false, not, ◌&&◌, ◌||◌}
use Prim.Native.Nat.{ℕ}
use native.Mathlib.Omega.{arith}
use Rattle.answer.specs.Faults.{fault_if, or_else}
use Rattle.answer.specs.Faults.{Fault}
use Rattle.answer.specs.Faults.{Nothing}
use Rattle.flow.specs.Rules.{pick}

-- two constructors are not equal: `cc` finds the contradiction, and anything follows
pub apart : {A : Type 0} → ◌≡◌ {A = ℕ} 0 1 → A
apart z = absurd (omega arith)

pub true_not_false : ◌≡◌ {A = Bool} true false → ⊥
true_not_false e = let z : ◌≡◌ {A = ℕ} 0 1 = cc in omega arith

pub false_not_true : ◌≡◌ {A = Bool} false true → ⊥
false_not_true e = let z : ◌≡◌ {A = ℕ} 0 1 = cc in omega arith

pub not_bad : (b : Bool) → not b ≡ false → b ≡ true
not_bad true e = refl
not_bad false e = absurd (true_not_false e)

pub not_true : (b : Bool) → not b ≡ true → b ≡ false
not_true true e = absurd (false_not_true e)
not_true false e = refl

pub both : (a b : Bool) → (a && b) ≡ true → (a ≡ true) × (b ≡ true)
both true b e = (refl, e)
both false b e = absurd (false_not_true e)

pub neither : (a b : Bool) → (a || b) ≡ false → (a ≡ false) × (b ≡ false)
neither true b e = absurd (true_not_false e)
neither false b e = (refl, e)

pub either {ℓ} : {A : Type ℓ} (a b : Bool) → (a || b) ≡ true → (a ≡ true → A) → (b ≡ true → A) → A
either true b e f g = f refl
either false b e f g = g e

-- no fault: the test did not hold, and nothing after it
pub passed : (b : Bool) (n p : ℕ) (rest : Fault) → or_else (fault_if b n p) rest ≡ Nothing → (b ≡ false) × (rest ≡ Nothing)
passed true n p rest e = absurd (let z : ◌≡◌ {A = ℕ} 0 1 = cc in omega arith)
passed false n p rest e = (refl, e)

pub last_passed : (b : Bool) (n p : ℕ) → fault_if b n p ≡ Nothing → b ≡ false
last_passed true n p e = absurd (let z : ◌≡◌ {A = ℕ} 0 1 = cc in omega arith)
last_passed false n p e = refl

pub pick_cong {ℓ} : {A : Type ℓ} (b : Bool) (x x' y : A) → (b ≡ true → x ≡ x') → pick b x y ≡ pick b x' y
pick_cong true x x' y f = f refl
pick_cong false x x' y f = refl
