-- A fault of a library has one of the numbers 1 to 28 of document 01's table: never 0, by which the calls for
-- C say that there is none. Assumes nothing.
use mathlib.Core.Path.{◌≡◌, refl}
use mathlib.Core.Bool.{Bool, true, false, cond, ◌&&◌}
use Prim.Native.Nat.{ℕ, zero, suc, ◌+◌, ◌≤◌}
use native.Mathlib.Omega.{arith}
use lib.Dec.{leb}
use borrow.Author.Tests.{leb-true}
use Rattle.answer.specs.Faults.{Fault, Nothing, At, fault_if, or_else, first_in}

abbrev pub numbered : Fault → Bool
numbered Nothing = true
numbered (At number place) = leb 1 number && leb number 28

unfoldable pub is_fault : Fault → Bool
is_fault Nothing = false
is_fault (At number place) = true

-- equations for `simp`, which takes a chain of tests apart by them: `numbered` of the chain is `true` where
-- that of each test is
pub of_tests : (a b : Fault) → numbered (or_else a b) ≡ cond (is_fault a) (numbered a) (numbered b)
unfolding is_fault
of_tests (At n p) b = refl
of_tests Nothing b = refl

pub of_test : (b : Bool) (n p : ℕ) → numbered (fault_if b n p) ≡ cond b (numbered (At n p)) true
of_test true n p = refl
of_test false n p = refl

pub either_way : (b : Bool) → cond b true true ≡ true
either_way true = refl
either_way false = refl

pub first_numbered : (f : ℕ → Fault) → ((i : ℕ) → numbered (f i) ≡ true) → (i n : ℕ) → numbered (first_in f i n) ≡ true
unfolding first_in
first_numbered f h i zero = refl
first_numbered f h i (suc n) = simp (of_tests, h i, first_numbered f h (i + 1) n, either_way)

pub number_range : (n p : ℕ) → numbered (At n p) ≡ true → (1 ≤ n) × (n ≤ 28)
number_range n p h = by (leb 1 n) (leb n 28) refl refl h
  where
    by : (a b : Bool) → leb 1 n ≡ a → leb n 28 ≡ b → (a && b) ≡ true → (1 ≤ n) × (n ≤ 28)
    by true true d e k = (leb-true 1 n d, leb-true n 28 e)
    by true false d e k = absurd (let z : true ≡ false = cc in let y : ◌≡◌ {A = ℕ} 0 1 = cc in omega arith)
    by false b d e k = absurd (let z : true ≡ false = cc in let y : ◌≡◌ {A = ℕ} 0 1 = cc in omega arith)
