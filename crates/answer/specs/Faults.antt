-- 'The first fault met in this order is the one reported' (document 01, 'Numbers given back').
-- Assumes nothing.
use Rattle.std.specs.Prelude.{ℕ, zero, suc, ◌+◌, Bool, true, false, Result, Ok, Err}
use Rattle.answer.specs.Reasons.{number_of}
use Rattle.answer.specs.declared.Refusal.{Refusal}

-- no fault; or a fault, its number and place
pub data Fault : Type 0 where
  Nothing : Fault
  At : ℕ → ℕ → Fault

-- a fault, its number and place, where a test holds
abbrev pub fault_if : Bool → ℕ → ℕ → Fault
fault_if true number place = At number place
fault_if false number place = Nothing

-- a fault stays; else the next is asked
abbrev pub or_else : Fault → Fault → Fault
or_else (At number place) next = At number place
or_else Nothing next = next

-- the first fault of f at i, i + 1, .., n in all
unfoldable pub first_in : (ℕ → Fault) → ℕ → ℕ → Fault
first_in f i zero = Nothing
first_in f i (suc n) = or_else (f i) (first_in f (i + 1) n)

-- the code's answer
abbrev pub faulted : Result Unit Refusal → Fault
faulted (Ok u) = Nothing
faulted (Err r) = At (number_of r.reason) r.place
