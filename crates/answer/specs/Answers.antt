-- What a call gives back, as document 01 counts it ('Numbers given back'): values, or a refusal. A `Result`
-- with a `Refusal` is read as one of these by `answered`.
-- Assumes nothing.
use Rattle.std.specs.Prelude.{ℕ, Bool, cond, ltb, Result, Ok, Err}
use Rattle.answer.specs.Reasons.{number_of}
use Rattle.answer.specs.declared.Refusal.{Refusal}

-- the values; or a refusal's number and place, and no other number
pub data Answer (A : Type 0) : Type 0 where
  given : A → Answer A
  refused : ℕ → ℕ → Answer A

-- the values of another answer; its refusal stays
abbrev pub map_answer : {A B : Type 0} → (A → B) → Answer A → Answer B
map_answer f (given a) = given (f a)
map_answer f (refused number place) = refused number place

-- '29, then 30, come after the whole check'. 29: 'executable or constant number not there', where `count` are
-- there; else what follows
abbrev pub or_missing : {A : Type 0} → ℕ → ℕ → Answer A → Answer A
or_missing index count a = cond (ltb index count) a (refused 29 0)

-- 30: 'lent buffer too short'; else what follows
abbrev pub or_short : {A : Type 0} → Bool → Answer A → Answer A
or_short short a = cond short (refused 30 0) a

-- the code's answer
abbrev pub answered : {A : Type 0} → Result A Refusal → Answer A
answered (Ok a) = given a
answered (Err r) = refused (number_of r.reason) r.place
