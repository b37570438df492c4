-- What a call for C answers: one number of 64 bits, and numbers in a lent buffer.
-- Assumes nothing.
use Rattle.std.specs.Prelude.{◌≡◌, List, ℕ, ◌+◌, ◌*◌, ◌/◌, ◌%◌, ◌^◌, ltb, length}
use Rattle.std.proofs.lemmas.List.Edits.{sets}
use Rattle.answer.specs.Answers.{Answer, given, refused, or_short}

-- 'the refusal's number in the upper 32 bits (0: none), in the lower the place, or without a refusal
-- the value'
abbrev pub upper_of : Answer ℕ → ℕ
upper_of (given value) = 0
upper_of (refused number place) = number

abbrev pub lower_of : Answer ℕ → ℕ
lower_of (given value) = value
lower_of (refused number place) = place

-- the number that a call answers: its two halves, which no value and no place exceeds. A refusal's number
-- is not 0
pub record Answered (a : Answer ℕ) (r : ℕ) : Type 0 where
  pub number : r ≡ upper_of a * 2 ^ 32 + lower_of a
  pub upper : r / 2 ^ 32 ≡ upper_of a
  pub lower : r % 2 ^ 32 ≡ lower_of a

-- a value, and the numbers that are written to the start of a lent buffer
pub record Reply : Type 0 where
  pub value : ℕ
  pub numbers : List ℕ

abbrev pub reply : ℕ → List ℕ → Reply
reply v ns = record { value = v; numbers = ns }

abbrev pub value_of : Reply → ℕ
value_of y = y.value

-- 30 if a buffer of that size is too short for the numbers, after every other refusal
abbrev pub fitted : ℕ → Answer Reply → Answer Reply
fitted size (given y) = or_short (ltb size (length y.numbers)) (given y)
fitted size (refused number place) = refused number place

-- the buffer's final numbers: none beyond the reply's is touched, and none at all by a refusal
abbrev pub buffer_after : List ℕ → Answer Reply → List ℕ
buffer_after old (given y) = sets old 0 y.numbers
buffer_after old (refused number place) = old
