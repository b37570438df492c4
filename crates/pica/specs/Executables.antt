-- The walk and the constants of an executable as calls for C.
-- Assumes nothing.
use Rattle.std.specs.Prelude.{◌≡◌, Bool, not, cond, List, [], ◌∷◌, ℕ, ◌/◌, ◌^◌, ◌<◌, T, Float, Result}
use Rattle.std.specs.Float.{binary32}
use Rattle.std.specs.Float.Ieee.{to_bits, is_nan}
use Rattle.answer.specs.Answers.{Answer, given, refused, map_answer, answered}
use Rattle.answer.specs.declared.Refusal.{Refusal}
use Rattle.tables.specs.declared.constants.ByteVector.{ByteVector}
use Rattle.tables.specs.declared.constants.Constant.{Constant}
use Rattle.tables.specs.declared.constants.Constant.TheVariants.{Flag, Bytes, Vector}
use Rattle.tables.specs.declared.constants.FloatVector.{FloatVector}
use Rattle.verifier.specs.Verdict.{check_of}
use Rattle.verifier.specs.declared.verdict.Library.{Library}
use Rattle.walk.specs.Constants.{constant_answer}
use Rattle.walk.specs.Walk.{WholeWalk}
use Rattle.pica.specs.Replies.{Reply, reply, fitted}

-- where steps are answered, they are those of the whole run
abbrev pub WalksWhole : List ℕ → ℕ → List ℕ → List ℕ → List ℕ → ℕ → Type 0
WalksWhole file index bools ints truth r = r < 2 ^ 32 → WholeWalk file index bools ints truth

-- 'the bool and zeros; the four bytes; the four f32 patterns'
abbrev pub flag_numbers : Bool → List ℕ
flag_numbers b = cond b 1 0 ∷ 0 ∷ 0 ∷ 0 ∷ []

abbrev pub byte_numbers : ByteVector → List ℕ
byte_numbers v = v.x ∷ v.y ∷ v.z ∷ v.w ∷ []

abbrev pub pattern_numbers : FloatVector → List ℕ
pattern_numbers v = to_bits binary32 v.x ∷ to_bits binary32 v.y ∷ to_bits binary32 v.z ∷ to_bits binary32 v.w ∷ []

-- a NaN has no pattern of its own. No component of a constant that is handed out is one (proofs/Answers.antt,
-- no_nans)
abbrev pub NotNan : Float → Type 0
NotNan x = T (not (is_nan x))

abbrev pub NoNans : FloatVector → Type 0
NoNans v = NotNan v.x × NotNan v.y × NotNan v.z × NotNan v.w

-- 'kind 0, 1 or 2'
abbrev pub constant_numbers : Constant → Reply
constant_numbers (Flag b) = reply 0 (flag_numbers b)
constant_numbers (Bytes v) = reply 1 (byte_numbers v)
constant_numbers (Vector v) = reply 2 (pattern_numbers v)

-- 'after 29, 30 if out is shorter'
abbrev pub constant_reply : List ℕ → ℕ → ℕ → ℕ → Answer Reply
constant_reply file index n size = fitted size (map_answer constant_numbers (constant_answer file index n))

-- 18 is never answered after an accepted check
abbrev pub HandsNo18 : List ℕ → ℕ → Type 0
HandsNo18 file r = (l : Library) → check_of file ≡ given l → r / 2 ^ 32 ≡ 18 → ⊥

-- the same of an answer that is not yet one number
abbrev pub RepliesNo18 : List ℕ → Result ℕ Refusal → Type 0
RepliesNo18 file r = (l : Library) → check_of file ≡ given l → (place : ℕ) → answered r ≡ refused 18 place → ⊥
