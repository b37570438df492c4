-- What is taken from a stream of libraries, where the bytes that a reader has left are known.
-- Assumes nothing.
use Rattle.std.specs.Borrow.{Bor, MutBor}
use Rattle.std.specs.List.{FoldsTo}
use Rattle.std.specs.Prelude.{◌≡◌, ℕ, ◌+◌, ◌-◌, ◌^◌, ◌<◌, Bool, true, false, Option, Some, Result, Ok, List, [], ◌++◌, length}
use Rattle.std.specs.Io.KnownBytes.{Consumes, IsAtEnd}
use Rattle.binary.specs.Bytes.{u32_at}

-- so many bytes are taken, of which those past the first 65,537 are passed over
pub record TakesLibrary (old new : Option (List ℕ)) (told : ℕ) (library : List ℕ) : Type 0 where
  pub passed : List ℕ
  pub whole : length library + length passed ≡ told
  pub taken : Consumes old new (library ++ passed)
  pub kept : length library < 65537 → passed ≡ []

-- there are fewer, and they are passed over
pub record TakesCut (old new : Option (List ℕ)) (told : ℕ) : Type 0 where
  pub left : List ℕ
  pub short : length left < told
  pub taken : Consumes old new left
  pub over : IsAtEnd new

-- a library that is whole is taken: its length in four bytes, and so many bytes, of which those past the
-- first 65,537 are passed over
pub record Takes (old new : Option (List ℕ)) (library : List ℕ) : Type 0 where
  pub length_bytes : List ℕ
  pub passed : List ℕ
  pub four : length length_bytes ≡ 4
  pub told : length library + length passed ≡ u32_at length_bytes 0
  pub taken : Consumes old new (length_bytes ++ (library ++ passed))
  pub kept : length library < 65537 → passed ≡ []

-- the stream is over: what was left is not a whole library, and is passed over
pub record IsOver (old new : Option (List ℕ)) : Type 0 where
  pub left : List ℕ
  pub short : length left < 4 + u32_at left 0
  pub taken : Consumes old new left
  pub over : IsAtEnd new

module _ {R W F E : Type 0} (remaining : R → Option (List ℕ)) (step : F → MutBor R → MutBor W → Bor (List ℕ) → Result Bool E → MutBor R → MutBor W → F → Type 0) where
  -- from one state of reader, writer and visitor to another: a library is taken, and a visit of it answers
  -- whether it was not the last
  pub record Visits (more : Bool) (from : R × (W × F)) (library : List ℕ) (to : R × (W × F)) : Type 0 where
    pub input : MutBor R
    pub output : MutBor W
    pub file : Bor (List ℕ)
    pub taken : Takes (remaining from.0) (remaining input.now) library
    pub shown : (output.now ≡ from.1.0) × (file.now ≡ library)
    pub left : MutBor R × MutBor W
    pub called : step from.1.1 input output file (Ok more) left.0 left.1 to.1.1
    pub leaves : (left.0.now ≡ to.0) × (left.1.now ≡ to.1.0)

  -- after so many visits no more is made: the stream is over, and nothing is written where nothing was left;
  -- or one more visit is the last, or turns are used up
  pub data Ends (visits : ℕ) (from : R × (W × F)) (input : R) (output : W) : Type 0 where
    over : IsOver (remaining from.0) (remaining input) → (remaining from.0 ≡ Some [] → output ≡ from.1.0) → Ends visits from input output
    last : (library : List ℕ) (visit : F) → Visits false from library (input, (output, visit)) → Ends visits from input output
    turns : visits ≡ 2 ^ 64 - 1 → Ends visits from input output

  -- one library after another is visited
  abbrev pub VisitsEach : R → W → F → R → W → Type 0
  VisitsEach input output visit input' output' =
      (libraries : List (List ℕ)) × (at : R × (W × F)) × FoldsTo (Visits true) (input, (output, visit)) libraries at × Ends (length libraries) at input' output'
