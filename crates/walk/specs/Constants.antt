-- A constant handed to a caller (document 01, 'Layout of a library', 'Numbers given back').
-- Assumes nothing.
use Rattle.std.specs.Prelude.{◌≡◌, List, ℕ, Option, Some, None, Result}
use Rattle.answer.specs.Answers.{Answer, given, refused, answered, or_missing}
use Rattle.answer.specs.declared.Refusal.{Refusal}
use Rattle.container.specs.Executable.{executable_of}
use Rattle.container.specs.declared.placement.Table.{Table}
use Rattle.tables.specs.Constants.{entry_of, convert_of}
use Rattle.tables.specs.declared.constants.Constant.{Constant}
use Rattle.verifier.specs.Executables.{entry_at}
use Rattle.verifier.specs.Verdict.{check_of}
use Rattle.verifier.specs.declared.verdict.Library.{Library}

-- 'a bool, four bytes or four f32 values', as `tables` converts an entry. The check before refuses a file
-- with a bad one (`Hands`, below)
abbrev pub constant_by : Option Constant → Answer Constant
constant_by (Some c) = given c
constant_by None = refused 18 0

-- entry n of the constant table; 29: 'executable or constant number not there'
abbrev pub entry_constant : List ℕ → Table → ℕ → Answer Constant
entry_constant file t n = or_missing n t.count (constant_by (convert_of (entry_of (entry_at file t 20 n))))

-- '29 .. come[s] after the whole check'
abbrev pub constant_in : List ℕ → ℕ → ℕ → Answer Library → Answer Constant
constant_in file index n (refused number place) = refused number place
constant_in file index n (given l) = or_missing index l.executables (entry_constant file (executable_of file index).constants n)

unfoldable pub constant_answer : List ℕ → ℕ → ℕ → Answer Constant
constant_answer file index n = constant_in file index n (check_of file)

-- 18 is never answered after an accepted check
abbrev pub Hands : List ℕ → Result Constant Refusal → Type 0
Hands file r = (l : Library) → check_of file ≡ given l → (place : ℕ) → answered r ≡ refused 18 place → ⊥
