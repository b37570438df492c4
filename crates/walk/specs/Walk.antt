-- The control walk (document 01, 'Stepping rules', last paragraph, and 'Numbers given back').
-- Assumes nothing.
use Rattle.std.specs.Prelude.{◌≡◌, Bool, not, ◌||◌, List, [], ◌∷◌, ℕ, eqb, ltb, length, get_or, Result, Ok}
use Rattle.std.proofs.lemmas.List.Edits.{sets}
use Rattle.answer.specs.Answers.{Answer, given, refused, or_missing, or_short}
use Rattle.answer.specs.declared.Refusal.{Refusal}
use Rattle.container.specs.Program.{program_of}
use Rattle.flow.specs.Stepping.{Settings, State, Run, done, failed, unfinished, run}
use Rattle.flow.specs.WholeRun.{Whole}
use Rattle.verifier.specs.Executables.{report_of}
use Rattle.verifier.specs.Promise.{code_for, start_for}
use Rattle.verifier.specs.Verdict.{check_of}
use Rattle.verifier.specs.declared.verdict.Library.{Library}

-- 'non-zero true'
abbrev pub non_zero : ℕ → Bool
non_zero b = not (eqb b 0)

abbrev pub truths_in : List ℕ → List Bool
truths_in [] = []
truths_in (b ∷ bs) = non_zero b ∷ truths_in bs

-- 'one of 16 bool bytes (non-zero true), LOOP one of 4 bytes x', and the truth list, 'non-zero true'
abbrev pub settings_of : List ℕ → List ℕ → List ℕ → Settings
settings_of bools ints truth = record { bools = λ b. non_zero (get_or bools b 0); ints = λ r. get_or ints r 0; truths = truths_in truth }

-- the run of an executable that demand 3 speaks of: of as many steps at most as the total in its report. A
-- larger bound gives the same run (proofs/Answers.antt, longer)
unfoldable pub run_of : List ℕ → ℕ → Settings → Run
run_of file index v = run (code_for file) v (report_of file (program_of file) index).total (start_for file index)

-- 'the index of each fetched word, in order'
abbrev pub indices_of : List State → List ℕ
indices_of [] = []
indices_of (s ∷ l) = s.word ∷ indices_of l

-- those of a run that ends; none of any other, which `RunsWhole` below rules out
abbrev pub fetches_in : Run → List ℕ
fetches_in (done l) = indices_of l
fetches_in (failed l) = []
fetches_in (unfinished l) = []

-- 'The walk makes the whole check first and passes its refusal on'; '29, then 30, come after the whole
-- check'; 'under 16 bools or 4 integers gives 30'; else the fetches
module _ (file : List ℕ) (index : ℕ) (bools ints truth : List ℕ) where
  abbrev pub walk_in : Answer Library → Answer (List ℕ)
  walk_in (refused number place) = refused number place
  walk_in (given l) =
      or_missing index l.executables
      (or_short (ltb (length bools) 16 || ltb (length ints) 4) (given (fetches_in (run_of file index (settings_of bools ints truth)))))

  unfoldable pub walk_fetches : Answer (List ℕ)
  walk_fetches = walk_in (check_of file)

  -- the whole run: inside the tables and the limits, within the total, and its last word is END; it is the
  -- run where steps are answered
  abbrev pub WholeWalk : Type 0
  WholeWalk = Whole (code_for file) (settings_of bools ints truth) 4 8 2 (report_of file (program_of file) index).total (start_for file index)

  abbrev pub RunsWhole : Result ℕ Refusal → Type 0
  RunsWhole r = (n : ℕ) → r ≡ Ok n → WholeWalk

-- 'it answers the steps made'
abbrev pub steps_of : Answer (List ℕ) → Answer ℕ
steps_of (given fetches) = given (length fetches)
steps_of (refused number place) = refused number place

-- 'and writes the index of each fetched word, in order, to a lent list of u16, as many as fit, the rest
-- untouched': past its end nothing is set; a refusal leaves it as it was
abbrev pub written_to : List ℕ → Answer (List ℕ) → List ℕ
written_to old (given fetches) = sets old 0 fetches
written_to old (refused number place) = old
