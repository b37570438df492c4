-- What the public calls promise beside their answers: the check accepts exactly the clean files (demand 2),
-- and a report holds for every run of its executable (demand 3).
-- Assumes nothing.
use Rattle.std.specs.Prelude.{◌≡◌, List, ℕ, ◌≤◌, ◌<◌, get_or, Result, Ok}
use Rattle.answer.specs.declared.Refusal.{Refusal}
use Rattle.container.specs.Executable.{executable_of}
use Rattle.container.specs.Program.{program_of}
use Rattle.flow.specs.Rules.{Code}
use Rattle.flow.specs.Stepping.{Settings, State, start}
use Rattle.flow.specs.Visits.{total}
use Rattle.flow.specs.WholeRun.{Whole}
use Rattle.verifier.specs.Clean.{code_in, visits_in, Clean}
use Rattle.verifier.specs.Executables.{no_report}
use Rattle.verifier.specs.Verdict.{library_of}
use Rattle.verifier.specs.declared.verdict.Judged.{Judged}
use Rattle.verifier.specs.declared.verdict.Library.{Library}
use Rattle.verifier.specs.declared.verdict.Report.{Report}

-- 'accepted exactly if none applies' (document 01, 'What a statement has to tie down')
pub record AcceptsClean (file : List ℕ) (r : Result Library Refusal) : Type 0 where
  pub clean : (l : Library) → r ≡ Ok l → Clean file
  pub accepted : Clean file → r ≡ Ok (library_of file)

-- what an executable of a file runs, and where it starts
abbrev pub code_for : List ℕ → Code
code_for file = code_in file (program_of file) (program_of file).descriptors.count

abbrev pub start_for : List ℕ → ℕ → State
start_for file index = start (executable_of file index).main.0 (executable_of file index).endmain.0

-- a report of executable index: for all bools, all bytes x and every truth list the whole run stays inside
-- the tables, with at most 4 calls, 8 IFs and 2 LOOPs open, and ends within the total; the total is at most
-- 4,000,000, and is what the visits add to it
pub record Promised (file : List ℕ) (index : ℕ) (t : Report) : Type 0 where
  pub runs : (v : Settings) → ((r : ℕ) → r ≤ 3 → v.ints r < 256)
      → Whole (code_for file) v 4 8 2 t.total (start_for file index)
  pub bounded : t.total ≤ 4000000
  pub counted : t.total ≡ total (visits_in file (program_of file) (executable_of file index))

-- every report that is given, and every report of an accepted library
abbrev pub Promises : List ℕ → ℕ → Result Report Refusal → Type 0
Promises file index r = (t : Report) → r ≡ Ok t → Promised file index t

abbrev pub PromisesAll : List ℕ → Result Judged Refusal → Type 0
PromisesAll file r = (j : Judged) → r ≡ Ok j → (i : ℕ) → i < j.library.executables → Promised file i (get_or j.reports i no_report)
