-- The whole check, and the answers of the public calls (document 01, 'Numbers given back', its last
-- paragraph).
-- Assumes nothing.
use Rattle.std.specs.Prelude.{ℕ, List, replicate, Result, Ok, Err}
use Rattle.answer.specs.Answers.{Answer, given, refused, or_missing}
use Rattle.answer.specs.Reasons.{number_of}
use Rattle.answer.specs.declared.Refusal.{Refusal}
use Rattle.answer.specs.Faults.{or_else, first_in}
use Rattle.answer.specs.Faults.{Fault}
use Rattle.answer.specs.Faults.{Nothing, At}
use Rattle.container.specs.Program.{count_of, program_of, library_fault}
use Rattle.container.specs.declared.programs.Limits.{Limits}
use Rattle.verifier.specs.Executables.{one_executable, no_report, report_of}
use Rattle.verifier.specs.Lists.{filled}
use Rattle.verifier.specs.Words.{words_of, words_fault}
use Rattle.verifier.specs.declared.verdict.Judged.{Judged}
use Rattle.verifier.specs.declared.verdict.Library.{Library}
use Rattle.verifier.specs.declared.verdict.Report.{Report}

-- 7: 'words .. over 512, or descriptors over 128'
abbrev pub full_limits : Limits
full_limits = record { words = 512; descriptors = 128 }

abbrev pub library_of : List ℕ → Library
library_of file = record { executables = count_of file; program = program_of file }

-- 'Order: 1 to 8; words ascending, 9 to 12 at each; then each executable in index order, 13 to 28'
unfoldable pub whole_fault : List ℕ → Fault
whole_fault file =
    let p = program_of file in
    or_else (library_fault full_limits file)
    (or_else (words_fault p.descriptors.count (words_of file p.words))
    (first_in (one_executable file p) 0 (count_of file)))

-- a fault is a refusal; else the value
abbrev pub answer_by : {A : Type 0} → Fault → A → Answer A
answer_by (At number place) a = refused number place
answer_by Nothing a = given a

unfoldable pub check_of : List ℕ → Answer Library
check_of file = answer_by (whole_fault file) (library_of file)

-- sixteen reports: those of the executables, then zeros; of a refused library all are zeros
abbrev pub reports_by : Fault → List Report → List Report
reports_by (At number place) rs = replicate 16 no_report
reports_by Nothing rs = rs

pub record Judgement : Type 0 where
  pub verdict : Answer Library
  pub reports : List Report

unfoldable pub judge_of : List ℕ → Judgement
judge_of file = record { verdict = check_of file; reports = reports_by (whole_fault file) (filled (report_of file (program_of file)) 0 16 (count_of file) no_report) }

-- '29 .. come[s] after the whole check': an executable that is not there
abbrev pub report_in : List ℕ → ℕ → Answer Library → Answer Report
report_in file index (refused number place) = refused number place
report_in file index (given l) = or_missing index l.executables (given (report_of file l.program index))

unfoldable pub report_answer : List ℕ → ℕ → Answer Report
report_answer file index = report_in file index (check_of file)

-- the code's answer
abbrev pub judged_as : Result Judged Refusal → Judgement
judged_as (Ok j) = record { verdict = given j.library; reports = j.reports }
judged_as (Err r) = record { verdict = refused (number_of r.reason) r.place; reports = replicate 16 no_report }
