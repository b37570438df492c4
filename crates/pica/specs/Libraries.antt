-- The check and the report as calls for C.
-- Assumes nothing.
use Rattle.std.specs.Prelude.{◌≡◌, List, [], ◌∷◌, ℕ, take}
use Rattle.answer.specs.Answers.{Answer, map_answer}
use Rattle.verifier.specs.Clean.{Clean}
use Rattle.verifier.specs.Promise.{Promised}
use Rattle.verifier.specs.Verdict.{check_of, report_answer}
use Rattle.verifier.specs.declared.verdict.Report.{Report}
use Rattle.pica.specs.Replies.{Reply, reply, fitted}

-- the check's value is 0
abbrev pub acceptance : List ℕ → Answer ℕ
acceptance file = map_answer (λ l. 0) (check_of file)

-- 0 exactly if none of 1 to 28 applies
pub record ExactlyClean (file : List ℕ) (r : ℕ) : Type 0 where
  pub clean : r ≡ 0 → Clean file
  pub accepted : Clean file → r ≡ 0

-- 'type, main, endmain, ones in, ones out, constants, words, total'
abbrev pub report_numbers : Report → List ℕ
report_numbers t = t.shader_type ∷ t.main.0 ∷ t.endmain.0 ∷ t.inputs ∷ t.outputs ∷ t.constants ∷ t.words ∷ t.total ∷ []

-- '8, and in the first 8 of out ..; after 29, 30 if out is shorter'
abbrev pub report_reply : List ℕ → ℕ → ℕ → Answer Reply
report_reply file index size = fitted size (map_answer (λ t. reply 8 (report_numbers t)) (report_answer file index))

-- demand 3: where 8 is answered, the buffer's first eight numbers are a report's that every run keeps to
pub record Kept (file : List ℕ) (index : ℕ) (out : List ℕ) : Type 0 where
  pub report : Report
  pub numbers : take 8 out ≡ report_numbers report
  pub promised : Promised file index report

abbrev pub KeepsToTotal : List ℕ → ℕ → ℕ → List ℕ → Type 0
KeepsToTotal file index r out = r ≡ 8 → Kept file index out
