-- What the whole check says of a library that is listed, and the records of its listing and its report.
-- Assumes nothing.
use mathlib.Core.Path.{◌≡◌, refl, sym, ap, ◌∙◌}
use mathlib.Core.List.{List, ◌++◌}
use Prim.Native.Nat.{ℕ, ◌+◌, ◌*◌, ◌≤◌, ◌<◌}
use native.Mathlib.Omega.{arith}
use lib.Seq.{sets, take_at}
use lib.ListN.{length, take, drop, get_or}
use Rattle.std.proofs.lemmas.List.{same_lists}
use Rattle.std.specs.Prelude.{Result, Ok, Err}
use Rattle.answer.specs.Answers.{answered, given}
use Rattle.answer.specs.declared.Refusal.{Refusal}
use Rattle.binary.specs.Bytes.{u32_at}
use Rattle.container.specs.Program.{count_of, program_of}
use Rattle.container.specs.declared.placement.Table.{Table}
use Rattle.listing.specs.Listing.{descriptor_at, descriptors_of, records_of, line_at, list_answer, listed_bytes}
use Rattle.listing.proofs.Laws.{enough}
use Rattle.text.proofs.Fits.{record_length, line_fits, report_fits}
use Rattle.text.specs.Records.{record_of, line_text, report_text}
use Rattle.verifier.proofs.Clean.{accepted}
use Rattle.verifier.proofs.Taken.{Taken, taken, refused_check}
use Rattle.verifier.proofs.Lists.{length_list, list_at, filled_at, u32_drop}
use Rattle.verifier.specs.Executables.{no_report, report_of}
use Rattle.verifier.specs.Lists.{list_of}
use Rattle.verifier.specs.Verdict.{check_of, judge_of, judged_as}
use Rattle.verifier.specs.declared.verdict.Judged.{Judged}
use Rattle.verifier.specs.declared.verdict.Library.{Library}
use Rattle.verifier.specs.declared.verdict.Report.{Report}

-- records of 80 bytes
pub line_wide : (i word : ℕ) (ds : List ℕ) → length (record_of 80 (line_text i word ds)) ≡ 80
line_wide i word ds = record_length 79 (line_text i word ds) (line_fits i word ds)

pub report_wide : (i : ℕ) (r : Report) → length (record_of 80 (report_text i r)) ≡ 80
report_wide i r = record_length 79 (report_text i r) (report_fits i r)

module _ (file : List ℕ) where
  -- the listing's answers: the check's refusal; all lines
  module _ (old : List ℕ) where
    pub list_refused : {r : Result Library Refusal} {e : Refusal} → answered r ≡ check_of file → r ≡ Err e → (answered (Err e) ≡ list_answer file (length old)) × (old ≡ listed_bytes file old)
    unfolding list_answer listed_bytes
    list_refused a h = let c = refused_check file a h in (rw c, rw c)

    pub list_done : {l : Library} {out : List ℕ} → check_of file ≡ given l → l.program.words.count * 80 ≤ length old
        → out ≡ sets old 0 (records_of (line_at file l.program) l.program.words.count)
        → (given (l.program.words.count * 80) ≡ list_answer file (length old)) × (out ≡ listed_bytes file old)
    unfolding list_answer listed_bytes
    list_done a h e = (rw (a, enough _ _ h), rw (a, enough _ _ h) e)

  -- the descriptors, one by one
  pub descriptors_are : (t : Table) (xs rest : List ℕ) {bytes : List ℕ} → bytes ≡ drop t.start.0 file → length xs ≡ t.count → ((k d : ℕ) → k < t.count → get_or xs k d ≡ u32_at bytes (k * 8))
      → take t.count (xs ++ rest) ≡ descriptors_of file t
  descriptors_are t xs rest e n each =
      let f = descriptor_at file t in
      let m = length_list f 0 t.count in
      take_at xs rest t.count n
      ∙ same_lists xs (list_of f 0 t.count) (omega arith) (λ k d h.
      let i : k < t.count = omega arith in
      let z : 0 + k ≡ k = omega arith in
      each k d i ∙ rw e (u32_drop file t.start.0 (k * 8)) ∙ sym (rw z at (list_at f 0 t.count k d i)))

  -- an accepted library of one judging, and its reports
  pub verdict_is : {r q : Result Judged Refusal} → judged_as r ≡ judge_of file → r ≡ q → (judged_as q).verdict ≡ check_of file
  unfolding judge_of
  verdict_is a h = ap (λ x. x.verdict) (sym (ap judged_as h) ∙ a)

  pub judged : {r : Result Judged Refusal} {j : Judged} → judged_as r ≡ judge_of file → r ≡ Ok j → Taken file j.library
  judged {r} {j} a h = taken file {r = Ok j.library} (verdict_is a h) refl

  pub report_is : {r : Result Judged Refusal} {j : Judged} → judged_as r ≡ judge_of file → r ≡ Ok j → (i : ℕ) (d : Report) → i < j.library.executables
      → get_or j.reports i d ≡ report_of file j.library.program i
  unfolding judge_of
  report_is {r} {j} a h i d k =
      let t = judged a h in
      let z : 0 + i ≡ i = omega arith in
      let n : j.library.executables ≡ count_of file = ap (λ x. x.executables) t.same in
      let p : j.library.program ≡ program_of file = ap (λ x. x.program) t.same in
      ap (λ x. get_or x.reports i d) (sym (ap judged_as h) ∙ a)
      ∙ rw (p, accepted file t.clean) (rw z at (filled_at (report_of file (program_of file)) 0 16 no_report (count_of file) i d (omega arith)))
