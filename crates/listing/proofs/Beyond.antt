-- What is in the buffer after a listing or a report: record i stands at i × 80, and nothing beyond the
-- records is touched. Assumes nothing.
use mathlib.Core.Path.{◌≡◌, refl, sym, ◌∙◌}
use mathlib.Core.Bool.{Bool, true, false}
use mathlib.Core.List.{List, ◌++◌}
use Prim.Native.Nat.{ℕ, zero, suc, ◌+◌, ◌*◌, ◌≤◌, ◌<◌}
use native.Mathlib.Omega.{arith}
use lib.Dec.{ltb}
use lib.ListN.{length, take, drop, length-drop}
use lib.Seq.{sets, sets-eq, take_all, take-append-le, drop-append-le, drop_at}
use borrow.Author.Tests.{ltb-true, ltb-false}
use Rattle.answer.specs.Answers.{given}
use Rattle.listing.specs.Listing.{records_of, line_at, summary_at, list_answer, listed_bytes, summary_answer, summary_bytes}
use Rattle.listing.proofs.Answers.{line_wide, report_wide, list_done}
use Rattle.listing.proofs.Laws.{enough, records_length}
use Rattle.verifier.specs.Verdict.{check_of}
use Rattle.verifier.specs.declared.verdict.Library.{Library}

module _ (f : ℕ → List ℕ) (wide : (i : ℕ) → length (f i) ≡ 80) where
  pub record_at : (n i : ℕ) → i < n → take 80 (drop (i * 80) (records_of f n)) ≡ f i
  unfolding records_of
  record_at zero i h = absurd (omega arith)
  record_at (suc n) i h = by (λ l. record_at n i l) (ltb i n) refl
    where
      by : (i < n → take 80 (drop (i * 80) (records_of f n)) ≡ f i) → (b : Bool) → ltb i n ≡ b → take 80 (drop (i * 80) (records_of f n ++ f n)) ≡ f i
      by g true e =
          let l = ltb-true i n e in
          let w = records_length f wide n in
          let inside : i * 80 ≤ length (records_of f n) = omega (arith, w) in
          let long : 80 ≤ length (drop (i * 80) (records_of f n)) = omega (arith, w, length-drop (i * 80) (records_of f n)) in
          rw (drop-append-le (i * 80) (records_of f n) (f n) inside, take-append-le 80 (drop (i * 80) (records_of f n)) (f n) long) (g l)
      by g false e =
          let same : i ≡ n = omega (arith, ltb-false i n e) in
          rw (same, drop_at (records_of f n) (f n) (n * 80) (records_length f wide n)) (take_all 80 (f n) (omega (arith, wide n)))

  -- records at the start of a buffer that has room for them
  stored : (n : ℕ) (old : List ℕ) → n * 80 ≤ length old → sets old 0 (records_of f n) ≡ records_of f n ++ drop (n * 80) old
  stored n old h =
      let w = records_length f wide n in
      let room : 0 + length (records_of f n) ≤ length old = omega (arith, w) in
      let z : 0 + length (records_of f n) ≡ n * 80 = omega (arith, w) in
      sets-eq (records_of f n) old 0 room ∙ rw z

module _ (file old : List ℕ) {l : Library} (accepted : check_of file ≡ given l) where
  abbrev words : ℕ
  words = l.program.words.count

  pub listed : words * 80 ≤ length old
      → (list_answer file (length old) ≡ given (words * 80)) × (listed_bytes file old ≡ records_of (line_at file l.program) words ++ drop (words * 80) old)
  listed h =
      let (answer, bytes) = list_done file old accepted h refl in
      (sym answer, sym bytes ∙ stored (line_at file l.program) (λ i. line_wide i _ _) words old h)

  pub summarized : l.executables * 80 ≤ length old
      → (summary_answer file (length old) ≡ given (l.executables * 80)) × (summary_bytes file old ≡ records_of (summary_at file l.program) l.executables ++ drop (l.executables * 80) old)
  unfolding summary_answer summary_bytes
  summarized h = (
    rw (accepted, enough (length old) l.executables h),
    rw (accepted, enough (length old) l.executables h) (stored (summary_at file l.program) (λ i. report_wide i _) l.executables old h),
  )
