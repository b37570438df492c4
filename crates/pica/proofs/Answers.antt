-- What the calls promise beside their answers, from what the calls below promise. Assumes nothing.
use mathlib.Core.Path.{◌≡◌, refl, sym, ap, ◌∙◌}
use mathlib.Core.Bool.{Bool, true, false, cond, not}
use mathlib.Core.List.{List}
use Prim.Native.Nat.{ℕ, ◌+◌, ◌≤◌}
use native.Mathlib.Omega.{arith}
use lib.Dec.{T, ltb}
use lib.Ieee.{binary32, is_nan}
use lib.Ieee.Bits.{nan_bits_is}
use lib.ListN.{length, take, drop}
use lib.Seq.{sets-eq, take_at}
use borrow.Author.Tests.{ltb-false}
use Rattle.std.specs.Prelude.{Option, Some, None, Result, Ok, Err, MatchResult}
use Rattle.answer.specs.Answers.{Answer, given, refused, map_answer, or_short, answered}
use Rattle.answer.specs.declared.Refusal.{Refusal}
use Rattle.answer.specs.Reasons.{number_of}
use Rattle.answer.specs.declared.reason.Reason.{Reason}
use Rattle.container.specs.Executable.{executable_of}
use Rattle.tables.proofs.Laws.{no_nan, vector_floats}
use Rattle.tables.specs.Constants.{entry_of, f32_of, convert_of}
use Rattle.tables.specs.Float24.{f32_bits}
use Rattle.tables.specs.declared.constants.Constant.{Constant}
use Rattle.tables.specs.declared.constants.Constant.TheVariants.{Vector}
use Rattle.tables.specs.declared.constants.FloatVector.{FloatVector}
use Rattle.verifier.specs.Executables.{entry_at}
use Rattle.verifier.specs.Promise.{AcceptsClean}
use Rattle.verifier.specs.Verdict.{check_of, report_answer}
use Rattle.verifier.specs.declared.verdict.Library.{Library}
use Rattle.verifier.specs.declared.verdict.Report.{Report}
use Rattle.walk.specs.Constants.{constant_by, entry_constant, constant_in, constant_answer}
use Rattle.pica.specs.Libraries.{ExactlyClean, report_reply, KeepsToTotal}
use Rattle.pica.specs.Replies.{Answered, reply, value_of, fitted, buffer_after}
use Rattle.pica.specs.Executables.{NoNans}

-- the numbers of a value that is answered are the first of the buffer
pub first_numbers : (old out ns : List ℕ) (n m : ℕ) → given m ≡ map_answer value_of (fitted (length old) (given (reply n ns))) → out ≡ buffer_after old (fitted (length old) (given (reply n ns)))
    → take (length ns) out ≡ ns
first_numbers old out ns n m a o = by (ltb (length old) (length ns)) refl a o
  where
    by : (b : Bool) → ltb (length old) (length ns) ≡ b → given m ≡ map_answer value_of (or_short b (given (reply n ns))) → out ≡ buffer_after old (or_short b (given (reply n ns))) → take (length ns) out ≡ ns
    by true e a o = absurd (let z : ◌≡◌ {A = ℕ} 0 1 = cc in omega arith)
    by false e a o =
        let room : 0 + length ns ≤ length old = omega (arith, ltb-false (length old) (length ns) e) in
        rw (o, sets-eq ns old 0 room) (take_at ns (drop (0 + length ns) old) (length ns) refl)

-- a refusal's number is never 0
known : (r : Reason) → 1 ≤ number_of r
known r = grind arith

module _ (file : List ℕ) where
  -- the check
  pub exactly_clean : (r : Result Library Refusal) (q : Result ℕ Refusal) {v : ℕ} → AcceptsClean file r → MatchResult r (λ l. q ≡ Ok 0) (λ e. q ≡ Err e) → Answered (answered q) v → ExactlyClean file v
  exactly_clean (Ok l) q x m w = record { clean = λ z. x.clean l refl; accepted = λ c. (rw m at w).number }
  exactly_clean (Err e) q x m w = record { clean = λ z. absurd (let b = rw m at w in let n = known e.reason in omega (arith, b.number, n)); accepted = λ c. let y = x.accepted c in absurd (let z : ◌≡◌ {A = ℕ} 0 1 = cc in omega arith) }

  -- a report that is refused: the call's three promises
  module _ (index : ℕ) where
    abbrev pub ReportTold : List ℕ → List ℕ → ℕ → Type 0
    ReportTold old out v =
        Answered (map_answer value_of (report_reply file index (length old))) v × ((out ≡ buffer_after old (report_reply file index (length old))) × KeepsToTotal file index v out)

    pub report_refused : (old : List ℕ) (v : ℕ) {r : Result Report Refusal} {e : Refusal} → answered r ≡ report_answer file index → r ≡ Err e → Answered (refused (number_of e.reason) e.place) v → ReportTold old old v
    report_refused old v {r} {e} g h w =
        let a : report_answer file index ≡ refused (number_of e.reason) e.place = sym g ∙ ap answered h in
        (rw a w, (rw a, λ z. absurd (let n = known e.reason in omega (arith, w.number, n, z))))

  -- a constant
  module _ (index n : ℕ) where
    abbrev held : Option Constant
    held = convert_of (entry_of (entry_at file (executable_of file index).constants 20 n))

    held_vector : {v : FloatVector} → constant_answer file index n ≡ given (Vector v) → held ≡ Some (Vector v)
    unfolding constant_answer
    held_vector {v} e = by (check_of file) e
      where
        kept : (x : Option Constant) → constant_by x ≡ given (Vector v) → x ≡ Some (Vector v)
        kept (Some c) g = let z : c ≡ Vector v = cc in rw z
        kept None g = absurd (let z : ◌≡◌ {A = ℕ} 0 1 = cc in omega arith)

        there : (b : Bool) (a : Answer Constant) {P : Type 0} → (a ≡ given (Vector v) → P) → cond b a (refused 29 0) ≡ given (Vector v) → P
        there true a k g = k g
        there false a k g = absurd (let z : ◌≡◌ {A = ℕ} 0 1 = cc in omega arith)

        by : (a : Answer Library) → constant_in file index n a ≡ given (Vector v) → held ≡ Some (Vector v)
        by (refused m p) g = absurd (let z : ◌≡◌ {A = ℕ} 0 1 = cc in omega arith)
        by (given l) g =
            let t = (executable_of file index).constants in
            there (ltb index l.executables) (entry_constant file t n) (λ h. there (ltb n t.count) (constant_by held) (kept held) h) g

    -- no component is a NaN
    no_nans : {v : FloatVector} → constant_answer file index n ≡ given (Vector v) → NoNans v
    no_nans {v} e =
        let entry = entry_of (entry_at file (executable_of file index).constants 20 n) in
        rw (← vector_floats entry v (held_vector e)) (is_number entry.x, is_number entry.y, is_number entry.z, is_number entry.w)
      where
        is_number : (w : ℕ) → T (not (is_nan (f32_of w)))
        is_number w = rw (nan_bits_is binary32 (f32_bits w)) at (no_nan w)

    pub handed_numbers : {r : Result Constant Refusal} {c : Constant} {v : FloatVector} → answered r ≡ constant_answer file index n → r ≡ Ok c → c ≡ Vector v → NoNans v
    handed_numbers a h k = no_nans (sym a ∙ ap answered h ∙ ap given k)
