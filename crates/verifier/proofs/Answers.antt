-- The verdict of a whole file from its parts, and what follows from it for the public calls. Assumes nothing.
use mathlib.Core.Path.{◌≡◌, refl, sym, ap, ◌∙◌}
use mathlib.Core.List.{List}
use Prim.Native.Nat.{ℕ, ◌+◌, ◌-◌, ◌≤◌, ◌<◌}
use native.Mathlib.Omega.{arith}
use lib.ListN.{get_or, take}
use borrow.Author.Tests.{lt-ltb, le-ltb}
use Rattle.std.specs.Prelude.{Result, Ok, Err}
use Rattle.answer.specs.Answers.{given, answered}
use Rattle.answer.specs.Faults.{Fault, Nothing, At, or_else, first_in, faulted}
use Rattle.answer.specs.Reasons.{number_of}
use Rattle.answer.specs.declared.Refusal.{Refusal}
use Rattle.container.specs.Program.{count_of, program_of, library_fault}
use Rattle.container.specs.declared.programs.Program.{Program}
use Rattle.verifier.specs.Executables.{one_executable, no_report, report_of}
use Rattle.verifier.specs.Inside.{Loaded}
use Rattle.verifier.specs.Lists.{filled}
use Rattle.verifier.specs.Promise.{AcceptsClean, Promises, PromisesAll}
use Rattle.verifier.specs.Verdict.{full_limits, library_of, whole_fault, answer_by, check_of, reports_by, judge_of, report_answer, judged_as}
use Rattle.verifier.specs.Words.{words_of, loaded_words, words_fault}
use Rattle.verifier.specs.declared.verdict.Judged.{Judged}
use Rattle.verifier.specs.declared.verdict.Library.{Library}
use Rattle.verifier.specs.declared.verdict.Report.{Report}
use Rattle.verifier.proofs.Clean.{clean, accepted}
use Rattle.verifier.proofs.Lists.{loaded_words_lem, filled_at}
use Rattle.verifier.proofs.Placing.{clean_library}
use Rattle.verifier.proofs.Promise.{promised}

module _ (file : List ℕ) where
  abbrev p : Program
  p = program_of file

  -- the fault of the whole file, from the first part that has one
  whole_library : {n q : ℕ} → library_fault full_limits file ≡ At n q → whole_fault file ≡ At n q
  unfolding whole_fault
  whole_library e = rw e

  whole_words : {f : Fault} → library_fault full_limits file ≡ Nothing → words_fault p.descriptors.count (words_of file p.words) ≡ f
      → whole_fault file ≡ or_else f (first_in (one_executable file p) 0 (count_of file))
  unfolding whole_fault
  whole_words a b = rw (a, b)

  -- an accepted library has no fault, and is the file's; the reports are those of its executables
  record Accepts (j : Judged) : Type 0 where
    none : whole_fault file ≡ Nothing
    same : j.library ≡ library_of file
    reports : j.reports ≡ filled (report_of file p) 0 16 (count_of file) no_report

  module _ {r : Result Judged Refusal} (a : judged_as r ≡ judge_of file) where
    module _ {j : Judged} (h : r ≡ Ok j) where
      accepts : Accepts j
      unfolding judge_of check_of
      accepts =
          let told = sym (ap judged_as h) ∙ a in
          by (whole_fault file) refl (ap (λ x. x.verdict) told) (ap (λ x. x.reports) told)
        where
          by : (f : Fault) → whole_fault file ≡ f → given j.library ≡ answer_by f (library_of file) → j.reports ≡ reports_by f (filled (report_of file p) 0 16 (count_of file) no_report) → Accepts j
          by (At n q) g k r = absurd (let z : ◌≡◌ {A = ℕ} 0 1 = cc in omega arith)
          by Nothing g k r = record { none = g; same = cc; reports = r }

      report_at : (i : ℕ) (d : Report) → i < count_of file → get_or j.reports i d ≡ report_of file p i
      report_at i d k =
          let z : 0 + i ≡ i = omega arith in
          ap (λ x. get_or x i d) accepts.reports ∙ (rw z at (filled_at (report_of file p) 0 16 no_report (count_of file) i d k))

    promises : PromisesAll file r
    promises j h i k =
        let x = accepts h in
        let m : i < count_of file = rw (ap (λ l. l.executables) x.same) at k in
        rw (report_at h i no_report m) (promised file x.none i m)

    pub told : (judged_as r ≡ judge_of file) × PromisesAll file r
    told = (a, promises)

  refused_whole : (e : Refusal) → whole_fault file ≡ faulted (Err e) → judged_as (Err e) ≡ judge_of file
  unfolding judge_of check_of
  refused_whole e h = rw h

  pub refused_by_library : (e : Refusal) → faulted (Err e) ≡ library_fault full_limits file → judged_as (Err e) ≡ judge_of file
  refused_by_library e f = refused_whole e (whole_library (sym f))

  -- a library that has passed 1 to 8, its words loaded
  module _ {q : Program} (a : library_fault full_limits file ≡ Nothing) (b : q ≡ program_of file) where
    pub words_fit : q.words.count ≤ 512
    words_fit = let (some, few, d) = (clean_library file a).no7 in rw b few

    module _ {all : List ℕ} (d : all ≡ loaded_words file q.words) where
      pub loaded : (n : ℕ) → Loaded file (record { executables = n; program = q }) (take q.words.count all)
      loaded n = record { passed = a; program = b; words = loaded_words_lem file q.words d words_fit }

      words_told : {r : Fault} → r ≡ words_fault q.descriptors.count (take q.words.count all) → words_fault p.descriptors.count (words_of file p.words) ≡ r
      words_told f = sym (f ∙ ap (words_fault q.descriptors.count) (loaded_words_lem file q.words d words_fit) ∙ rw b)

      pub refused_by_words : (e : Refusal) → faulted (Err e) ≡ words_fault q.descriptors.count (take q.words.count all) → judged_as (Err e) ≡ judge_of file
      refused_by_words e f = refused_whole e (whole_words a (words_told f))

      -- .. and its words passed
      module _ {n : ℕ} (f : Nothing ≡ words_fault q.descriptors.count (take q.words.count all)) (c : n ≡ count_of file) where
        abbrev left : Fault
        left = first_in (one_executable file q) 0 (n - 0)

        abbrev given_reports : List Report
        given_reports = filled (report_of file q) 0 16 (n - 0) no_report

        whole_left : whole_fault file ≡ left
        whole_left =
            let z : count_of file - 0 ≡ count_of file = omega arith in
            rw (c, b, z) (whole_words a (words_told f))

        pub refused_by_executables : (e : Refusal) → answered {A = List Report} (Err e) ≡ answer_by left given_reports → judged_as (Err e) ≡ judge_of file
        refused_by_executables e h = refused_whole e (whole_left ∙ by left h)
          where
            by : (x : Fault) → answered {A = List Report} (Err e) ≡ answer_by x given_reports → x ≡ faulted (Err e)
            by (At k w) g = cc
            by Nothing g = absurd (let z : ◌≡◌ {A = ℕ} 0 1 = cc in omega arith)

        pub judged_executables : {rs : List Report} → given rs ≡ answer_by left given_reports
            → (judged_as (Ok (record { library = record { executables = n; program = q }; reports = rs })) ≡ judge_of file) × PromisesAll file (Ok (record { library = record { executables = n; program = q }; reports = rs }))
        unfolding judge_of check_of
        judged_executables {rs} h =
            let z : count_of file - 0 ≡ count_of file = omega arith in
            let (k, same) = by left h in
            told (rw (whole_left, k, same, c, b, z))
          where
            by : (x : Fault) → given rs ≡ answer_by x given_reports → (x ≡ Nothing) × (rs ≡ given_reports)
            by (At k w) g = absurd (let z : ◌≡◌ {A = ℕ} 0 1 = cc in omega arith)
            by Nothing g = (refl, cc)

  pub few_executables : {n : ℕ} → library_fault full_limits file ≡ Nothing → n ≡ count_of file → n ≤ 16
  few_executables a e = omega (arith, (clean_library file a).no4)

  -- the check's promise
  pub exactly : {r : Result Library Refusal} → answered r ≡ check_of file → AcceptsClean file r
  unfolding check_of
  exactly {r} e =
      record {
        clean = λ l h. clean file (none l h (whole_fault file) refl (sym e));
        accepted = λ c. back r (e ∙ rw (accepted file c));
      }
    where
      none : (l : Library) → r ≡ Ok l → (f : Fault) → whole_fault file ≡ f → answer_by f (library_of file) ≡ answered r → whole_fault file ≡ Nothing
      none l h (At n q) g k = absurd (let z : ◌≡◌ {A = ℕ} 0 1 = cc (ap answered h) in omega arith)
      none l h Nothing g k = g

      back : (x : Result Library Refusal) → answered x ≡ given (library_of file) → x ≡ Ok (library_of file)
      back (Ok l) h = cc
      back (Err r) h = absurd (let z : ◌≡◌ {A = ℕ} 0 1 = cc in omega arith)

  -- a report's answer and promise: of a refused library, of an executable that is not there, of one that is
  no_promise : (index : ℕ) {e : Refusal} → Promises file index (Err e)
  no_promise index t h = absurd (let z : ◌≡◌ {A = ℕ} 0 1 = cc in omega arith)

  module _ {r : Result Judged Refusal} (a : judged_as r ≡ judge_of file) (index : ℕ) where
    pub report_refused : {e : Refusal} → r ≡ Err e → (answered (Err e) ≡ report_answer file index) × Promises file index (Err e)
    unfolding report_answer judge_of
    report_refused {e} h = let k : check_of file ≡ answered (Err e) = ap (λ x. x.verdict) (sym a ∙ ap judged_as h) in (rw k, no_promise index)

    module _ {j : Judged} (h : r ≡ Ok j) where
      checks : check_of file ≡ given j.library
      unfolding judge_of
      checks = ap (λ x. x.verdict) (sym a ∙ ap judged_as h)

      pub report_missing : {e : Refusal} → number_of e.reason ≡ 29 → e.place ≡ 0 → j.library.executables ≤ index → (answered (Err e) ≡ report_answer file index) × Promises file index (Err e)
      unfolding report_answer
      report_missing g z k = (rw (g, z, checks, le-ltb index j.library.executables k), no_promise index)

      pub below_16 : index < j.library.executables → index < 16
      below_16 k =
          let x = accepts a h in
          let n : j.library.executables ≡ count_of file = ap (λ y. y.executables) x.same in
          omega (arith, (clean file x.none).library.no4)

      pub report_given : (d : Report) → index < j.library.executables → (given (get_or j.reports index d) ≡ report_answer file index) × Promises file index (Ok (get_or j.reports index d))
      unfolding report_answer
      report_given d k =
          let x = accepts a h in
          let n : j.library.executables ≡ count_of file = ap (λ y. y.executables) x.same in
          let q : j.library.program ≡ p = ap (λ y. y.program) x.same in
          let r = report_at a h index d (omega arith) in (
            rw (checks, lt-ltb index j.library.executables k, q, r),
            λ t g. let same : report_of file p index ≡ t = cc in rw same at (promised file x.none index (omega arith)),
          )
