-- Judging executables one after another: what is left of the answer at each stage of one of them.
-- Assumes nothing.
use mathlib.Core.Path.{◌≡◌, refl, sym, ap, ◌∙◌}
use mathlib.Core.Bool.{true, false}
use mathlib.Core.List.{List}
use Prim.Native.Nat.{ℕ, ◌+◌, ◌*◌, ◌-◌, ◌≤◌, ◌<◌}
use native.Mathlib.Omega.{arith}
use lib.ListN.{length, set, replicate}
use Rattle.std.specs.Prelude.{Result, Ok, Err, is_err}
use Rattle.answer.specs.Answers.{given, answered}
use Rattle.answer.specs.Faults.{Fault, Nothing, At, or_else, first_in, faulted}
use Rattle.answer.specs.Reasons.{number_of}
use Rattle.answer.specs.declared.Refusal.{Refusal}
use Rattle.answer.proofs.Laws.{or_assoc, or_nothing, here, pass}
use Rattle.container.specs.Executable.{executable_of, executable_fault}
use Rattle.container.specs.declared.executables.Executable.{Executable}
use Rattle.container.specs.declared.programs.Program.{Program}
use Rattle.container.specs.Program.{program_of}
use Rattle.flow.proofs.Tests.{false_not_true}
use Rattle.flow.proofs.Places.{refused_inside, entered}
use Rattle.flow.specs.Flow.{flow_answer, flow_of}
use Rattle.flow.specs.declared.entry.Measured.{Measured}
use Rattle.verifier.specs.Clean.{ExecutableTables}
use Rattle.verifier.specs.Executables.{rules_for, no_report, report_with, report_of}
use Rattle.verifier.specs.Lists.{filled}
use Rattle.verifier.specs.Inside.{Loaded}
use Rattle.verifier.specs.Verdict.{answer_by}
use Rattle.verifier.specs.declared.verdict.Library.{Library}
use Rattle.verifier.specs.declared.verdict.Report.{Report}
use Rattle.verifier.proofs.Lists.{length_list, filled_none, filled_next}
use Rattle.verifier.proofs.Placing.{clean_library, headed, entry_inside}
use Rattle.verifier.specs.Executables.{place_of, constant_at, label_at, output_at, uniform_at, flow_in, flow_at, one_executable}
use Rattle.verifier.specs.Words.{words_of}

module _ (file : List ℕ) (p : Program) (first end : ℕ) where
  -- the answer
  abbrev pub All : Fault
  All = first_in (one_executable file p) first (end - first)

  -- what is left of it from an executable on
  abbrev pub From : ℕ → Fault
  From index = or_else (first_in (one_executable file p) index (end - index)) Nothing

  pub begin : All ≡ From first
  begin = sym (or_nothing All)

  module _ (index : ℕ) (e : Executable) (place : ℕ) where
    -- what is left from its flow check on, from its uniforms on, .., from its constants on
    abbrev pub FromFlow : Fault
    FromFlow = or_else (flow_at place (flow_in (words_of file p.words) e)) (From (index + 1))

    abbrev pub FromUniforms : Fault
    FromUniforms = or_else (first_in (uniform_at file e place) 0 e.uniforms.count) FromFlow

    abbrev pub FromOutputs : Fault
    FromOutputs = or_else (first_in (output_at file e place) 0 e.outputs.count) FromUniforms

    abbrev pub FromLabels : Fault
    FromLabels = or_else (first_in (label_at file e place p.words.count) 0 e.labels.count) FromOutputs

    abbrev pub FromConstants : Fault
    FromConstants = or_else (first_in (constant_at file e place) 0 e.constants.count) FromLabels

  module _ (index : ℕ) (inv : All ≡ From index) (h : index < end) where
    pub at_head : All ≡ or_else (executable_fault 1 p.words file index (place_of index)) (FromConstants index (executable_of file index) (place_of index))
    unfolding one_executable
    at_head = inv ∙ here (one_executable file p) index end Nothing h ∙ simp or_assoc

    pub past_head : {e : Executable} → e ≡ executable_of file index → executable_fault 1 p.words file index (place_of index) ≡ Nothing → All ≡ FromConstants index e (place_of index)
    past_head q k = rw q (pass _ _ at_head k)

-- a test of an entry's bytes, and of names
pub seen : (f : List ℕ → Fault) {x y : List ℕ} {r : Fault} → x ≡ y → r ≡ f x → f y ≡ r
seen f q k = sym (k ∙ ap f q)

pub seen_names : (f : ℕ → List ℕ → Fault) {m n : ℕ} {x y : List ℕ} {r : Fault} → m ≡ n → x ≡ y → r ≡ f m x → f n y ≡ r
seen_names f z q k = sym (k ∙ rw (z, q))

-- what is known of a library whose executables are judged
module _ {file ws : List ℕ} {l : Library} (known : Loaded file l ws) where
  short : length file ≤ 65536
  short = (clean_library file known.passed).no1

  pub sizes : (1 ≤ length ws) × (length ws ≤ 512) × (length ws ≡ l.program.words.count)
  sizes =
      let (a, b, c) = (clean_library file known.passed).no7 in
      let n : length ws ≡ l.program.words.count = ap length known.words ∙ length_list _ 0 _ in
      let m : l.program.words.count ≡ (program_of file).words.count = ap (λ p. p.words.count) known.program in
      (omega arith, omega arith, n)

  module _ (index : ℕ) {e : Executable} (q : e ≡ executable_of file index) (passed : executable_fault 1 l.program.words file index (place_of index) ≡ Nothing) where
    tables_of : ExecutableTables file l.program.words e
    tables_of = rw q (headed file l.program.words index (place_of index) passed).tables

    pub constants_fit : (j : ℕ) → j < e.constants.count → e.constants.start.0 + j * 20 ≤ 65536
    constants_fit j h = omega (arith, short, entry_inside 4 20 (length file) e.constants tables_of.constants j h)

    pub labels_fit : (j : ℕ) → j < e.labels.count → e.labels.start.0 + j * 16 ≤ 65536
    labels_fit j h = omega (arith, short, entry_inside 4 16 (length file) e.labels tables_of.labels j h)

    pub outputs_fit : (j : ℕ) → j < e.outputs.count → e.outputs.start.0 + j * 8 ≤ 65536
    outputs_fit j h = omega (arith, short, entry_inside 4 8 (length file) e.outputs tables_of.outputs j h)

    pub uniforms_fit : (j : ℕ) → j < e.uniforms.count → e.uniforms.start.0 + j * 8 ≤ 65536
    uniforms_fit j h = omega (arith, short, entry_inside 4 8 (length file) e.uniforms tables_of.uniforms j h)

    bounds : (e.shader_type ≤ 1) × (e.main.0 < e.endmain.0) × (e.endmain.0 ≤ length ws)
    bounds =
        let h = headed file l.program.words index (place_of index) passed in
        let (a, b, n) = sizes in
        rw q (h.type, h.main, omega (arith, h.endmain))

    -- the flow check's answer
    module _ (r : Result Measured Refusal) (answer : answered r ≡ flow_answer ws e.shader_type e.main.0 e.endmain.0) where
      pub flow_told : flow_in (words_of file l.program.words) e ≡ answered r
      flow_told =
          let (a, b, n) = sizes in
          let (t, m, o) = bounds in
          rw (← known.words) (sym (answer ∙ entered ws e.shader_type e.main.0 e.endmain.0 a b t m o))

      pub word_inside : {e : Refusal} → r ≡ Err e → e.place < 512
      word_inside {e = f} k =
          let (a, b, n) = sizes in
          let (t, m, o) = bounds in
          let told : flow_of (rules_for e) ws e.main.0 e.endmain.0 ≡ answered (Err f) =
          sym (entered ws e.shader_type e.main.0 e.endmain.0 a b t m o) ∙ sym answer ∙ ap answered k in
          omega (arith, refused_inside (rules_for e) ws e.main.0 e.endmain.0 m o told)

      -- .. is a refusal of the executable, or its report and the executables after it
      module _ (first end : ℕ) (left : All file l.program first end ≡ FromFlow file l.program first end index e (place_of index)) where
        pub flow_stops : {f : Refusal} → r ≡ Err f → At (number_of f.reason) (place_of index + f.place) ≡ All file l.program first end
        flow_stops k = sym (left ∙ rw (flow_told, k))

        pub flow_goes_on : {m : Measured} → r ≡ Ok m → All file l.program first end ≡ From file l.program first end (index + 1)
        flow_goes_on k = left ∙ rw (flow_told, k)

      pub report_told : {m : Measured} {t : Report} → r ≡ Ok m → t ≡ report_with e (given m) → t ≡ report_of file l.program index
      unfolding report_of
      report_told {m} k g =
          let f : flow_in (words_of file l.program.words) (executable_of file index) ≡ given m =
          ap (flow_in (words_of file l.program.words)) (sym q) ∙ flow_told ∙ ap answered k in
          g ∙ ap (λ x. report_with x (given m)) q ∙ ap (report_with (executable_of file index)) (sym f)

      pub report_added : (first : ℕ) {m : Measured} {t : Report} {rs : List Report} → first ≤ index → index < 16
          → rs ≡ filled (report_of file l.program) first 16 (index - first) no_report
          → r ≡ Ok m → t ≡ report_with e (given m)
          → set rs (index - first) t ≡ filled (report_of file l.program) first 16 (index + 1 - first) no_report
      report_added first o b f k g =
          let y : first + (index - first) ≡ index = omega arith in
          let z : index - first + 1 ≡ index + 1 - first = omega arith in
          rw (f, report_told k g) (rw (y, z) at (filled_next (report_of file l.program) first 16 no_report (index - first) (omega arith)))

-- before the first executable
pub none_yet : (f : ℕ → Report) (first : ℕ) {r : Report} → r ≡ no_report → replicate 16 r ≡ filled f first 16 (first - first) no_report
none_yet f first e =
    let z : first - first ≡ 0 = omega arith in
    rw (z, e) (filled_none f first 16 no_report)

-- where the loop is left: what was found is the answer, and if that is no fault, the loop is over
abbrev pub Left : Fault → Result Unit Refusal → Type 0 → Type 0
Left A found over = (faulted found ≡ A) × (faulted found ≡ Nothing → over)

pub left_by : {A : Fault} {found r : Result Unit Refusal} {over : Type 0} → found ≡ r → is_err r ≡ true → faulted r ≡ A → Left A found over
left_by {A} {found} {r} {over} a b c = (ap faulted a ∙ c, λ e. absurd (by r b (sym (ap faulted a) ∙ e)))
  where
    by : (x : Result Unit Refusal) → is_err x ≡ true → faulted x ≡ Nothing → ⊥
    by (Ok u) g h = false_not_true g
    by (Err f) g h = let z : ◌≡◌ {A = ℕ} 0 1 = cc in omega arith

-- a test that found a fault, and one that found none
pub found_by : {A x : Fault} (r : Result Unit Refusal) → is_err r ≡ true → faulted r ≡ x → ((n p : ℕ) → x ≡ At n p → At n p ≡ A) → faulted r ≡ A
found_by (Ok u) b e k = absurd (false_not_true b)
found_by (Err f) b e k = k _ _ (sym e)

pub passes : (r : Result Unit Refusal) → is_err r ≡ false → faulted r ≡ Nothing
passes (Ok u) b = refl
passes (Err f) b = absurd (false_not_true (sym b))

-- what is answered then
pub told_refused : {A : Fault} {found : Result Unit Refusal} {e : Refusal} (us : List Report) → faulted found ≡ A → found ≡ Err e → answered {A = List Report} (Err e) ≡ answer_by A us
told_refused us a b = rw (← a, b)

pub told_reports : {A : Fault} {found : Result Unit Refusal} {u : Unit} {rs us : List Report} → faulted found ≡ A → found ≡ Ok u → rs ≡ us → given rs ≡ answer_by A us
told_reports a b c = rw (← a, b, c)
