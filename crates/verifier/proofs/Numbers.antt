-- A refusal of the check has one of the numbers 1 to 28. Assumes nothing.
use mathlib.Core.Path.{◌≡◌, refl}
use mathlib.Core.Bool.{true}
use mathlib.Core.List.{List, [], ◌∷◌}
use Prim.Native.Nat.{ℕ, ◌+◌, ◌≤◌}
use native.Mathlib.Omega.{arith}
use lib.ListN.{length, get_or}
use Rattle.answer.specs.Answers.{refused}
use Rattle.answer.specs.Faults.{Fault}
use Rattle.answer.specs.Faults.{Nothing, At}
use Rattle.answer.proofs.Numbers.{numbered, of_tests, of_test, either_way, first_numbered, number_range}
use Rattle.container.specs.Executable.{executable_of, executable_fault}
use Rattle.container.specs.Program.{count_of, program_of, header_fault, program_fault, library_fault}
use Rattle.container.specs.declared.placement.Table.{Table}
use Rattle.container.specs.declared.programs.Limits.{Limits}
use Rattle.container.specs.declared.programs.Program.{Program}
use Rattle.flow.specs.Flow.{code_of, measured_by, flow_of}
use Rattle.flow.specs.Rules.{Code, Rules}
use Rattle.flow.specs.Visits.{Visit, fault_at, first_fault, main_trace, flow_fault}
use Rattle.tables.specs.Constants.{constant_fault}
use Rattle.tables.specs.Entries.{label_fault, output_fault, uniform_fault}
use Rattle.tables.specs.Names.{names_end}
use Rattle.verifier.specs.Executables.{place_of, entry_at, symbols_of, constant_at, label_at, output_at, uniform_at, rules_for, flow_at, one_executable}
use Rattle.verifier.specs.Verdict.{full_limits, library_of, whole_fault, answer_by, check_of}
use Rattle.verifier.specs.Words.{word_fault, words_fault, words_of}

library_numbered : (most : Limits) (file : List ℕ) → numbered (library_fault most file) ≡ true
unfolding library_fault header_fault program_fault
library_numbered most file = simp (of_tests, of_test, either_way)

word_numbered : (descriptors w place : ℕ) → numbered (word_fault descriptors w place) ≡ true
unfolding word_fault
word_numbered descriptors w place = simp (of_tests, of_test, either_way)

words_numbered : (descriptors : ℕ) (ws : List ℕ) → numbered (words_fault descriptors ws) ≡ true
unfolding words_fault
words_numbered descriptors ws = first_numbered (λ p. word_fault descriptors (get_or ws p 0) p) (λ p. word_numbered descriptors (get_or ws p 0) p) 0 (length ws)

section_numbered : (most : ℕ) (words : Table) (file : List ℕ) (index place : ℕ) → numbered (executable_fault most words file index place) ≡ true
unfolding executable_fault
section_numbered most words file index place = simp (of_tests, of_test, either_way)

-- 22 to 28
module _ (C : Code) (R : Rules) where
  visit_numbered : (v : Visit) → numbered (fault_at C R v.opens v.word v.end) ≡ true
  unfolding fault_at
  visit_numbered v = simp (of_tests, of_test, either_way)

  visits_numbered : (before : ℕ) (vs : List Visit) → numbered (first_fault C R before vs) ≡ true
  visits_numbered before [] = refl
  visits_numbered before (v ∷ vs) = simp (of_tests, of_test, visit_numbered v, visits_numbered (before + v.weight) vs, either_way)

  flow_numbered : (main endmain : ℕ) → numbered (flow_fault C R main endmain) ≡ true
  unfolding flow_fault
  flow_numbered main endmain = simp (of_tests, of_test, visits_numbered 0 (main_trace C R main endmain).visits, either_way)

measured_numbered : (place : ℕ) (f : Fault) (vs : List Visit) → numbered f ≡ true → numbered (flow_at place (measured_by f vs)) ≡ true
measured_numbered place Nothing vs h = refl
measured_numbered place (At n p) vs h = h

main_numbered : (place : ℕ) (R : Rules) (ws : List ℕ) (main endmain : ℕ) → numbered (flow_at place (flow_of R ws main endmain)) ≡ true
unfolding flow_of
main_numbered place R ws main endmain =
    let C = code_of ws 0 in
    measured_numbered place (flow_fault C R main endmain) (main_trace C R main endmain).visits (flow_numbered C R main endmain)

-- 18 to 21
constant_numbered : (s : List ℕ) (place : ℕ) → numbered (constant_fault s place) ≡ true
unfolding constant_fault
constant_numbered s place = simp (of_test, either_way)

label_numbered : (s : List ℕ) (words end place : ℕ) → numbered (label_fault s words end place) ≡ true
unfolding label_fault
label_numbered s words end place = simp (of_test, either_way)

output_numbered : (s : List ℕ) (place : ℕ) → numbered (output_fault s place) ≡ true
unfolding output_fault
output_numbered s place = simp (of_test, either_way)

uniform_numbered : (s : List ℕ) (end place : ℕ) → numbered (uniform_fault s end place) ≡ true
unfolding uniform_fault
uniform_numbered s end place = simp (of_test, either_way)

executable_numbered : (file : List ℕ) (p : Program) (index : ℕ) → numbered (one_executable file p index) ≡ true
unfolding one_executable
executable_numbered file p index =
    let e = executable_of file index in
    let place = place_of index in
    let names = names_end (symbols_of file e.symbols) in
    let a = section_numbered 1 p.words file index place in
    let b = first_numbered (constant_at file e place) (λ j. constant_numbered (entry_at file e.constants 20 j) (place + j)) 0 e.constants.count in
    let c = first_numbered (label_at file e place p.words.count) (λ j. label_numbered (entry_at file e.labels 16 j) p.words.count names (place + j)) 0 e.labels.count in
    let d = first_numbered (output_at file e place) (λ j. output_numbered (entry_at file e.outputs 8 j) (place + j)) 0 e.outputs.count in
    let f = first_numbered (uniform_at file e place) (λ j. uniform_numbered (entry_at file e.uniforms 8 j) names (place + j)) 0 e.uniforms.count in
    let g = main_numbered place (rules_for e) (words_of file p.words) e.main.0 e.endmain.0 in
    simp (of_tests, a, b, c, d, f, g, either_way)

whole_numbered : (file : List ℕ) → numbered (whole_fault file) ≡ true
unfolding whole_fault
whole_numbered file =
    let p = program_of file in
    let a = library_numbered full_limits file in
    let b = words_numbered p.descriptors.count (words_of file p.words) in
    let c = first_numbered (one_executable file p) (executable_numbered file p) 0 (count_of file) in
    simp (of_tests, a, b, c, either_way)

pub refusal_number : (file : List ℕ) {n q : ℕ} → check_of file ≡ refused n q → (1 ≤ n) × (n ≤ 28)
unfolding check_of
refusal_number file {n} {q} e = by (whole_fault file) (whole_numbered file) e
  where
    by : (f : Fault) → numbered f ≡ true → answer_by f (library_of file) ≡ refused n q → (1 ≤ n) × (n ≤ 28)
    by (At k p) h g = let s : k ≡ n = cc in rw s at (number_range k p h)
    by Nothing h g = absurd (let z : ◌≡◌ {A = ℕ} 0 1 = cc in omega arith)
