-- Whole files through the walk and the constant call: every condition with and without truth, lists that are
-- too short and too long, the refusals in their order, and a constant of each kind. Assumes nothing.
use mathlib.Core.Path.{◌≡◌, refl}
use mathlib.Core.Bool.{true}
use mathlib.Core.List.{List, [], ◌∷◌, ◌++◌, map}
use Prim.Native.Nat.{ℕ}
use lib.Ieee.{binary32, of_bits}
use lib.ListN.{replicate, take}
use Rattle.answer.specs.Answers.{given, refused}
use Rattle.answer.specs.Faults.{first_in}
use Rattle.container.specs.Executable.{misplaced_section, bad_entry, misplaced_tables, overlapped_by_tables, executable_fault}
use Rattle.container.specs.Placement.{misplaced, words_meet}
use Rattle.container.specs.Program.{header_fault, bad_sizes, misplaced_table, overlapped_words, program_fault, library_fault}
use Rattle.flow.specs.Flow.{flow_of}
use Rattle.flow.specs.Own.{own_from, own_words}
use Rattle.flow.specs.Stepping.{arrive, break, execute, step, run}
use Rattle.flow.specs.Visits.{fault_at, parts, visit, region, trace_to, spare, size, trace, main_trace, flow_fault}
use Rattle.instruction.specs.Control.{control_of}
use Rattle.instruction.specs.Operands.{descriptor_of, operators_of}
use Rattle.instruction.specs.Operations.{operations, format_of}
use Rattle.instruction.specs.Words.{decode_of}
use Rattle.tables.specs.Constants.{convert_of, constant_fault}
use Rattle.tables.specs.Float24.{good_float24, f32_bits}
use Rattle.tables.specs.Names.{meets0, names_end}
use Rattle.tables.specs.declared.constants.Constant.TheVariants.{Flag, Bytes, Vector}
use Rattle.verifier.specs.Executables.{one_executable, ones_in, report_of}
use Rattle.verifier.specs.Lists.{list_of}
use Rattle.verifier.specs.Verdict.{whole_fault, check_of}
use Rattle.verifier.specs.Words.{word_fault, words_fault}
use Rattle.walk.specs.Constants.{constant_answer}
use Rattle.walk.specs.Walk.{run_of, walk_fetches, steps_of, written_to}

-- sixteen words: IFC, CALLC, BREAKC and JMPC among them, a LOOP, an IFU of NUM 0
conditions : List ℕ
conditions =
    68 ∷ 86 ∷ 76 ∷ 66 ∷ 1 ∷ 0 ∷ 0 ∷ 0 ∷ 124 ∷ 0 ∷ 0 ∷ 0 ∷ 68 ∷ 86 ∷ 76 ∷ 80 ∷ 2 ∷ 16 ∷ 0 ∷ 0 ∷ 40 ∷ 0 ∷ 0 ∷ 0 ∷
    16 ∷ 0 ∷ 0 ∷ 0 ∷ 104 ∷ 0 ∷ 0 ∷ 0 ∷ 1 ∷ 0 ∷ 0 ∷ 0 ∷ 112 ∷ 0 ∷ 0 ∷ 0 ∷ 0 ∷ 0 ∷ 0 ∷ 0 ∷ 112 ∷ 0 ∷ 0 ∷ 0 ∷
    0 ∷ 0 ∷ 0 ∷ 0 ∷ 0 ∷ 8 ∷ 0 ∷ 162 ∷ 0 ∷ 0 ∷ 0 ∷ 132 ∷ 0 ∷ 16 ∷ 64 ∷ 161 ∷ 0 ∷ 0 ∷ 0 ∷ 132 ∷ 0 ∷ 24 ∷ 128 ∷ 163 ∷
    0 ∷ 0 ∷ 0 ∷ 132 ∷ 0 ∷ 32 ∷ 192 ∷ 160 ∷ 0 ∷ 0 ∷ 0 ∷ 132 ∷ 0 ∷ 40 ∷ 192 ∷ 164 ∷ 0 ∷ 0 ∷ 64 ∷ 141 ∷ 0 ∷ 0 ∷ 0 ∷ 132 ∷
    1 ∷ 60 ∷ 128 ∷ 148 ∷ 1 ∷ 60 ∷ 192 ∷ 155 ∷ 0 ∷ 56 ∷ 64 ∷ 179 ∷ 0 ∷ 0 ∷ 0 ∷ 136 ∷ 0 ∷ 0 ∷ 0 ∷ 132 ∷ 111 ∷ 195 ∷ 134 ∷ 13 ∷
    15 ∷ 0 ∷ 0 ∷ 0 ∷ 68 ∷ 86 ∷ 76 ∷ 69 ∷ 2 ∷ 16 ∷ 0 ∷ 0 ∷ 0 ∷ 0 ∷ 0 ∷ 0 ∷ 15 ∷ 0 ∷ 0 ∷ 0 ∷ 1 ∷ 0 ∷ 1 ∷ 0 ∷
    0 ∷ 0 ∷ 0 ∷ 0 ∷ 64 ∷ 0 ∷ 0 ∷ 0 ∷ 0 ∷ 0 ∷ 0 ∷ 0 ∷ 64 ∷ 0 ∷ 0 ∷ 0 ∷ 0 ∷ 0 ∷ 0 ∷ 0 ∷ 64 ∷ 0 ∷ 0 ∷ 0 ∷
    0 ∷ 0 ∷ 0 ∷ 0 ∷ 64 ∷ 0 ∷ 0 ∷ 0 ∷ 0 ∷ 0 ∷ 0 ∷ 0 ∷ 64 ∷ 0 ∷ 0 ∷ 0 ∷ 0 ∷ 0 ∷ 0 ∷ 0 ∷
    []

-- document 01's example with three constants: a bool, an integer, a vector
constants : List ℕ
constants =
    68 ∷ 86 ∷ 76 ∷ 66 ∷ 1 ∷ 0 ∷ 0 ∷ 0 ∷ 80 ∷ 0 ∷ 0 ∷ 0 ∷ 68 ∷ 86 ∷ 76 ∷ 80 ∷ 2 ∷ 16 ∷ 0 ∷ 0 ∷ 40 ∷ 0 ∷ 0 ∷ 0 ∷
    5 ∷ 0 ∷ 0 ∷ 0 ∷ 60 ∷ 0 ∷ 0 ∷ 0 ∷ 1 ∷ 0 ∷ 0 ∷ 0 ∷ 68 ∷ 0 ∷ 0 ∷ 0 ∷ 0 ∷ 0 ∷ 0 ∷ 0 ∷ 68 ∷ 0 ∷ 0 ∷ 0 ∷
    0 ∷ 0 ∷ 0 ∷ 0 ∷ 0 ∷ 0 ∷ 0 ∷ 76 ∷ 0 ∷ 12 ∷ 192 ∷ 156 ∷ 0 ∷ 81 ∷ 34 ∷ 2 ∷ 0 ∷ 0 ∷ 0 ∷ 132 ∷ 0 ∷ 0 ∷ 0 ∷ 136 ∷
    111 ∷ 195 ∷ 134 ∷ 13 ∷ 15 ∷ 0 ∷ 0 ∷ 0 ∷ 68 ∷ 86 ∷ 76 ∷ 69 ∷ 2 ∷ 16 ∷ 0 ∷ 0 ∷ 0 ∷ 0 ∷ 0 ∷ 0 ∷ 5 ∷ 0 ∷ 0 ∷ 0 ∷
    1 ∷ 0 ∷ 1 ∷ 0 ∷ 0 ∷ 0 ∷ 0 ∷ 0 ∷ 64 ∷ 0 ∷ 0 ∷ 0 ∷ 3 ∷ 0 ∷ 0 ∷ 0 ∷ 64 ∷ 0 ∷ 0 ∷ 0 ∷ 0 ∷ 0 ∷ 0 ∷ 0 ∷
    64 ∷ 0 ∷ 0 ∷ 0 ∷ 0 ∷ 0 ∷ 0 ∷ 0 ∷ 64 ∷ 0 ∷ 0 ∷ 0 ∷ 0 ∷ 0 ∷ 0 ∷ 0 ∷ 64 ∷ 0 ∷ 0 ∷ 0 ∷ 0 ∷ 0 ∷ 0 ∷ 0 ∷
    0 ∷ 0 ∷ 0 ∷ 0 ∷ 1 ∷ 0 ∷ 0 ∷ 0 ∷ 0 ∷ 0 ∷ 0 ∷ 0 ∷ 0 ∷ 0 ∷ 0 ∷ 0 ∷ 0 ∷ 0 ∷ 0 ∷ 0 ∷ 1 ∷ 0 ∷ 1 ∷ 0 ∷
    1 ∷ 2 ∷ 3 ∷ 255 ∷ 0 ∷ 0 ∷ 0 ∷ 0 ∷ 0 ∷ 0 ∷ 0 ∷ 0 ∷ 0 ∷ 0 ∷ 0 ∷ 0 ∷ 2 ∷ 0 ∷ 2 ∷ 0 ∷ 0 ∷ 0 ∷ 63 ∷ 0 ∷
    0 ∷ 0 ∷ 191 ∷ 0 ∷ 0 ∷ 128 ∷ 63 ∷ 0 ∷ 0 ∷ 0 ∷ 128 ∷ 0 ∷
    []

fetches :
    walk_fetches conditions 0 (0 ∷ 0 ∷ 0 ∷ 0 ∷ 0 ∷ 0 ∷ 0 ∷ 0 ∷ 0 ∷ 0 ∷ 0 ∷ 0 ∷ 0 ∷ 0 ∷ 0 ∷ 0 ∷ []) (0 ∷ 0 ∷ 0 ∷ 0 ∷ []) ([])
    ∷ walk_fetches conditions 0 (1 ∷ 1 ∷ 1 ∷ 1 ∷ 1 ∷ 1 ∷ 1 ∷ 1 ∷ 1 ∷ 1 ∷ 1 ∷ 1 ∷ 1 ∷ 1 ∷ 1 ∷ 1 ∷ []) (1 ∷ 2 ∷ 1 ∷ 4 ∷ []) (0 ∷ 7 ∷ 7 ∷ 1 ∷ 0 ∷ 7 ∷ 7 ∷ 7 ∷ 0 ∷ [])
    ∷ walk_fetches conditions 0 (255 ∷ 0 ∷ 1 ∷ 255 ∷ 0 ∷ 0 ∷ 1 ∷ 255 ∷ 0 ∷ 255 ∷ 255 ∷ 1 ∷ 1 ∷ 0 ∷ 0 ∷ 1 ∷ []) (1 ∷ 4 ∷ 1 ∷ 4 ∷ []) (1 ∷ 0 ∷ 1 ∷ [])
    ∷ []
    ≡ given (0 ∷ 2 ∷ 4 ∷ 6 ∷ 8 ∷ 9 ∷ 10 ∷ 11 ∷ 12 ∷ 13 ∷ 14 ∷ [])
    ∷ given (0 ∷ 2 ∷ 3 ∷ 4 ∷ 5 ∷ 6 ∷ 7 ∷ 8 ∷ 9 ∷ 10 ∷ 9 ∷ 11 ∷ 15 ∷ 12 ∷ 15 ∷ 13 ∷ 14 ∷ [])
    ∷ given (0 ∷ 1 ∷ 2 ∷ 4 ∷ 5 ∷ 6 ∷ 8 ∷ 9 ∷ 10 ∷ 9 ∷ 10 ∷ 9 ∷ 10 ∷ 9 ∷ 10 ∷ 9 ∷ 10 ∷ 11 ∷ 12 ∷ 15 ∷ 13 ∷ 14 ∷ [])
    ∷ []
unfolding conditions check_of whole_fault library_fault header_fault program_fault bad_sizes misplaced_table misplaced overlapped_words words_meet words_fault word_fault one_executable executable_fault misplaced_section bad_entry misplaced_tables overlapped_by_tables flow_of flow_fault main_trace trace trace_to region visit parts fault_at spare size own_words own_from control_of decode_of format_of operations operators_of descriptor_of report_of first_in list_of ones_in names_end meets0 walk_fetches run_of run step execute arrive break
fetches = refl

bytes : ℕ → List ℕ
bytes n = replicate n 0

-- the steps, and lists that are longer, shorter and empty
lists : map (λ l. written_to l (walk_fetches conditions 0 (bytes 16) (bytes 4) [])) (replicate 13 7 ∷ replicate 3 7 ∷ [] ∷ [])
    ≡ (0 ∷ 2 ∷ 4 ∷ 6 ∷ 8 ∷ 9 ∷ 10 ∷ 11 ∷ 12 ∷ 13 ∷ 14 ∷ 7 ∷ 7 ∷ []) ∷ (0 ∷ 2 ∷ 4 ∷ []) ∷ [] ∷ []
unfolding conditions bytes check_of whole_fault library_fault header_fault program_fault bad_sizes misplaced_table misplaced overlapped_words words_meet words_fault word_fault one_executable executable_fault misplaced_section bad_entry misplaced_tables overlapped_by_tables flow_of flow_fault main_trace trace trace_to region visit parts fault_at spare size own_words own_from control_of decode_of format_of operations operators_of descriptor_of report_of first_in list_of ones_in names_end meets0 walk_fetches run_of run step execute arrive break
lists = refl

-- the check's refusal, then 29, then 30; a list then stays
refusals :
    map steps_of
    (walk_fetches (take 187 conditions) 1 [] [] []
    ∷ walk_fetches conditions 1 [] [] []
    ∷ walk_fetches conditions 0 (bytes 15) (bytes 4) []
    ∷ walk_fetches conditions 0 (bytes 16) (bytes 3) []
    ∷ walk_fetches conditions 0 (bytes 16) (bytes 4) []
    ∷ [])
    ≡ refused 13 0 ∷ refused 29 0 ∷ refused 30 0 ∷ refused 30 0 ∷ given 11 ∷ []
unfolding conditions bytes check_of whole_fault library_fault header_fault program_fault bad_sizes misplaced_table misplaced overlapped_words words_meet words_fault word_fault one_executable executable_fault misplaced_section bad_entry misplaced_tables overlapped_by_tables flow_of flow_fault main_trace trace trace_to region visit parts fault_at spare size own_words own_from control_of decode_of format_of operations operators_of descriptor_of report_of first_in list_of ones_in names_end meets0 walk_fetches run_of run step execute arrive break
refusals = refl

kept : map (λ bools. written_to (7 ∷ 7 ∷ []) (walk_fetches conditions 0 bools (bytes 4) [])) (bytes 15 ∷ bytes 16 ∷ []) ≡ (7 ∷ 7 ∷ []) ∷ (0 ∷ 2 ∷ []) ∷ []
unfolding conditions bytes check_of whole_fault library_fault header_fault program_fault bad_sizes misplaced_table misplaced overlapped_words words_meet words_fault word_fault one_executable executable_fault misplaced_section bad_entry misplaced_tables overlapped_by_tables flow_of flow_fault main_trace trace trace_to region visit parts fault_at spare size own_words own_from control_of decode_of format_of operations operators_of descriptor_of report_of first_in list_of ones_in names_end meets0 walk_fetches run_of run step execute arrive break
kept = refl

-- each constant, the first that is not there, and an executable that is not there
handed : map (constant_answer constants 0) (0 ∷ 1 ∷ 2 ∷ 3 ∷ []) ++ map (constant_answer constants 1) (0 ∷ []) ++ map (constant_answer (take 203 constants) 0) (0 ∷ [])
    ≡ given (Flag true)
    ∷ given (Bytes (record { x = 1; y = 2; z = 3; w = 255 }))
    ∷ given (Vector (record { x = of_bits binary32 0x3f800000; y = of_bits binary32 0xbf800000; z = of_bits binary32 0x3fc00000; w = of_bits binary32 0x80000000 }))
    ∷ refused 29 0
    ∷ refused 29 0
    ∷ refused 17 0
    ∷ []
unfolding constants check_of whole_fault library_fault header_fault program_fault bad_sizes misplaced_table misplaced overlapped_words words_meet words_fault word_fault one_executable executable_fault misplaced_section bad_entry misplaced_tables overlapped_by_tables flow_of flow_fault main_trace trace trace_to region visit parts fault_at spare size own_words own_from control_of decode_of format_of operations operators_of descriptor_of report_of first_in list_of ones_in names_end meets0 constant_answer constant_fault convert_of good_float24 f32_bits
handed = refl
