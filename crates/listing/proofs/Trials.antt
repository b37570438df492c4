-- The example of document 01, a whole file: its listing and its report in buffers that are a byte short, just
-- long enough and a byte too long. Assumes nothing.
use mathlib.Core.Path.{◌≡◌, refl}
use mathlib.Core.List.{List, [], ◌∷◌, ◌++◌, map}
use Prim.Native.Nat.{ℕ}
use lib.ListN.{replicate}
use Rattle.answer.specs.Answers.{given, refused}
use Rattle.answer.specs.Faults.{first_in}
use Rattle.container.specs.Executable.{misplaced_section, bad_entry, misplaced_tables, overlapped_by_tables, executable_fault}
use Rattle.container.specs.Placement.{misplaced, words_meet}
use Rattle.container.specs.Program.{header_fault, bad_sizes, misplaced_table, overlapped_words, program_fault, library_fault}
use Rattle.flow.specs.Flow.{flow_of}
use Rattle.flow.specs.Own.{own_from, own_words}
use Rattle.flow.specs.Visits.{fault_at, parts, visit, region, trace_to, spare, size, trace, main_trace, flow_fault}
use Rattle.instruction.specs.Control.{control_of}
use Rattle.instruction.specs.Operands.{descriptor_of, operators_of}
use Rattle.instruction.specs.Operations.{operations, format_of}
use Rattle.instruction.specs.Words.{decode_of}
use Rattle.listing.specs.Listing.{records_of, list_answer, listed_bytes, summary_answer, summary_bytes}
use Rattle.tables.specs.Names.{meets0, names_end}
use Rattle.text.specs.Pieces.{bytes, digits, decimal, lettered, labelled, name_text}
use Rattle.text.specs.Records.{line_text, report_text}
use Rattle.text.specs.Registers.{source_text, destination_text}
use Rattle.verifier.specs.Executables.{one_executable, ones_in, report_of}
use Rattle.verifier.specs.Lists.{list_of}
use Rattle.verifier.specs.Verdict.{whole_fault, check_of}
use Rattle.verifier.specs.Words.{word_fault, words_fault}

example : List ℕ
example =
    68 ∷ 86 ∷ 76 ∷ 66 ∷ 1 ∷ 0 ∷ 0 ∷ 0 ∷ 80 ∷ 0 ∷ 0 ∷ 0 ∷ 68 ∷ 86 ∷ 76 ∷ 80 ∷ 2 ∷ 16 ∷ 0 ∷ 0 ∷ 40 ∷ 0 ∷ 0 ∷ 0 ∷
    5 ∷ 0 ∷ 0 ∷ 0 ∷ 60 ∷ 0 ∷ 0 ∷ 0 ∷ 1 ∷ 0 ∷ 0 ∷ 0 ∷ 68 ∷ 0 ∷ 0 ∷ 0 ∷ 0 ∷ 0 ∷ 0 ∷ 0 ∷ 68 ∷ 0 ∷ 0 ∷ 0 ∷
    0 ∷ 0 ∷ 0 ∷ 0 ∷ 0 ∷ 0 ∷ 0 ∷ 76 ∷ 0 ∷ 12 ∷ 192 ∷ 156 ∷ 0 ∷ 81 ∷ 34 ∷ 2 ∷ 0 ∷ 0 ∷ 0 ∷ 132 ∷ 0 ∷ 0 ∷ 0 ∷ 136 ∷
    111 ∷ 195 ∷ 134 ∷ 13 ∷ 15 ∷ 0 ∷ 0 ∷ 0 ∷ 68 ∷ 86 ∷ 76 ∷ 69 ∷ 2 ∷ 16 ∷ 0 ∷ 0 ∷ 0 ∷ 0 ∷ 0 ∷ 0 ∷ 5 ∷ 0 ∷ 0 ∷ 0 ∷
    1 ∷ 0 ∷ 1 ∷ 0 ∷ 0 ∷ 0 ∷ 0 ∷ 0 ∷ 64 ∷ 0 ∷ 0 ∷ 0 ∷ 0 ∷ 0 ∷ 0 ∷ 0 ∷ 64 ∷ 0 ∷ 0 ∷ 0 ∷ 0 ∷ 0 ∷ 0 ∷ 0 ∷
    64 ∷ 0 ∷ 0 ∷ 0 ∷ 0 ∷ 0 ∷ 0 ∷ 0 ∷ 64 ∷ 0 ∷ 0 ∷ 0 ∷ 0 ∷ 0 ∷ 0 ∷ 0 ∷ 64 ∷ 0 ∷ 0 ∷ 0 ∷ 0 ∷ 0 ∷ 0 ∷ 0 ∷
    []

listing : List ℕ
listing =
    bytes "0000 4C000000 MOV     o0.xyzw,v0.xyzw                                          \n"
    ++ bytes "0001 9CC00C00 IFU     b3 0003+00                                               \n"
    ++ bytes "0002 02225100 ADD     r1.xyzw,c5.xyzw,v2.xyzw                                  \n"
    ++ bytes "0003 84000000 NOP                                                              \n"
    ++ bytes "0004 88000000 END                                                              \n"

summary : List ℕ
summary = bytes "exe 00 type 0 main 0000 end 0005 in 01 out 01 con 0000 words 0005 most 0000005 \n"

answers : map (list_answer example) (399 ∷ 400 ∷ 401 ∷ []) ++ map (summary_answer example) (79 ∷ 80 ∷ 81 ∷ [])
    ≡ refused 30 0 ∷ given 400 ∷ given 400 ∷ refused 30 0 ∷ given 80 ∷ given 80 ∷ []
unfolding example list_answer summary_answer check_of whole_fault library_fault header_fault program_fault bad_sizes misplaced_table misplaced overlapped_words words_meet words_fault word_fault one_executable executable_fault misplaced_section bad_entry misplaced_tables overlapped_by_tables flow_of flow_fault main_trace trace trace_to region visit parts fault_at spare size own_words own_from control_of decode_of format_of operations operators_of descriptor_of report_of first_in list_of ones_in names_end meets0
answers = refl

listings : map (listed_bytes example) (replicate 399 7 ∷ replicate 401 7 ∷ []) ≡ replicate 399 7 ∷ (listing ++ 7 ∷ []) ∷ []
unfolding example listing list_answer listed_bytes check_of whole_fault library_fault header_fault program_fault bad_sizes misplaced_table misplaced overlapped_words words_meet words_fault word_fault one_executable executable_fault misplaced_section bad_entry misplaced_tables overlapped_by_tables flow_of flow_fault main_trace trace trace_to region visit parts fault_at spare size own_words own_from control_of decode_of format_of operations operators_of descriptor_of report_of first_in list_of ones_in names_end meets0 records_of line_text source_text destination_text digits decimal lettered name_text
listings = refl

summaries : map (summary_bytes example) (replicate 79 7 ∷ replicate 81 7 ∷ []) ≡ replicate 79 7 ∷ (summary ++ 7 ∷ []) ∷ []
unfolding example summary summary_answer summary_bytes records_of report_text labelled digits check_of whole_fault library_fault header_fault program_fault bad_sizes misplaced_table misplaced overlapped_words words_meet words_fault word_fault one_executable executable_fault misplaced_section bad_entry misplaced_tables overlapped_by_tables flow_of flow_fault main_trace trace trace_to region visit parts fault_at spare size own_words own_from control_of decode_of format_of operations operators_of descriptor_of report_of first_in list_of ones_in names_end meets0
summaries = refl
