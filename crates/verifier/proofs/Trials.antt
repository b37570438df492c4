-- P1 to P12 of document 01 as one list, checked by one statement: whole files through the check, the report,
-- the stepping rules and the constants. Assumes nothing.
use mathlib.Core.Path.{◌≡◌, refl}
use mathlib.Core.Bool.{Bool, true, false}
use mathlib.Core.List.{List, [], ◌∷◌, ◌++◌, map}
use Prim.Native.Nat.{ℕ, ◌+◌, ◌*◌, ◌-◌, ◌/◌, ◌%◌}
use lib.Ieee.{Float, binary32, of_bits}
use lib.ListN.{length, replicate}
use Rattle.answer.specs.Answers.{Answer, given, refused}
use Rattle.answer.specs.Faults.{first_in}
use Rattle.container.specs.Executable.{executable_of, misplaced_section, bad_entry, misplaced_tables, overlapped_by_tables, executable_fault}
use Rattle.container.specs.Placement.{misplaced, words_meet}
use Rattle.container.specs.Program.{program_of, header_fault, bad_sizes, misplaced_table, overlapped_words, program_fault, library_fault}
use Rattle.flow.specs.Flow.{flow_of}
use Rattle.flow.specs.Own.{own_from, own_words}
use Rattle.flow.specs.Stepping.{start, Run, done, failed, unfinished, arrive, break, execute, step, run}
use Rattle.flow.specs.Visits.{fault_at, parts, visit, region, trace_to, spare, size, trace, main_trace, flow_fault}
use Rattle.instruction.specs.Control.{control_of}
use Rattle.instruction.specs.Operands.{descriptor_of, operators_of}
use Rattle.instruction.specs.Operations.{operations, format_of}
use Rattle.instruction.specs.Words.{decode_of}
use Rattle.std.specs.Prelude.{Option, Some, None}
use Rattle.tables.specs.Constants.{entry_of, convert_of, constant_fault}
use Rattle.tables.specs.Entries.{good_label, label_fault, good_output, output_fault, in_one_kind, good_uniform, uniform_fault}
use Rattle.tables.specs.Float24.{good_float24, f32_bits}
use Rattle.tables.specs.Names.{meets0, names_end}
use Rattle.tables.specs.declared.constants.Constant.TheVariants.{Flag, Bytes, Vector}
use Rattle.tables.specs.declared.constants.Constant.{Constant}
use Rattle.verifier.specs.Clean.{code_in}
use Rattle.verifier.specs.Executables.{entry_at, one_executable, ones_in, report_of}
use Rattle.verifier.specs.Lists.{list_of}
use Rattle.verifier.specs.Verdict.{whole_fault, check_of, judge_of, report_answer}
use Rattle.verifier.specs.Words.{word_fault, words_fault}
use Rattle.verifier.specs.declared.verdict.Report.{Report}

-- numbers as bytes, lowest first
u32 : ℕ → List ℕ
u32 n = (n % 256) ∷ (n / 256 % 256) ∷ (n / 65536 % 256) ∷ (n / 16777216) ∷ []

u32s : List ℕ → List ℕ
u32s [] = []
u32s (n ∷ ns) = u32 n ++ u32s ns

-- an executable with main 0: its type, endmain, how far its offset in the header is off, and its masks, the
-- output's in the upper half
record Exe : Type 0 where
  type : ℕ
  endmain : ℕ
  off : ℕ
  masks : ℕ

exe : ℕ → ℕ → ℕ → Exe
exe t e o = record { type = t; endmain = e; off = o; masks = 0x00010001 }

-- tables that all executables share, in words of four bytes
record Tables : Type 0 where
  constants : List ℕ
  labels : List ℕ
  outputs : List ℕ
  uniforms : List ℕ

empty : Tables
empty = record { constants = []; labels = []; outputs = []; uniforms = [] }

-- the offsets of the DVLEs, the first at a byte
offsets : ℕ → List Exe → List ℕ
offsets at [] = []
offsets at (e ∷ es) = (at + e.off) ∷ offsets (at + 64) es

-- the DVLEs; the tables start so many bytes after the first of them, and end with four 00 bytes as symbols
sections : ℕ → Tables → List Exe → List ℕ
sections at t [] = []
sections at t (e ∷ es) =
    let labels = at + length t.constants * 4 in
    let outputs = labels + length t.labels * 4 in
    let uniforms = outputs + length t.outputs * 4 in
    let symbols = uniforms + length t.uniforms * 4 in
    (0x454c5644 ∷ (e.type * 65536) ∷ 0 ∷ e.endmain ∷ e.masks ∷ 0 ∷ at ∷ (length t.constants / 5) ∷ labels ∷ (length t.labels / 4)
    ∷ outputs ∷ (length t.outputs / 2) ∷ uniforms ∷ (length t.uniforms / 2) ∷ symbols ∷ 4 ∷ [])
    ++ sections (at - 64) t es

-- a library: header, DVLP, a DVLE for each executable, the words, one descriptor, the tables, the symbols
file_of : List ℕ → List Exe → Tables → List ℕ
file_of words exes t =
    let w = length words in
    let n = length exes in
    u32s
    ((0x424c5644 ∷ n ∷ offsets (48 + n * 4) exes)
    ++ (0x504c5644 ∷ 0 ∷ (40 + n * 64) ∷ w ∷ (40 + n * 64 + w * 4) ∷ 1 ∷ 0 ∷ 0 ∷ 0 ∷ 0 ∷ [])
    ++ sections (n * 64 + w * 4 + 8) t exes
    ++ words
    ++ (0x0d86c36f ∷ 0 ∷ [])
    ++ t.constants
    ++ t.labels
    ++ t.outputs
    ++ t.uniforms
    ++ (0 ∷ []))

-- what is expected: the total, and the steps of each run asked for; a refusal's number and place; the first
-- component of constant 0
data Outcome : Type 0 where
  measures : ℕ → List ℕ → Outcome
  refuses : ℕ → ℕ → Outcome
  converts : Float → Outcome
  fails : Outcome

-- settings of a run: every bool, every byte x
record Asked : Type 0 where
  bool : Bool
  x : ℕ

asked : Bool → ℕ → Asked
asked b x = record { bool = b; x = x }

-- words, endmain and runs; or a float24 word
data Trial : Type 0 where
  words : List ℕ → ℕ → List Asked → Outcome → Trial
  float24 : ℕ → Outcome → Trial

steps_in : Run → ℕ
steps_in (done l) = length l
steps_in (failed l) = 0
steps_in (unfinished l) = 0

steps : List ℕ → Report → Asked → ℕ
steps file r a = steps_in (run (code_in file (program_of file) (program_of file).descriptors.count) (record { bools = λ b. a.bool; ints = λ i. a.x; truths = [] }) r.total (start r.main.0 r.endmain.0))

reported : List ℕ → List Asked → Answer Report → Outcome
reported file as' (given r) = measures r.total (map (steps file r) as')
reported file as' (refused n p) = refuses n p

first_of : Option Constant → Outcome
first_of (Some (Flag b)) = fails
first_of (Some (Bytes b)) = fails
first_of (Some (Vector v)) = converts v.x
first_of None = fails

constant_in : List ℕ → Answer Report → Outcome
constant_in file (given r) = first_of (convert_of (entry_of (entry_at file (executable_of file 0).constants 20 0)))
constant_in file (refused n p) = refuses n p

outcome : Trial → Outcome
outcome (words ws endmain runs e) = let file = file_of ws (exe 0 endmain 0 ∷ []) empty in reported file runs (report_answer file 0)
outcome (float24 w e) =
    let vector : Tables = record { constants = 0x00000002 ∷ w ∷ 0 ∷ 0 ∷ 0 ∷ []; labels = []; outputs = []; uniforms = [] } in
    let file = file_of (0x88000000 ∷ []) (exe 0 1 0 ∷ []) vector in
    constant_in file (report_answer file 0)

expected : Trial → Outcome
expected (words ws endmain runs e) = e
expected (float24 w e) = e

nop : ℕ
nop = 0x84000000

end : ℕ
end = 0x88000000

trials : List Trial
trials =
    -- P1
    words (0x4c000000 ∷ 0x9cc00c00 ∷ 0x02225100 ∷ nop ∷ end ∷ []) 5 (asked true 0 ∷ asked false 0 ∷ []) (measures 5 (5 ∷ 4 ∷ [])) ∷
    -- P2
    words (0xa4000800 ∷ nop ∷ nop ∷ end ∷ []) 4 (asked false 0 ∷ asked false 255 ∷ []) (measures 514 (4 ∷ 514 ∷ [])) ∷
    -- P3, P4
    words (0xb4000800 ∷ nop ∷ end ∷ []) 3 [] (measures 3 []) ∷
    words (0xb4000c00 ∷ nop ∷ end ∷ []) 3 [] (refuses 26 0) ∷
    -- P5: JMPU to 3; IFU DST 4 NUM 0
    words (0xb4000c00 ∷ 0x9c001000 ∷ nop ∷ nop ∷ end ∷ []) 5 [] (refuses 26 0) ∷
    -- P6: LOOP to 1; CALL 3+01; END; BREAK
    words (0xa4000400 ∷ 0x90000c01 ∷ end ∷ 0x80000000 ∷ []) 3 [] (refuses 23 3) ∷
    -- P7: CALL 0+01; END
    words (0x90000001 ∷ end ∷ []) 2 [] (refuses 25 0) ∷
    -- P8: IFU DST 2 NUM 0; END
    words (0x9c000800 ∷ end ∷ []) 2 [] (refuses 28 1) ∷
    -- P9: IFU DST 1 NUM 0; END
    words (0x9c000400 ∷ end ∷ []) 2 [] (refuses 24 0) ∷
    -- P10: two LOOPs to 62, 61 NOPs, END
    words (0xa400f800 ∷ 0xa400f800 ∷ (replicate 61 nop ++ (end ∷ []))) 64 [] (measures 3997954 []) ∷
    -- P11: one NOP more in both
    words (0xa400fc00 ∷ 0xa400fc00 ∷ (replicate 62 nop ++ (end ∷ []))) 65 [] (refuses 27 63) ∷
    -- P12
    float24 0x3f0000 (converts (of_bits binary32 0x3f800000)) ∷
    float24 0xbf0000 (converts (of_bits binary32 0xbf800000)) ∷
    float24 0x3f8000 (converts (of_bits binary32 0x3fc00000)) ∷
    float24 0x000001 (refuses 18 0) ∷
    float24 0x7f0000 (refuses 18 0) ∷
    []

tried : map outcome trials ≡ map expected trials
unfolding trials nop end expected outcome constant_in first_of reported steps steps_in asked file_of exe empty offsets sections u32s u32 report_answer check_of whole_fault library_fault header_fault program_fault bad_sizes misplaced_table misplaced overlapped_words words_meet words_fault word_fault one_executable executable_fault misplaced_section bad_entry misplaced_tables overlapped_by_tables flow_of flow_fault main_trace trace trace_to region visit parts fault_at spare size own_words own_from control_of decode_of format_of operations operators_of descriptor_of constant_fault convert_of good_float24 f32_bits report_of first_in list_of ones_in names_end meets0 run step execute break arrive
tried = refl

-- The order of the refusals, and 29: the words, the executables, the tables, the executable that is asked
-- for, and the total or the refusal
record Order : Type 0 where
  words : List ℕ
  exes : List Exe
  tables : Tables
  asks : ℕ
  answer : Outcome

order : List ℕ → List Exe → Tables → ℕ → Outcome → Order
order ws es t i a = record { words = ws; exes = es; tables = t; asks = i; answer = a }

good : Exe
good = exe 0 2 0

just : List ℕ → Tables
just cs = record { constants = cs; labels = []; outputs = []; uniforms = [] }

-- entries: a bool with ID 0; a label, by its address; an output with register 0 and mask 1, by its type; a
-- vertex input, by its last register
bools : ℕ → List ℕ
bools value = 0 ∷ value ∷ 0 ∷ 0 ∷ 0 ∷ []

label : ℕ → List ℕ
label address = 0 ∷ address ∷ 0 ∷ 0 ∷ []

output : ℕ → List ℕ
output kind = kind ∷ 1 ∷ []

uniform : ℕ → List ℕ
uniform last = 0 ∷ (last * 65536) ∷ []

orders : List Order
orders =
    -- 9 to 12 at a word: a CMP with operator 6 and a descriptor ID that is not there; with the ID alone
    order (0xbe000001 ∷ end ∷ []) (good ∷ []) empty 0 (refuses 10 0) ∷
    order (0xb8000001 ∷ end ∷ []) (good ∷ []) empty 0 (refuses 11 0) ∷
    -- words ascending: LOOP over register 4, then an unknown word
    order (0xa5000400 ∷ 0x40000000 ∷ []) (good ∷ []) empty 0 (refuses 12 0) ∷
    -- 9 to 12 of every word before 13 to 28 of any executable
    order (nop ∷ end ∷ 0x40000000 ∷ []) (exe 2 2 0 ∷ []) empty 0 (refuses 9 2) ∷
    -- 28 of executable 0 before 13 of executable 1, and before its 15
    order (end ∷ nop ∷ []) (good ∷ exe 0 2 1 ∷ []) empty 0 (refuses 28 1) ∷
    order (end ∷ nop ∷ []) (good ∷ exe 2 2 0 ∷ []) empty 0 (refuses 28 1) ∷
    -- 13 before 15, 15 before 16, 16 before 18
    order (nop ∷ end ∷ []) (good ∷ exe 2 2 1 ∷ []) empty 0 (refuses 13 65536) ∷
    order (nop ∷ end ∷ []) (good ∷ exe 2 0 0 ∷ []) empty 0 (refuses 15 65536) ∷
    order (nop ∷ end ∷ []) (exe 0 3 0 ∷ []) (just (bools 2)) 0 (refuses 16 0) ∷
    -- 18 before 19, 19 before 20, 20 before 21, 21 before 28, at the second entry each
    order (nop ∷ end ∷ []) (exe 0 1 0 ∷ []) (record { constants = bools 1 ++ bools 2; labels = label 3; outputs = []; uniforms = [] }) 0 (refuses 18 1) ∷
    order (nop ∷ end ∷ []) (exe 0 1 0 ∷ []) (record { constants = bools 1; labels = label 2 ++ label 3; outputs = output 7; uniforms = [] }) 0 (refuses 19 1) ∷
    order (nop ∷ end ∷ []) (exe 0 1 0 ∷ []) (record { constants = []; labels = label 2; outputs = output 6 ++ output 7; uniforms = uniform 16 }) 0 (refuses 20 1) ∷
    order (nop ∷ end ∷ []) (exe 0 1 0 ∷ []) (record { constants = []; labels = []; outputs = output 8; uniforms = uniform 15 ++ uniform 16 }) 0 (refuses 21 1) ∷
    -- places at executable 1: of an entry, of a word
    order (nop ∷ end ∷ []) (good ∷ exe 1 1 0 ∷ []) (record { constants = []; labels = []; outputs = []; uniforms = uniform 15 }) 0 (refuses 28 65536) ∷
    order (nop ∷ end ∷ nop ∷ []) (good ∷ exe 0 3 0 ∷ []) empty 0 (refuses 28 65538) ∷
    -- 29 after the whole check; the last executable that is there
    order (nop ∷ end ∷ []) (good ∷ exe 0 1 0 ∷ []) empty 7 (refuses 28 65536) ∷
    order (nop ∷ end ∷ []) (good ∷ good ∷ []) empty 2 (refuses 29 0) ∷
    order (nop ∷ end ∷ []) (good ∷ good ∷ []) (just (bools 1)) 1 (measures 2 []) ∷
    []

ordered : map (λ o. let file = file_of o.words o.exes o.tables in reported file [] (report_answer file o.asks)) orders ≡ map (λ o. o.answer) orders
unfolding orders order good just bools label output uniform nop end reported steps steps_in asked file_of exe empty offsets sections u32s u32 report_answer check_of whole_fault library_fault header_fault program_fault bad_sizes misplaced_table misplaced overlapped_words words_meet words_fault word_fault one_executable executable_fault misplaced_section bad_entry misplaced_tables overlapped_by_tables flow_of flow_fault main_trace trace trace_to region visit parts fault_at spare size own_words own_from control_of decode_of format_of operations operators_of descriptor_of constant_fault convert_of good_float24 f32_bits report_of first_in list_of ones_in names_end meets0 good_label label_fault good_output output_fault in_one_kind good_uniform uniform_fault run step execute break arrive
ordered = refl

-- The numbers of sixteen reports: type, main, endmain, ones in the input mask, ones in the output mask,
-- constants, distinct words visited, total
numbers : Report → List ℕ
numbers r = r.shader_type ∷ r.main.0 ∷ r.endmain.0 ∷ r.inputs ∷ r.outputs ∷ r.constants ∷ r.words ∷ r.total ∷ []

zeros : List ℕ
zeros = replicate 8 0

numbers_of : List ℕ → List Exe → Tables → List (List ℕ)
numbers_of ws exes t = map numbers (judge_of (file_of ws exes t)).reports

-- the example of document 01
example : numbers_of (0x4c000000 ∷ 0x9cc00c00 ∷ 0x02225100 ∷ nop ∷ end ∷ []) (exe 0 5 0 ∷ []) empty ≡ (0 ∷ 0 ∷ 5 ∷ 1 ∷ 1 ∷ 0 ∷ 5 ∷ 5 ∷ []) ∷ replicate 15 zeros
unfolding numbers_of zeros numbers just bools nop end judge_of file_of exe empty offsets sections u32s u32 check_of whole_fault library_fault header_fault program_fault bad_sizes misplaced_table misplaced overlapped_words words_meet words_fault word_fault one_executable executable_fault misplaced_section bad_entry misplaced_tables overlapped_by_tables flow_of flow_fault main_trace trace trace_to region visit parts fault_at spare size own_words own_from control_of decode_of format_of operations operators_of descriptor_of constant_fault convert_of good_float24 f32_bits report_of first_in list_of ones_in names_end meets0
example = refl

-- two executables with two constants each, three inputs and two outputs, of five words with two visited
-- twice; then the same with a fault in executable 1: all are zeros
judged : map (λ e. numbers_of (0x90000c02 ∷ 0x90000c02 ∷ end ∷ nop ∷ nop ∷ []) (record { type = 0; endmain = 3; off = 0; masks = 0x00030007 } ∷ exe 1 e 0 ∷ []) (just (bools 1 ++ bools 0))) (3 ∷ 2 ∷ [])
    ≡ ((0 ∷ 0 ∷ 3 ∷ 3 ∷ 2 ∷ 2 ∷ 5 ∷ 7 ∷ []) ∷ (1 ∷ 0 ∷ 3 ∷ 1 ∷ 1 ∷ 2 ∷ 5 ∷ 7 ∷ []) ∷ replicate 14 zeros) ∷ replicate 16 zeros ∷ []
unfolding numbers_of zeros numbers just bools nop end judge_of file_of exe empty offsets sections u32s u32 check_of whole_fault library_fault header_fault program_fault bad_sizes misplaced_table misplaced overlapped_words words_meet words_fault word_fault one_executable executable_fault misplaced_section bad_entry misplaced_tables overlapped_by_tables flow_of flow_fault main_trace trace trace_to region visit parts fault_at spare size own_words own_from control_of decode_of format_of operations operators_of descriptor_of constant_fault convert_of good_float24 f32_bits report_of first_in list_of ones_in names_end meets0
judged = refl
