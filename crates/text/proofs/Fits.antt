-- Every text fits its columns: operands have 57 columns, a record's text 79. Assumes nothing.
use Rattle.std.proofs.Common.{◌≡◌, ℕ, zero, suc, ◌+◌, ◌-◌, ◌/◌, ◌%◌, ◌≤◌, Bool, true, false, ◌&&◌, leb, List, [], ◌∷◌, ◌++◌, length, refl, append_assoc, length-append, arith}
use Rattle.std.proofs.lemmas.Grind.{common_steps}
use Rattle.answer.specs.Answers.{Answer, given, refused}
use Rattle.instruction.specs.Operations.{operations}
use Rattle.instruction.specs.declared.decoding.Fields.{Fields}
use Rattle.instruction.specs.declared.decoding.Fields.TheVariants.{Format0, Format1, Format1i, Format1u, Format1c, Format2, Format3, Format4, Format5, Format5i}
use Rattle.instruction.specs.declared.operand.Source.{Source}
use Rattle.text.specs.declared.operands.Condition.{Condition}
use Rattle.text.specs.declared.operands.Target.{Target}
use Rattle.text.specs.declared.registers.Destination.{Destination}
use Rattle.text.specs.declared.registers.Register.{Register}
use Rattle.text.specs.Operands.{operator_text, target_text, both_text, condition_text, one_source, two_sources, three_sources, compare_text, of_format2, of_format3, of_format4, operands_in}
use Rattle.text.specs.Pieces.{digit, digits, decimal, lettered, labelled, name_text}
use Rattle.text.specs.Records.{record_of, operation_text, line_text, head_text, counts_text, report_text}
use Rattle.text.specs.Registers.{register_text, sign_text, index_text, selectors_text, source_text, written_text, mask_text, written_register, destination_text}
use Rattle.verifier.specs.declared.verdict.Report.{Report}

pub length_digits : (base k n : ℕ) → length (digits base k n) ≡ k
unfolding digits
length_digits base zero n = refl
length_digits base (suc k) n = omega (arith, length-append (digits base k (n / base)) (digit (n % base) ∷ []), length_digits base k (n / base))

pub decimal_fits : (n : ℕ) → length (decimal n) ≤ 2
unfolding decimal
decimal_fits n = grind (arith, common_steps, length_digits)

pub lettered_fits : (letter n : ℕ) → length (lettered letter n) ≤ 3
unfolding lettered
lettered_fits letter n = grind (arith, common_steps, decimal_fits)

pub length_labelled : (label : List ℕ) (width n : ℕ) → length (labelled label width n) ≡ length label + width
unfolding labelled
length_labelled label width n = grind (arith, common_steps, length_digits)

pub register_fits : (n : ℕ) → length (register_text n) ≤ 3
register_fits n = grind (arith, common_steps, lettered_fits)

pub sign_fits : (negated : Bool) → length (sign_text negated) ≤ 1
sign_fits negated = grind (arith, common_steps)

pub index_fits : (index : ℕ) → length (index_text index) ≤ 6
index_fits index = grind (arith, common_steps)

pub selectors_fit : (s : Source) → length s.components ≡ 4 → length (selectors_text s) ≡ 5
selectors_fit s h = grind (arith, common_steps)

pub source_fits : (s : Source) (r : Register) → length s.components ≡ 4 → length (source_text s r) ≤ 15
unfolding source_text
source_fits s r h = grind (arith, common_steps, sign_fits, register_fits, index_fits, selectors_fit)

pub written_fits : (written : Bool) (k : ℕ) → length (written_text written k) ≤ 1
written_fits written k = grind (arith, common_steps)

pub mask_fits : (m : ℕ) → length (mask_text m) ≤ 4
mask_fits m = grind (arith, common_steps, written_fits)

pub written_register_fits : (op n : ℕ) → length (written_register op n) ≤ 3
written_register_fits op n = grind (arith, common_steps, lettered_fits)

pub destination_fits : (to : Destination) → length (destination_text to) ≤ 8
unfolding destination_text
destination_fits to = grind (arith, common_steps, written_register_fits, mask_fits)

pub operator_fits : (k : ℕ) → length (operator_text k) ≤ 2
operator_fits k = grind (arith, common_steps)

pub target_fits : (t : Target) → length (target_text t) ≤ 7
target_fits t = grind (arith, common_steps, length_digits)

pub both_fit : (refx sign refy : ℕ) → length (both_text refx sign refy) ≤ 7
both_fit refx sign refy = grind (arith, common_steps, lettered_fits)

pub condition_fits : (c : Condition) → length (condition_text c) ≤ 7
condition_fits c = grind (arith, common_steps, lettered_fits, both_fit)

pub one_fits : (to : Destination) (first : Register) → length (one_source to first) ≤ 24
one_fits to first = grind (arith, common_steps, destination_fits, source_fits)

pub two_fit : (to : Destination) (first second : Register) → length (two_sources to first second) ≤ 40
two_fit to first second = grind (arith, common_steps, one_fits, source_fits)

three_fit : (to : Destination) (first second third : Register) → length (three_sources to first second third) ≤ 56
three_fit to first second third = grind (arith, common_steps, two_fit, source_fits)

compare_fits : (d : ℕ) (first : Register) (x y : ℕ) (second : Register) → length (compare_text d first x y second) ≤ 37
compare_fits d first x y second = grind (arith, common_steps, source_fits, operator_fits)

format_2_fits : (op : ℕ) (t : Target) (c : Condition) → length (of_format2 op t c) ≤ 15
format_2_fits op t c = grind (arith, common_steps, condition_fits, target_fits, length_digits)

format_3_fits : (op : ℕ) (t : Target) (id : ℕ) → length (of_format3 op t id) ≤ 11
format_3_fits op t id = grind (arith, common_steps, lettered_fits, target_fits, length_digits)

format_4_fits : (winding primemit vtxid : ℕ) → length (of_format4 winding primemit vtxid) ≤ 11
format_4_fits winding primemit vtxid = grind (arith, common_steps, lettered_fits)

-- the operands of every word have at most 56 bytes, so that 57 columns are enough
pub operands_fit : (ds : List ℕ) (f : Fields) → length (operands_in ds f) ≤ 56
operands_fit ds (Format0 op rest) = omega arith
operands_fit ds (Format1 op desc src2 src1 idx1 dst) = omega (arith, two_fit)
operands_fit ds (Format1i op desc src2 src1 idx2 dst) = omega (arith, two_fit)
operands_fit ds (Format1u op desc rest src1 idx1 dst) = omega (arith, one_fits)
operands_fit ds (Format1c op desc src2 src1 idx1 cmpy cmpx) = omega (arith, compare_fits)
operands_fit ds (Format2 op num rest dst condop refy refx) = omega (arith, format_2_fits)
operands_fit ds (Format3 op num rest dst id) = omega (arith, format_3_fits)
operands_fit ds (Format4 op rest winding primemit vtxid) = omega (arith, format_4_fits)
operands_fit ds (Format5 op desc src3 src2 src1 idx2 dst) = omega (arith, three_fit)
operands_fit ds (Format5i op desc src3 src2 src1 idx3 dst) = omega (arith, three_fit)

-- a record has its width
pub record_length : (n : ℕ) (p : List ℕ) → length p ≤ n → length (record_of (n + 1) p) ≡ n + 1
record_length n p h = grind (arith, common_steps)

-- names have seven columns
pub length_name : (op : ℕ) → length (name_text op) ≡ 7
unfolding name_text operations
length_name op = grind (arith, common_steps)

-- the texts of the three records: 79 columns are enough
operation_fits : (ds : List ℕ) (a : Answer Fields) → length (operation_text ds a) ≤ 64
operation_fits ds (given f) = grind (arith, common_steps, length_name, operands_fit)
operation_fits ds (refused n p) = omega arith

pub line_fits : (index word : ℕ) (ds : List ℕ) → length (line_text index word ds) ≤ 79
unfolding line_text
line_fits index word ds = grind (arith, common_steps, length_digits, operation_fits)

pub head_fits : (index : ℕ) (r : Report) → length (head_text index r) ≤ 32
head_fits index r = grind (arith, common_steps, length_labelled)

counts_fit : (r : Report) → length (counts_text r) ≤ 46
counts_fit r = grind (arith, common_steps, length_labelled)

pub report_fits : (index : ℕ) (r : Report) → length (report_text index r) ≤ 79
unfolding report_text
report_fits index r = grind (arith, common_steps, head_fits, counts_fit)

-- what a line has room for after one text, and that texts one after another are one text
pub ruleset texts = (append_assoc, length-append, length_digits, decimal_fits, lettered_fits, length_labelled, register_fits, sign_fits, index_fits, selectors_fit, source_fits, written_fits, mask_fits, written_register_fits, destination_fits, operator_fits, target_fits, condition_fits, one_fits, two_fit, length_name, head_fits)
