-- The operands of a word (document 01, 'Listing and report', second paragraph), comma-separated; each from
-- its parts in the order it is read.
-- Assumes nothing.
use Rattle.std.specs.Prelude.{ℕ, ◌%◌, ◌||◌, cond, List, [], ◌∷◌, ◌++◌, eqb, get_or}
use Prim.Native.Char.{code}
use Rattle.instruction.specs.Operands.{source1_of, source2_of, source3_of}
use Rattle.instruction.specs.declared.decoding.Fields.{Fields}
use Rattle.instruction.specs.declared.decoding.Fields.TheVariants.{Format0, Format1, Format1i, Format1u, Format1c, Format2, Format3, Format4, Format5, Format5i}
use Rattle.text.specs.Pieces.{bytes, digits, lettered}
use Rattle.text.specs.Registers.{indexed, plain, destination_of, source_text, destination_text}
use Rattle.text.specs.declared.operands.Condition.{Condition}
use Rattle.text.specs.declared.operands.Condition.TheVariants.{Or, And, X, Y}
use Rattle.text.specs.declared.operands.Target.{Target}
use Rattle.text.specs.declared.registers.Destination.{Destination}
use Rattle.text.specs.declared.registers.Register.{Register}

-- 'Compare operators 0 to 5: EQ NE LT LE GT GE'; 6 and 7 are in no accepted library
abbrev pub operator_names : List (List ℕ)
operator_names = bytes "EQ" ∷ bytes "NE" ∷ bytes "LT" ∷ bytes "LE" ∷ bytes "GT" ∷ bytes "GE" ∷ bytes "??" ∷ bytes "??" ∷ []

abbrev pub operator_text : ℕ → List ℕ
operator_text k = get_or operator_names (k % 8) []

-- 'Targets: DST as 4 hex, `+`, NUM as 2 hex for IF and CALL'
abbrev pub target_text : Target → List ℕ
target_text t = digits 16 4 t.dst ++ bytes "+" ++ digits 16 2 t.num

-- 'CONDOP 0 to 3: or, and, X, Y'
abbrev pub condition_of : ℕ → ℕ → ℕ → Condition
condition_of condop refy refx = cond (eqb condop 0) (Or refx refy) (cond (eqb condop 2) (X refx) (cond (eqb condop 3) (Y refy) (And refx refy)))

-- 'the condition: `x1|y0`, `x1&y0`, `x1`, `y0` with the reference bits'
abbrev pub both_text : ℕ → ℕ → ℕ → List ℕ
both_text refx sign refy = lettered (code "x") refx ++ sign ∷ [] ++ lettered (code "y") refy

abbrev pub condition_text : Condition → List ℕ
condition_text (Or refx refy) = both_text refx (code "|") refy
condition_text (And refx refy) = both_text refx (code "&") refy
condition_text (X refx) = lettered (code "x") refx
condition_text (Y refy) = lettered (code "y") refy

-- 'Destination first, then sources in order'
abbrev pub one_source : Destination → Register → List ℕ
one_source to first = destination_text to ++ bytes "," ++ source_text (source1_of to.descriptor.0) first

abbrev pub two_sources : Destination → Register → Register → List ℕ
two_sources to first second = one_source to first ++ bytes "," ++ source_text (source2_of to.descriptor.0) second

abbrev pub three_sources : Destination → Register → Register → Register → List ℕ
three_sources to first second third = two_sources to first second ++ bytes "," ++ source_text (source3_of to.descriptor.0) third

-- 'CMP: source 1, X operator, Y operator, source 2'; d is the descriptor's word
abbrev pub compare_text : ℕ → Register → ℕ → ℕ → Register → List ℕ
compare_text d first cmpx cmpy second =
    source_text (source1_of d) first ++ bytes "," ++ operator_text cmpx ++ bytes "," ++ operator_text cmpy ++ bytes "," ++ source_text (source2_of d) second

-- CALL: its target. 'BREAKC shows its condition'. JMPC: condition and DST alone. CALLC, IFC: condition and
-- target
abbrev pub of_format2 : ℕ → Target → Condition → List ℕ
of_format2 op t c =
    let condition = condition_text c in
    cond (eqb op 0x24) (target_text t)
    (cond (eqb op 0x23) condition (cond (eqb op 0x2c) (condition ++ bytes " " ++ digits 16 4 t.dst) (condition ++ bytes " " ++ target_text t)))

-- '`b` or `i` and the register in decimal'; 'DST alone for LOOP and JMP'. CALLU, IFU: the target
abbrev pub of_format3 : ℕ → Target → ℕ → List ℕ
of_format3 op t id =
    let register = lettered (cond (eqb op 0x29) (code "i") (code "b")) id in
    cond (eqb op 0x29 || eqb op 0x2d) (register ++ bytes " " ++ digits 16 4 t.dst) (register ++ bytes " " ++ target_text t)

-- 'SETEMIT: `v2 p1 w0`'
abbrev pub of_format4 : ℕ → ℕ → ℕ → List ℕ
of_format4 winding primemit vtxid = lettered (code "v") vtxid ++ bytes " " ++ lettered (code "p") primemit ++ bytes " " ++ lettered (code "w") winding

-- 'on the source that IDX belongs to'; 'Format 0: none'. ds are the descriptors; one that is not there reads
-- as zeros
abbrev pub operands_in : List ℕ → Fields → List ℕ
operands_in ds (Format0 op rest) = []
operands_in ds (Format1 op desc src2 src1 idx1 dst) = two_sources (destination_of op dst (get_or ds desc 0)) (indexed src1 idx1) (plain src2)
operands_in ds (Format1i op desc src2 src1 idx2 dst) = two_sources (destination_of op dst (get_or ds desc 0)) (plain src1) (indexed src2 idx2)
operands_in ds (Format1u op desc rest src1 idx1 dst) = one_source (destination_of op dst (get_or ds desc 0)) (indexed src1 idx1)
operands_in ds (Format1c op desc src2 src1 idx1 cmpy cmpx) = compare_text (get_or ds desc 0) (indexed src1 idx1) cmpx cmpy (plain src2)
operands_in ds (Format2 op num rest dst condop refy refx) = of_format2 op (record { dst = dst; num = num }) (condition_of condop refy refx)
operands_in ds (Format3 op num rest dst id) = of_format3 op (record { dst = dst; num = num }) id
operands_in ds (Format4 op rest winding primemit vtxid) = of_format4 winding primemit vtxid
operands_in ds (Format5 op desc src3 src2 src1 idx2 dst) = three_sources (destination_of op dst (get_or ds desc 0)) (plain src1) (indexed src2 idx2) (plain src3)
operands_in ds (Format5i op desc src3 src2 src1 idx3 dst) = three_sources (destination_of op dst (get_or ds desc 0)) (plain src1) (plain src2) (indexed src3 idx3)
