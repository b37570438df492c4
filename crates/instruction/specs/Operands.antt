-- What a word uses: 'A word uses the descriptor of its ID' (document 01, 'Stepping rules'), compare
-- operators, and the parts of an operand descriptor (document 004).
-- Assumes nothing.
use Rattle.std.specs.Prelude.{ℕ, ◌+◌, Bool, true, false, ◌&&◌, cond, eqb, List, [], ◌∷◌, ◌++◌, reverse, Option, Some, None, is_none}
use Rattle.bits.specs.Fields.{field}
use Rattle.answer.specs.Answers.{Answer, given, refused}
use Rattle.instruction.specs.Control.{control_of}
use Rattle.instruction.specs.Words.{decode_of}
use Rattle.instruction.specs.declared.decoding.Fields.{Fields}
use Rattle.instruction.specs.declared.decoding.Fields.TheVariants.{Format1, Format1i, Format1u, Format1c, Format5, Format5i}
use Rattle.instruction.specs.declared.flow_control.Control.{Control}
use Rattle.instruction.specs.declared.flow_control.Control.TheVariants.{Unknown, Loop}
use Rattle.instruction.specs.declared.operand.CompareOperators.{CompareOperators}
use Rattle.instruction.specs.declared.operand.Source.{Source}

-- every format with a DESC
abbrev pub descriptor_in : Fields → Option ℕ
descriptor_in (Format1 op desc src2 src1 idx1 dst) = Some desc
descriptor_in (Format1i op desc src2 src1 idx2 dst) = Some desc
descriptor_in (Format1u op desc rest src1 idx1 dst) = Some desc
descriptor_in (Format1c op desc src2 src1 idx1 cmpy cmpx) = Some desc
descriptor_in (Format5 op desc src3 src2 src1 idx2 dst) = Some desc
descriptor_in (Format5i op desc src3 src2 src1 idx3 dst) = Some desc
descriptor_in _ = None

abbrev pub descriptor : Answer Fields → Option ℕ
descriptor (given f) = descriptor_in f
descriptor (refused n p) = None

unfoldable pub descriptor_of : ℕ → Option ℕ
descriptor_of w = descriptor (decode_of w)

-- a CMP's operators, X first
abbrev pub operators_in : Fields → Option CompareOperators
operators_in (Format1c op desc src2 src1 idx1 cmpy cmpx) = Some (record { x = cmpx; y = cmpy })
operators_in _ = None

abbrev pub operators : Answer Fields → Option CompareOperators
operators (given f) = operators_in f
operators (refused n p) = None

unfoldable pub operators_of : ℕ → Option CompareOperators
operators_of w = operators (decode_of w)

-- a known word, and no LOOP, which has an integer register
abbrev pub is_free : Control → Bool
is_free Unknown = false
is_free (Loop r dst) = false
is_free _ = true

-- nothing that 9 to 12 ask for: such a word passes them whatever its fields hold
unfoldable pub takes_any_fields : ℕ → Bool
takes_any_fields w = is_free (control_of w) && is_none (descriptor_of w)

-- a source's parts, from its negation bit on: the selectors of component 3, 2, 1, 0
abbrev pub source_at : ℕ → ℕ → Source
source_at pos d =
    record {
      negated = eqb (field pos 1 d) 1;
      components = field (pos + 7) 2 d ∷ field (pos + 5) 2 d ∷ field (pos + 3) 2 d ∷ field (pos + 1) 2 d ∷ [];
    }

-- the destination mask: x is 8, y 4, z 2, w 1; then the three sources
abbrev pub mask_of : ℕ → ℕ
mask_of d = field 0 4 d

abbrev pub source1_of : ℕ → Source
source1_of d = source_at 4 d

abbrev pub source2_of : ℕ → Source
source2_of d = source_at 13 d

abbrev pub source3_of : ℕ → Source
source3_of d = source_at 22 d

-- all parts from bit 0 up, with bit 31, which has no meaning; and their widths
abbrev pub source_parts : Source → List ℕ
source_parts s = cond s.negated 1 0 ∷ reverse s.components

abbrev pub descriptor_parts : ℕ → List ℕ
descriptor_parts d = (mask_of d ∷ source_parts (source1_of d)) ++ (source_parts (source2_of d) ++ (source_parts (source3_of d) ++ (field 31 1 d ∷ [])))

abbrev pub descriptor_layout : List ℕ
descriptor_layout = 4 ∷ 1 ∷ 2 ∷ 2 ∷ 2 ∷ 2 ∷ 1 ∷ 2 ∷ 2 ∷ 2 ∷ 2 ∷ 1 ∷ 2 ∷ 2 ∷ 2 ∷ 2 ∷ 1 ∷ []
