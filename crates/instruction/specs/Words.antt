-- Instruction words and their fields (document 01, 'Words'; the bit positions are those of document 004).
-- Assumes nothing.
use Rattle.std.specs.Prelude.{ℕ, Bool, true, false, ◌&&◌, List, [], ◌∷◌, Option, Some, None}
use Rattle.bits.specs.Fields.{field, fit, pack}
use Rattle.answer.specs.Answers.{Answer, given, refused}
use Rattle.instruction.specs.Operations.{is_format, format_of, entry_format}
use Rattle.instruction.specs.declared.operation.Format.{Format}
use Rattle.instruction.specs.declared.operation.Format.TheVariants.{F0, F1, F1i, F1u, F1c, F2, F3, F4, F5, F5i}
use Rattle.instruction.specs.declared.decoding.Fields.{Fields}
use Rattle.instruction.specs.declared.decoding.Fields.TheVariants.{Format0, Format1, Format1i, Format1u, Format1c, Format2, Format3, Format4, Format5, Format5i}

-- The formats: the operation's number, then the fields from bit 0 up, each by position and width. Bits
-- without a name are the field `rest`.
-- op rest
abbrev pub format0 : ℕ → Fields
format0 w = Format0 (field 26 6 w) (field 0 26 w)

-- op DESC SRC2 SRC1 IDX_1 DST
abbrev pub format1 : ℕ → Fields
format1 w = Format1 (field 26 6 w) (field 0 7 w) (field 7 5 w) (field 12 7 w) (field 19 2 w) (field 21 5 w)

-- op DESC SRC2 SRC1 IDX_2 DST
abbrev pub format1i : ℕ → Fields
format1i w = Format1i (field 26 6 w) (field 0 7 w) (field 7 7 w) (field 14 5 w) (field 19 2 w) (field 21 5 w)

-- op DESC rest SRC1 IDX_1 DST
abbrev pub format1u : ℕ → Fields
format1u w = Format1u (field 26 6 w) (field 0 7 w) (field 7 5 w) (field 12 7 w) (field 19 2 w) (field 21 5 w)

-- CMP: op DESC SRC2 SRC1 IDX_1 CMPY CMPX
abbrev pub format1c : ℕ → Fields
format1c w = Format1c 0x2e (field 0 7 w) (field 7 5 w) (field 12 7 w) (field 19 2 w) (field 21 3 w) (field 24 3 w)

-- op NUM rest DST CONDOP REFY REFX
abbrev pub format2 : ℕ → Fields
format2 w = Format2 (field 26 6 w) (field 0 8 w) (field 8 2 w) (field 10 12 w) (field 22 2 w) (field 24 1 w) (field 25 1 w)

-- op NUM rest DST BOOL/INT
abbrev pub format3 : ℕ → Fields
format3 w = Format3 (field 26 6 w) (field 0 8 w) (field 8 2 w) (field 10 12 w) (field 22 4 w)

-- SETEMIT: op rest FLAG_WINDING FLAG_PRIMEMIT VTXID
abbrev pub format4 : ℕ → Fields
format4 w = Format4 (field 26 6 w) (field 0 22 w) (field 22 1 w) (field 23 1 w) (field 24 2 w)

-- MAD: op DESC SRC3 SRC2 SRC1 IDX_2 DST
abbrev pub format5 : ℕ → Fields
format5 w = Format5 0x38 (field 0 5 w) (field 5 5 w) (field 10 7 w) (field 17 5 w) (field 22 2 w) (field 24 5 w)

-- MADI: op DESC SRC3 SRC2 SRC1 IDX_3 DST
abbrev pub format5i : ℕ → Fields
format5i w = Format5i 0x30 (field 0 5 w) (field 5 7 w) (field 12 5 w) (field 17 5 w) (field 22 2 w) (field 24 5 w)

abbrev pub fields_as : Format → ℕ → Fields
fields_as F0 w = format0 w
fields_as F1 w = format1 w
fields_as F1i w = format1i w
fields_as F1u w = format1u w
fields_as F1c w = format1c w
fields_as F2 w = format2 w
fields_as F3 w = format3 w
fields_as F4 w = format4 w
fields_as F5 w = format5 w
fields_as F5i w = format5i w

-- 'Decoding one word alone gives only 9, at 0'
abbrev pub decode_as : Option Format → ℕ → Answer Fields
decode_as (Some f) w = given (fields_as f w)
decode_as None w = refused 9 0

unfoldable pub decode_of : ℕ → Answer Fields
decode_of w = decode_as (format_of (field 26 6 w)) w

-- Encoding. The layout of a format: the widths from bit 0 up, the opcode's last. CMP's opcode has 5 bits,
-- MADI's and MAD's 3
abbrev pub layout : Format → List ℕ
layout F0 = 26 ∷ 6 ∷ []
layout F1 = 7 ∷ 5 ∷ 7 ∷ 2 ∷ 5 ∷ 6 ∷ []
layout F1i = 7 ∷ 7 ∷ 5 ∷ 2 ∷ 5 ∷ 6 ∷ []
layout F1u = 7 ∷ 5 ∷ 7 ∷ 2 ∷ 5 ∷ 6 ∷ []
layout F1c = 7 ∷ 5 ∷ 7 ∷ 2 ∷ 3 ∷ 3 ∷ 5 ∷ []
layout F2 = 8 ∷ 2 ∷ 12 ∷ 2 ∷ 1 ∷ 1 ∷ 6 ∷ []
layout F3 = 8 ∷ 2 ∷ 12 ∷ 4 ∷ 6 ∷ []
layout F4 = 22 ∷ 1 ∷ 1 ∷ 2 ∷ 6 ∷ []
layout F5 = 5 ∷ 5 ∷ 7 ∷ 5 ∷ 2 ∷ 5 ∷ 3 ∷ []
layout F5i = 5 ∷ 7 ∷ 5 ∷ 5 ∷ 2 ∷ 5 ∷ 3 ∷ []

-- the format of the fields, the operation's number, and the fields from bit 0 up with the opcode's bits last:
-- 'the opcode bits are 17h, 6 and 7 for these three'
abbrev pub format_for : Fields → Format
format_for (Format0 op rest) = F0
format_for (Format1 op desc src2 src1 idx1 dst) = F1
format_for (Format1i op desc src2 src1 idx2 dst) = F1i
format_for (Format1u op desc rest src1 idx1 dst) = F1u
format_for (Format1c op desc src2 src1 idx1 cmpy cmpx) = F1c
format_for (Format2 op num rest dst condop refy refx) = F2
format_for (Format3 op num rest dst id) = F3
format_for (Format4 op rest winding primemit vtxid) = F4
format_for (Format5 op desc src3 src2 src1 idx2 dst) = F5
format_for (Format5i op desc src3 src2 src1 idx3 dst) = F5i

abbrev pub number_of : Fields → ℕ
number_of (Format0 op rest) = op
number_of (Format1 op desc src2 src1 idx1 dst) = op
number_of (Format1i op desc src2 src1 idx2 dst) = op
number_of (Format1u op desc rest src1 idx1 dst) = op
number_of (Format1c op desc src2 src1 idx1 cmpy cmpx) = op
number_of (Format2 op num rest dst condop refy refx) = op
number_of (Format3 op num rest dst id) = op
number_of (Format4 op rest winding primemit vtxid) = op
number_of (Format5 op desc src3 src2 src1 idx2 dst) = op
number_of (Format5i op desc src3 src2 src1 idx3 dst) = op

abbrev pub parts_of : Fields → List ℕ
parts_of (Format0 op rest) = rest ∷ op ∷ []
parts_of (Format1 op desc src2 src1 idx1 dst) = desc ∷ src2 ∷ src1 ∷ idx1 ∷ dst ∷ op ∷ []
parts_of (Format1i op desc src2 src1 idx2 dst) = desc ∷ src2 ∷ src1 ∷ idx2 ∷ dst ∷ op ∷ []
parts_of (Format1u op desc rest src1 idx1 dst) = desc ∷ rest ∷ src1 ∷ idx1 ∷ dst ∷ op ∷ []
parts_of (Format1c op desc src2 src1 idx1 cmpy cmpx) = desc ∷ src2 ∷ src1 ∷ idx1 ∷ cmpy ∷ cmpx ∷ 0x17 ∷ []
parts_of (Format2 op num rest dst condop refy refx) = num ∷ rest ∷ dst ∷ condop ∷ refy ∷ refx ∷ op ∷ []
parts_of (Format3 op num rest dst id) = num ∷ rest ∷ dst ∷ id ∷ op ∷ []
parts_of (Format4 op rest winding primemit vtxid) = rest ∷ winding ∷ primemit ∷ vtxid ∷ op ∷ []
parts_of (Format5 op desc src3 src2 src1 idx2 dst) = desc ∷ src3 ∷ src2 ∷ src1 ∷ idx2 ∷ dst ∷ 7 ∷ []
parts_of (Format5i op desc src3 src2 src1 idx3 dst) = desc ∷ src3 ∷ src2 ∷ src1 ∷ idx3 ∷ dst ∷ 6 ∷ []

-- the word that has the fields, if one has
abbrev pub word_if : Bool → ℕ → Option ℕ
word_if true w = Some w
word_if false w = None

abbrev pub code_of : ℕ → Format → List ℕ → Option ℕ
code_of op format parts = word_if (is_format (entry_format op) format && fit (layout format) parts) (pack (layout format) parts)

abbrev pub word_of : Fields → Option ℕ
word_of f = code_of (number_of f) (format_for f) (parts_of f)

-- 31: 'a field to encode exceeds its bits, or the
-- operation's number is not the lowest of an entry of its format'
abbrev pub or_refused : Option ℕ → Answer ℕ
or_refused (Some w) = given w
or_refused None = refused 31 0

unfoldable pub encode_of : Fields → Answer ℕ
encode_of f = or_refused (word_of f)
