-- Decoding and encoding of one word as calls for C.
-- Assumes nothing.
use Rattle.std.specs.Prelude.{ℕ, ◌-◌, Bool, true, ◌&&◌, cond, List, [], ◌∷◌, ◌++◌, eqb, leb, length, get_or, take, drop, replicate}
use Rattle.answer.specs.Answers.{Answer, refused, map_answer}
use Rattle.instruction.specs.Words.{decode_of, encode_of}
use Rattle.instruction.specs.declared.decoding.Fields.{Fields}
use Rattle.instruction.specs.declared.decoding.Fields.TheVariants.{Format0, Format1, Format1i, Format1u, Format1c, Format2, Format3, Format4, Format5, Format5i}
use Rattle.pica.specs.Replies.{Reply, reply, fitted}

-- formats '0 to 9 in the order 0, 1, 1i, 1u, 1c, 2, 3, 4, 5, 5i'
abbrev pub format_number : Fields → ℕ
format_number (Format0 op rest) = 0
format_number (Format1 op desc src2 src1 idx1 dst) = 1
format_number (Format1i op desc src2 src1 idx2 dst) = 2
format_number (Format1u op desc rest src1 idx1 dst) = 3
format_number (Format1c op desc src2 src1 idx1 cmpy cmpx) = 4
format_number (Format2 op num rest dst condop refy refx) = 5
format_number (Format3 op num rest dst id) = 6
format_number (Format4 op rest winding primemit vtxid) = 7
format_number (Format5 op desc src3 src2 src1 idx2 dst) = 8
format_number (Format5i op desc src3 src2 src1 idx3 dst) = 9

-- 'the operation's number, the fields from bit 0 up without opcode and unnamed bits, then the unnamed bits
-- where the format has some'
abbrev pub field_numbers : Fields → List ℕ
field_numbers (Format0 op rest) = op ∷ rest ∷ []
field_numbers (Format1 op desc src2 src1 idx1 dst) = op ∷ desc ∷ src2 ∷ src1 ∷ idx1 ∷ dst ∷ []
field_numbers (Format1i op desc src2 src1 idx2 dst) = op ∷ desc ∷ src2 ∷ src1 ∷ idx2 ∷ dst ∷ []
field_numbers (Format1u op desc rest src1 idx1 dst) = op ∷ desc ∷ src1 ∷ idx1 ∷ dst ∷ rest ∷ []
field_numbers (Format1c op desc src2 src1 idx1 cmpy cmpx) = op ∷ desc ∷ src2 ∷ src1 ∷ idx1 ∷ cmpy ∷ cmpx ∷ []
field_numbers (Format2 op num rest dst condop refy refx) = op ∷ num ∷ dst ∷ condop ∷ refy ∷ refx ∷ rest ∷ []
field_numbers (Format3 op num rest dst id) = op ∷ num ∷ dst ∷ id ∷ rest ∷ []
field_numbers (Format4 op rest winding primemit vtxid) = op ∷ winding ∷ primemit ∷ vtxid ∷ rest ∷ []
field_numbers (Format5 op desc src3 src2 src1 idx2 dst) = op ∷ desc ∷ src3 ∷ src2 ∷ src1 ∷ idx2 ∷ dst ∷ []
field_numbers (Format5i op desc src3 src2 src1 idx3 dst) = op ∷ desc ∷ src3 ∷ src2 ∷ src1 ∷ idx3 ∷ dst ∷ []

-- eight numbers: these, 'then zeros'
abbrev pub eight_numbers : Fields → List ℕ
eight_numbers f = field_numbers f ++ replicate (8 - length (field_numbers f)) 0

abbrev pub word_reply : Fields → Reply
word_reply f = reply (format_number f) (eight_numbers f)

-- '9, then 30 if out is shorter than 8'
abbrev pub decode_reply : ℕ → ℕ → Answer Reply
decode_reply word size = fitted size (map_answer word_reply (decode_of word))

-- the fields of a format among numbers in the same order
abbrev pub fields_by : ℕ → List ℕ → Fields
fields_by format l =
    let n : ℕ → ℕ = λ i. get_or l i 0 in
    cond (eqb format 0) (Format0 (n 0) (n 1))
    (cond (eqb format 1) (Format1 (n 0) (n 1) (n 2) (n 3) (n 4) (n 5))
    (cond (eqb format 2) (Format1i (n 0) (n 1) (n 2) (n 3) (n 4) (n 5))
    (cond (eqb format 3) (Format1u (n 0) (n 1) (n 5) (n 2) (n 3) (n 4))
    (cond (eqb format 4) (Format1c (n 0) (n 1) (n 2) (n 3) (n 4) (n 5) (n 6))
    (cond (eqb format 5) (Format2 (n 0) (n 1) (n 6) (n 2) (n 3) (n 4) (n 5))
    (cond (eqb format 6) (Format3 (n 0) (n 1) (n 4) (n 2) (n 3))
    (cond (eqb format 7) (Format4 (n 0) (n 4) (n 1) (n 2) (n 3))
    (cond (eqb format 8) (Format5 (n 0) (n 1) (n 2) (n 3) (n 4) (n 5) (n 6))
    (Format5i (n 0) (n 1) (n 2) (n 3) (n 4) (n 5) (n 6))))))))))

abbrev pub zeros : List ℕ → Bool
zeros [] = true
zeros (x ∷ xs) = eqb x 0 && zeros xs

-- '31 also for a format over 9, fewer than 8 fields, or a field beyond the format's that is not 0': of the
-- first 8, those after the format's fields
unfoldable pub encode_numbers : ℕ → List ℕ → Answer ℕ
encode_numbers format l =
    let f = fields_by format l in
    cond (leb format 9 && (leb 8 (length l) && zeros (drop (length (field_numbers f)) (take 8 l)))) (encode_of f) (refused 31 0)
