-- Records (document 01, 'Listing and report'): each text is built from its parts in the order it is read.
-- Assumes nothing.
use Rattle.std.specs.Prelude.{ℕ, ◌-◌, List, [], ◌∷◌, ◌++◌}
use Rattle.answer.specs.Answers.{Answer, given, refused}
use Rattle.instruction.specs.Words.{number_of, decode_of}
use Rattle.instruction.specs.declared.decoding.Fields.{Fields}
use Rattle.text.specs.Operands.{operands_in}
use Rattle.text.specs.Pieces.{bytes, padded, digits, labelled, name_text}
use Rattle.verifier.specs.declared.verdict.Report.{Report}

-- 'records of 80 bytes, a line feed in column 79': a text, spaces after it, a line feed in the last column of
-- the width
abbrev pub record_of : ℕ → List ℕ → List ℕ
record_of width p = padded (width - 1) p ++ 0x0a ∷ []

-- columns 14-20 the name, 22-78 the operands; an unknown word is in no accepted library, and has neither
abbrev pub operation_text : List ℕ → Answer Fields → List ℕ
operation_text ds (given f) = name_text (number_of f) ++ bytes " " ++ operands_in ds f
operation_text ds (refused n p) = []

-- 'columns 0-3 index (hex), 5-12 word (hex)'
unfoldable pub line_text : ℕ → ℕ → List ℕ → List ℕ
line_text index word ds = digits 16 4 index ++ bytes " " ++ digits 16 8 word ++ bytes " " ++ operation_text ds (decode_of word)

-- what an executable is, and what was counted of it
abbrev pub head_text : ℕ → Report → List ℕ
head_text index r =
    labelled (bytes "exe ") 2 index ++ labelled (bytes " type ") 1 r.shader_type ++ labelled (bytes " main ") 4 r.main.0 ++ labelled (bytes " end ") 4 r.endmain.0

abbrev pub counts_text : Report → List ℕ
counts_text r =
    labelled (bytes " in ") 2 r.inputs ++ labelled (bytes " out ") 2 r.outputs ++ labelled (bytes " con ") 4 r.constants
    ++ labelled (bytes " words ") 4 r.words ++ labelled (bytes " most ") 7 r.total

-- 'All decimal: executable, type, main, endmain, ones in the input mask, ones in the output mask, constants,
-- distinct words visited, total'
unfoldable pub report_text : ℕ → Report → List ℕ
report_text index r = head_text index r ++ counts_text r

-- '`refused `, two decimal digits, a space, the place as 8 hex digits'
unfoldable pub refused_text : ℕ → ℕ → List ℕ
refused_text number place = labelled (bytes "refused ") 2 number ++ bytes " " ++ digits 16 8 place
