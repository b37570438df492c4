-- The words of a library, and refusals 9 to 12 (document 01, 'Numbers given back').
-- Assumes nothing.
use Rattle.std.specs.Prelude.{ℕ, ◌+◌, min, Bool, true, false, ◌||◌, List, leb, ltb, length, get_or, Option, Some, None}
use Rattle.answer.specs.Faults.{fault_if, or_else, first_in}
use Rattle.answer.specs.Faults.{Fault}
use Rattle.binary.specs.Addresses.{word_address, offset_of_word}
use Rattle.binary.specs.Bytes.{u32_at}
use Rattle.container.specs.declared.placement.Table.{Table}
use Rattle.instruction.specs.Control.{control_of}
use Rattle.instruction.specs.Operands.{descriptor_of, operators_of}
use Rattle.instruction.specs.declared.flow_control.Control.{Control}
use Rattle.instruction.specs.declared.flow_control.Control.TheVariants.{Unknown, Plain, Emit, End, Break, If, Loop, Call, Jump}
use Rattle.instruction.specs.declared.operand.CompareOperators.{CompareOperators}
use Rattle.verifier.specs.Lists.{list_of, filled}

-- word p of the opcode table
abbrev pub word_at : List ℕ → Table → ℕ → ℕ
word_at file words p = u32_at file (words.start.0 + (offset_of_word (word_address p)).0)

-- all its words
abbrev pub words_of : List ℕ → Table → List ℕ
words_of file words = list_of (word_at file words) 0 words.count

-- the same in an array of 512: of more the first, and after fewer zeros. 7 refuses more
abbrev pub loaded_words : List ℕ → Table → List ℕ
loaded_words file words = filled (word_at file words) 0 512 (min words.count 512) 0

-- 9: unknown opcode
abbrev pub is_unknown : Control → Bool
is_unknown Unknown = true
is_unknown Plain = false
is_unknown Emit = false
is_unknown End = false
is_unknown (Break c) = false
is_unknown (If c dst num) = false
is_unknown (Loop r dst) = false
is_unknown (Call c dst num) = false
is_unknown (Jump c dst num) = false

-- 10: compare operator 6 or 7
abbrev pub bad_operators : Option CompareOperators → Bool
bad_operators (Some o) = ltb 5 o.x || ltb 5 o.y
bad_operators None = false

-- 11: descriptor ID not in the table
abbrev pub undescribed : ℕ → Option ℕ → Bool
undescribed descriptors (Some n) = leb descriptors n
undescribed descriptors None = false

-- 12: LOOP register over 3
abbrev pub bad_register : Control → Bool
bad_register Unknown = false
bad_register Plain = false
bad_register Emit = false
bad_register End = false
bad_register (Break c) = false
bad_register (If c dst num) = false
bad_register (Loop r dst) = ltb 3 r
bad_register (Call c dst num) = false
bad_register (Jump c dst num) = false

-- 9 to 12 at a word, in this order
unfoldable pub word_fault : ℕ → ℕ → ℕ → Fault
word_fault descriptors w place =
    or_else (fault_if (is_unknown (control_of w)) 9 place)
    (or_else (fault_if (bad_operators (operators_of w)) 10 place)
    (or_else (fault_if (undescribed descriptors (descriptor_of w)) 11 place)
    (fault_if (bad_register (control_of w)) 12 place)))

-- 'words ascending, 9 to 12 at each'; place W is the word index
unfoldable pub words_fault : ℕ → List ℕ → Fault
words_fault descriptors ws = first_in (λ p. word_fault descriptors (get_or ws p 0) p) 0 (length ws)
