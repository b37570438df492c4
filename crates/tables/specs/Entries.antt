-- Entries of the label, output and uniform tables (document 01, 'Layout of a library'; the offsets are those
-- of documents 000 and 001), and refusals 19, 20 and 21.
-- An entry is the list of the file's bytes from its start on.
-- Assumes nothing.
use Rattle.std.specs.Prelude.{ℕ, Bool, not, ◌&&◌, ◌||◌, List, eqb, leb, ltb}
use Rattle.answer.specs.Faults.{Fault, fault_if}
use Rattle.binary.specs.Bytes.{u16_at, u32_at}

-- 'Labels: address at most the word count'. A name is good exactly if it starts before `names_end` of the
-- symbol table (`good_names` of proofs/Laws.antt)
abbrev pub label_address : List ℕ → ℕ
label_address s = u32_at s 0x04

abbrev pub label_name : List ℕ → ℕ
label_name s = u32_at s 0x0c

unfoldable pub good_label : List ℕ → ℕ → ℕ → Bool
good_label s words end = leb (label_address s) words && ltb (label_name s) end

-- 19: a bad label
unfoldable pub label_fault : List ℕ → ℕ → ℕ → ℕ → Fault
label_fault s words end place = fault_if (not (good_label s words end)) 19 place

-- 'Outputs: type 0 to 6 or 8; register 0 to 15; mask 1 to 15'
abbrev pub output_type : List ℕ → ℕ
output_type s = u16_at s 0

abbrev pub output_register : List ℕ → ℕ
output_register s = u16_at s 2

abbrev pub output_mask : List ℕ → ℕ
output_mask s = u16_at s 4

unfoldable pub good_output : List ℕ → Bool
good_output s = (leb (output_type s) 6 || eqb (output_type s) 8) && leb (output_register s) 15 && leb 1 (output_mask s) && leb (output_mask s) 15

-- 20: a bad output
unfoldable pub output_fault : List ℕ → ℕ → Fault
output_fault s place = fault_if (not (good_output s)) 20 place

-- 'Uniforms: start at most end, both in one of 00h-0Fh, 10h-6Fh, 70h-73h, 78h-87h'; the name as a label's
abbrev pub uniform_name : List ℕ → ℕ
uniform_name s = u32_at s 0

abbrev pub uniform_start : List ℕ → ℕ
uniform_start s = u16_at s 4

abbrev pub uniform_end : List ℕ → ℕ
uniform_end s = u16_at s 6

abbrev pub both_in : ℕ → ℕ → ℕ → ℕ → Bool
both_in low high start end = leb low start && leb start high && leb low end && leb end high

unfoldable pub in_one_kind : ℕ → ℕ → Bool
in_one_kind start end = both_in 0x00 0x0f start end || both_in 0x10 0x6f start end || both_in 0x70 0x73 start end || both_in 0x78 0x87 start end

unfoldable pub good_uniform : List ℕ → ℕ → Bool
good_uniform s end = leb (uniform_start s) (uniform_end s) && in_one_kind (uniform_start s) (uniform_end s) && ltb (uniform_name s) end

-- 21: a bad uniform
unfoldable pub uniform_fault : List ℕ → ℕ → ℕ → Fault
uniform_fault s end place = fault_if (not (good_uniform s end)) 21 place
