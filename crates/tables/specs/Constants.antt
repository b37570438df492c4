-- Constants (document 01, 'Layout of a library'; the offsets are those of documents 000 and 001), and refusal
-- 18.
-- An entry is the list of the file's bytes from its start on.
-- Assumes nothing.
use Rattle.std.specs.Prelude.{ℕ, Bool, ◌&&◌, cond, List, eqb, leb, is_none, Float, Option, None}
use Rattle.std.specs.Bool.{then_some}
use Rattle.std.specs.Float.{binary32}
use Rattle.std.specs.Float.Ieee.{of_bits}
use Rattle.answer.specs.Faults.{Fault, fault_if}
use Rattle.binary.specs.Bytes.{u8_at, u32_at}
use Rattle.bits.specs.Fields.{field}
use Rattle.tables.specs.Float24.{good_float24, f32_bits}
use Rattle.tables.specs.declared.constants.ConstantEntry.{ConstantEntry}
use Rattle.tables.specs.declared.constants.Constant.{Constant}
use Rattle.tables.specs.declared.constants.Constant.TheVariants.{Flag, Bytes, Vector}
use Rattle.tables.specs.declared.constants.FloatVector.{FloatVector}

-- what an entry holds; a bool's value is the lowest byte of x, an integer's bytes are all four, lowest first
abbrev pub entry_of : List ℕ → ConstantEntry
entry_of s =
    record {
      kind = u8_at s 0x00;
      id = u8_at s 0x02;
      x = u32_at s 0x04;
      y = u32_at s 0x08;
      z = u32_at s 0x0c;
      w = u32_at s 0x10;
    }

-- 'kind 0 bool (ID 0 to 15, value 0 or 1)': the value is the byte at 4
abbrev pub flag_of : ConstantEntry → Option Constant
flag_of e = then_some (leb e.id 15 && leb (field 0 8 e.x) 1) (Flag (eqb (field 0 8 e.x) 1))

-- '1 integer (ID 0 to 3, bytes x y z w)': the bytes at 4 to 7
abbrev pub bytes_of : ConstantEntry → Option Constant
bytes_of e =
    then_some (leb e.id 3)
    (Bytes (record { x = field 0 8 e.x; y = field 8 8 e.x; z = field 16 8 e.x; w = field 24 8 e.x }))

-- '2 vector (ID 0 to 95, four float24 words)'
abbrev pub f32_of : ℕ → Float
f32_of w = of_bits binary32 (f32_bits w)

abbrev pub floats_of : ConstantEntry → FloatVector
floats_of e = record { x = f32_of e.x; y = f32_of e.y; z = f32_of e.z; w = f32_of e.w }

abbrev pub vector_of : ConstantEntry → Option Constant
vector_of e =
    then_some (leb e.id 95 && (good_float24 e.x && good_float24 e.y && good_float24 e.z && good_float24 e.w))
    (Vector (floats_of e))

-- no other kind is good
unfoldable pub convert_of : ConstantEntry → Option Constant
convert_of e = cond (eqb e.kind 0) (flag_of e) (cond (eqb e.kind 1) (bytes_of e) (cond (eqb e.kind 2) (vector_of e) None))

-- 18: a bad constant
abbrev pub is_bad : Option Constant → Bool
is_bad c = is_none c

unfoldable pub constant_fault : List ℕ → ℕ → Fault
constant_fault s place = fault_if (is_bad (convert_of (entry_of s))) 18 place
