-- The list of operations (document 01, 'Words').
-- Assumes nothing.
use Rattle.std.specs.Prelude.{ℕ, Bool, true, false, ◌&&◌, List, [], ◌∷◌, leb, eqb, Option, Some, None}
use Prim.Native.String.{String}
use Rattle.instruction.specs.declared.operation.Format.{Format}
use Rattle.instruction.specs.declared.operation.Format.TheVariants.{F0, F1, F1i, F1u, F1c, F2, F3, F4, F5, F5i}

-- formats are told apart by a number
abbrev pub tag : Format → ℕ
tag F0 = 1
tag F1 = 2
tag F1i = 3
tag F1u = 4
tag F1c = 5
tag F2 = 6
tag F3 = 7
tag F4 = 8
tag F5 = 9
tag F5i = 10

-- whether there is a format, and it is this one
abbrev pub is_format : Option Format → Format → Bool
is_format (Some g) f = eqb (tag g) (tag f)
is_format None f = false

-- an entry: its lowest and its highest opcode, its name, its format
pub record Operation : Type 0 where
  pub lowest : ℕ
  pub highest : ℕ
  pub name : String
  pub format : Format

abbrev pub operation : ℕ → ℕ → String → Format → Operation
operation l h n f = record { lowest = l; highest = h; name = n; format = f }

unfoldable pub operations : List Operation
operations =
    operation 0x00 0x00 "ADD" F1 ∷
    operation 0x01 0x01 "DP3" F1 ∷
    operation 0x02 0x02 "DP4" F1 ∷
    operation 0x03 0x03 "DPH" F1 ∷
    operation 0x04 0x04 "DST" F1 ∷
    operation 0x08 0x08 "MUL" F1 ∷
    operation 0x09 0x09 "SGE" F1 ∷
    operation 0x0a 0x0a "SLT" F1 ∷
    operation 0x0c 0x0c "MAX" F1 ∷
    operation 0x0d 0x0d "MIN" F1 ∷
    operation 0x05 0x05 "EX2" F1u ∷
    operation 0x06 0x06 "LG2" F1u ∷
    operation 0x07 0x07 "LITP" F1u ∷
    operation 0x0b 0x0b "FLR" F1u ∷
    operation 0x0e 0x0e "RCP" F1u ∷
    operation 0x0f 0x0f "RSQ" F1u ∷
    operation 0x12 0x12 "MOVA" F1u ∷
    operation 0x13 0x13 "MOV" F1u ∷
    operation 0x18 0x18 "DPHI" F1i ∷
    operation 0x19 0x19 "DSTI" F1i ∷
    operation 0x1a 0x1a "SGEI" F1i ∷
    operation 0x1b 0x1b "SLTI" F1i ∷
    operation 0x20 0x20 "BREAK" F0 ∷
    operation 0x21 0x21 "NOP" F0 ∷
    operation 0x22 0x22 "END" F0 ∷
    operation 0x2a 0x2a "EMIT" F0 ∷
    operation 0x2b 0x2b "SETEMIT" F4 ∷
    operation 0x23 0x23 "BREAKC" F2 ∷
    operation 0x24 0x24 "CALL" F2 ∷
    operation 0x25 0x25 "CALLC" F2 ∷
    operation 0x28 0x28 "IFC" F2 ∷
    operation 0x2c 0x2c "JMPC" F2 ∷
    operation 0x26 0x26 "CALLU" F3 ∷
    operation 0x27 0x27 "IFU" F3 ∷
    operation 0x29 0x29 "LOOP" F3 ∷
    operation 0x2d 0x2d "JMPU" F3 ∷
    operation 0x2e 0x2f "CMP" F1c ∷
    operation 0x30 0x37 "MADI" F5i ∷
    operation 0x38 0x3f "MAD" F5 ∷
    []

-- the first of the entries for which a test holds gives its format, if there is one
abbrev pub pick : Bool → Format → Option Format → Option Format
pick true f rest = Some f
pick false f rest = rest

abbrev pub format_where : (Operation → Bool) → List Operation → Option Format
format_where test [] = None
format_where test (o ∷ os) = pick (test o) o.format (format_where test os)

-- the format of an opcode; 'the rest are unknown'
unfoldable pub format_of : ℕ → Option Format
format_of opcode = format_where (λ o. leb o.lowest opcode && leb opcode o.highest) operations

-- the format of the entry that is numbered op, 'the lowest opcode of its entry'
unfoldable pub entry_format : ℕ → Option Format
entry_format op = format_where (λ o. eqb op o.lowest) operations
