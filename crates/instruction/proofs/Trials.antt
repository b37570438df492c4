-- Words that document 01 prints, and one of each kind that it describes, through the definitions.
-- Assumes nothing.
use mathlib.Core.Path.{◌≡◌, refl}
use mathlib.Core.Bool.{true, false}
use mathlib.Core.List.{[], ◌∷◌, map}
use Rattle.std.proofs.Common.{Some, None}
use Rattle.binary.specs.Addresses.{word_address}
use Rattle.answer.specs.Answers.{given, refused}
use Rattle.instruction.specs.Control.{control_of}
use Rattle.instruction.specs.Operands.{descriptor_of, operators_of, takes_any_fields, descriptor_parts}
use Rattle.instruction.specs.Operations.{operations, format_of, entry_format}
use Rattle.instruction.specs.Words.{decode_of, encode_of}
use Rattle.instruction.specs.declared.decoding.Fields.TheVariants.{Format0, Format1, Format1u, Format1c, Format3, Format5}
use Rattle.instruction.specs.declared.flow_control.Condition.TheVariants.{Always, Compared, Uniform}
use Rattle.instruction.specs.declared.flow_control.Control.TheVariants.{Unknown, Plain, Emit, End, Break, If, Loop, Call, Jump}

-- the five words of 'Listing and report': MOV o0,v0; IFU b3 0003+00; ADD r1,c5,v2; NOP; END. Then CMP with
-- operators GE and LT, MAD with descriptor 31, an unknown word
decoded : map decode_of (0x4c000000 ∷ 0x9cc00c00 ∷ 0x02225100 ∷ 0x84000000 ∷ 0x88000000 ∷ 0xbd400009 ∷ 0xe000003f ∷ 0x40000000 ∷ [])
    ≡ given (Format1u 0x13 0 0 0 0 0) ∷ given (Format3 0x27 0 0 3 3) ∷ given (Format1 0x00 0 2 0x25 0 0x11) ∷ given (Format0 0x21 0) ∷ given (Format0 0x22 0)
    ∷ given (Format1c 0x2e 9 0 0 0 2 5) ∷ given (Format5 0x38 31 1 0 0 0 0) ∷ refused 9 0 ∷ []
unfolding decode_of format_of operations
decoded = refl

-- a descriptor ID of 6 bits for MAD, a number that is not the lowest opcode of its entry, a format that is
-- not the operation's
not_encoded : map encode_of (Format5 0x38 32 0 0 0 0 0 ∷ Format5 0x39 0 0 0 0 0 0 ∷ Format1c 0x2f 0 0 0 0 0 0 ∷ Format0 0x27 0 ∷ [])
    ≡ refused 31 0 ∷ refused 31 0 ∷ refused 31 0 ∷ refused 31 0 ∷ []
unfolding encode_of entry_format operations
not_encoded = refl

-- each word of control flow: BREAK, NOP, END, BREAKC, CALL, CALLC, CALLU, IFU, IFC, LOOP, EMIT, SETEMIT,
-- JMPC, JMPU; MOV; an unknown word
control : map control_of (0x80000000 ∷ 0x84000000 ∷ 0x88000000 ∷ 0x8c000000 ∷ 0x90000c01 ∷ 0x94000c01 ∷ 0x99400c01 ∷ 0x9cc00c00 ∷ 0xa0000c02
    ∷ 0xa4400800 ∷ 0xa8000000 ∷ 0xac000000 ∷ 0xb0000c00 ∷ 0xb4000800 ∷ 0x4c000000 ∷ 0x40000000 ∷ [])
    ≡ Break Always ∷ Plain ∷ End ∷ Break Compared ∷ Call Always (word_address 3) 1 ∷ Call Compared (word_address 3) 1 ∷ Call (Uniform 5) (word_address 3) 1
    ∷ If (Uniform 3) (word_address 3) 0 ∷ If Compared (word_address 3) 2 ∷ Loop 1 (word_address 2) ∷ Emit ∷ Emit ∷ Jump Compared (word_address 3) 0
    ∷ Jump (Uniform 0) (word_address 2) 0 ∷ Plain ∷ Unknown ∷ []
unfolding control_of decode_of format_of operations
control = refl

descriptors : map descriptor_of (0x4c000005 ∷ 0xbd400009 ∷ 0xe000003f ∷ 0x88000000 ∷ 0x40000000 ∷ []) ≡ Some 5 ∷ Some 9 ∷ Some 31 ∷ None ∷ None ∷ []
unfolding descriptor_of decode_of format_of operations
descriptors = refl

operators : map operators_of (0xbd400009 ∷ 0xb9000000 ∷ 0x4c000000 ∷ 0x40000000 ∷ []) ≡ Some (record { x = 5; y = 2 }) ∷ Some (record { x = 1; y = 0 }) ∷ None ∷ None ∷ []
unfolding operators_of decode_of format_of operations
operators = refl

-- NOP, CALLU, SETEMIT, JMPU; LOOP, CMP, MOV, an unknown word
any_fields : map takes_any_fields (0x84000000 ∷ 0x99400c01 ∷ 0xac000000 ∷ 0xb4000800 ∷ 0xa4400800 ∷ 0xbd400009 ∷ 0x4c000000 ∷ 0x40000000 ∷ [])
    ≡ true ∷ true ∷ true ∷ true ∷ false ∷ false ∷ false ∷ false ∷ []
unfolding takes_any_fields control_of descriptor_of decode_of format_of operations
any_fields = refl

-- descriptor 0D86C36Fh of the example: all components written, no source negated, xyzw of each
parts : descriptor_parts 0x0d86c36f ≡ 15 ∷ 0 ∷ 3 ∷ 2 ∷ 1 ∷ 0 ∷ 0 ∷ 3 ∷ 2 ∷ 1 ∷ 0 ∷ 0 ∷ 3 ∷ 2 ∷ 1 ∷ 0 ∷ 0 ∷ []
parts = refl
