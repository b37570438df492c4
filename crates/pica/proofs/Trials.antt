-- The numbers that the calls for C answer, computed: a word of each format with its fields told apart, the
-- edges of encoding, a report, each kind of constant. Assumes nothing.
use mathlib.Core.Path.{◌≡◌, refl}
use mathlib.Core.Bool.{true, false}
use mathlib.Core.List.{[], ◌∷◌, map}
use lib.Ieee.{binary32, of_bits, to_bits, of_fields, odd}
use lib.ListN.{length}
use Rattle.answer.specs.Answers.{given, refused}
use Rattle.binary.specs.Addresses.{word_address}
use Rattle.instruction.specs.Operations.{operations, format_of, entry_format}
use Rattle.instruction.specs.Words.{decode_of, encode_of}
use Rattle.tables.specs.declared.constants.Constant.TheVariants.{Flag, Bytes, Vector}
use Rattle.pica.specs.Libraries.{report_numbers}
use Rattle.pica.specs.Replies.{upper_of, lower_of, reply, buffer_after}
use Rattle.pica.specs.Executables.{constant_numbers}
use Rattle.pica.specs.Words.{decode_reply, encode_numbers}

-- the number in the upper half, the place in the lower
upper : map upper_of (given 4000000 ∷ refused 24 0x20003 ∷ []) ≡ 0 ∷ 24 ∷ []
upper = refl

lower : map lower_of (given 4000000 ∷ refused 24 0x20003 ∷ []) ≡ 4000000 ∷ 0x20003 ∷ []
lower = refl

-- formats 0, 1, 1i, 1u, 1c, 2, 3, 4, 5, 5i
decoded : map (λ w. decode_reply w 8) (0x84000005 ∷ 0x00883106 ∷ 0x6088c106 ∷ 0x4c903286 ∷ 0xbd883106 ∷ 0x91801704 ∷ 0x9c801704 ∷ 0xaf400009 ∷ 0xe5480c46 ∷ 0xc5483046 ∷ [])
    ≡ given (reply 0 (33 ∷ 5 ∷ 0 ∷ 0 ∷ 0 ∷ 0 ∷ 0 ∷ 0 ∷ []))
    ∷ given (reply 1 (0 ∷ 6 ∷ 2 ∷ 3 ∷ 1 ∷ 4 ∷ 0 ∷ 0 ∷ []))
    ∷ given (reply 2 (24 ∷ 6 ∷ 2 ∷ 3 ∷ 1 ∷ 4 ∷ 0 ∷ 0 ∷ []))
    ∷ given (reply 3 (19 ∷ 6 ∷ 3 ∷ 2 ∷ 4 ∷ 5 ∷ 0 ∷ 0 ∷ []))
    ∷ given (reply 4 (46 ∷ 6 ∷ 2 ∷ 3 ∷ 1 ∷ 4 ∷ 5 ∷ 0 ∷ []))
    ∷ given (reply 5 (36 ∷ 4 ∷ 5 ∷ 2 ∷ 1 ∷ 0 ∷ 3 ∷ 0 ∷ []))
    ∷ given (reply 6 (39 ∷ 4 ∷ 5 ∷ 2 ∷ 3 ∷ 0 ∷ 0 ∷ 0 ∷ []))
    ∷ given (reply 7 (43 ∷ 1 ∷ 0 ∷ 3 ∷ 9 ∷ 0 ∷ 0 ∷ 0 ∷ []))
    ∷ given (reply 8 (56 ∷ 6 ∷ 2 ∷ 3 ∷ 4 ∷ 1 ∷ 5 ∷ 0 ∷ []))
    ∷ given (reply 9 (48 ∷ 6 ∷ 2 ∷ 3 ∷ 4 ∷ 1 ∷ 5 ∷ 0 ∷ []))
    ∷ []
unfolding decode_of format_of operations
decoded = refl

-- an unknown word is refused by 9 before a buffer that is too short; a longer one keeps what it has beyond
edges : map (decode_reply 0x40000000) (7 ∷ 8 ∷ []) ≡ refused 9 0 ∷ refused 9 0 ∷ []
unfolding decode_of format_of operations
edges = refl

short : decode_reply 0x84000005 7 ≡ refused 30 0
unfolding decode_of format_of operations
short = refl

buffers : map (λ l. buffer_after l (decode_reply 0x84000005 (length l))) ((1 ∷ 2 ∷ 3 ∷ []) ∷ (7 ∷ 7 ∷ 7 ∷ 7 ∷ 7 ∷ 7 ∷ 7 ∷ 7 ∷ 9 ∷ []) ∷ [])
    ≡ (1 ∷ 2 ∷ 3 ∷ []) ∷ (0x21 ∷ 5 ∷ 0 ∷ 0 ∷ 0 ∷ 0 ∷ 0 ∷ 0 ∷ 9 ∷ []) ∷ []
unfolding decode_of format_of operations
buffers = refl

-- the word; with a ninth number; a surplus field; seven numbers; no such format; a field that is too wide; an
-- operation of another format
encoded :
    encode_numbers 0 (0x21 ∷ 5 ∷ 0 ∷ 0 ∷ 0 ∷ 0 ∷ 0 ∷ 0 ∷ [])
    ∷ encode_numbers 0 (0x21 ∷ 5 ∷ 0 ∷ 0 ∷ 0 ∷ 0 ∷ 0 ∷ 0 ∷ 1 ∷ [])
    ∷ encode_numbers 0 (0x21 ∷ 5 ∷ 0 ∷ 0 ∷ 0 ∷ 0 ∷ 0 ∷ 1 ∷ [])
    ∷ encode_numbers 0 (0x21 ∷ 5 ∷ 0 ∷ 0 ∷ 0 ∷ 0 ∷ 0 ∷ [])
    ∷ encode_numbers 10 (0x21 ∷ 5 ∷ 0 ∷ 0 ∷ 0 ∷ 0 ∷ 0 ∷ 0 ∷ [])
    ∷ encode_numbers 8 (0x38 ∷ 32 ∷ 2 ∷ 3 ∷ 4 ∷ 1 ∷ 5 ∷ 0 ∷ [])
    ∷ encode_numbers 9 (0x38 ∷ 1 ∷ 2 ∷ 3 ∷ 4 ∷ 1 ∷ 5 ∷ 0 ∷ [])
    ∷ []
    ≡ given 0x84000005 ∷ given 0x84000005 ∷ refused 31 0 ∷ refused 31 0 ∷ refused 31 0 ∷ refused 31 0 ∷ refused 31 0 ∷ []
unfolding encode_numbers encode_of entry_format operations
encoded = refl

report : report_numbers (record { shader_type = 1; main = word_address 2; endmain = word_address 3; inputs = 4; outputs = 5; constants = 6; words = 7; total = 8 }) ≡ 1 ∷ 2 ∷ 3 ∷ 4 ∷ 5 ∷ 6 ∷ 7 ∷ 8 ∷ []
report = refl

constants :
    map constant_numbers
    (Flag true
    ∷ Flag false
    ∷ Bytes (record { x = 1; y = 2; z = 3; w = 255 })
    ∷ Vector (record { x = of_bits binary32 0x3f800000; y = of_bits binary32 0xbf800000; z = of_bits binary32 0x3fc00000; w = of_bits binary32 0x80000000 })
    ∷ [])
    ≡ reply 0 (1 ∷ 0 ∷ 0 ∷ 0 ∷ []) ∷ reply 0 (0 ∷ 0 ∷ 0 ∷ 0 ∷ []) ∷ reply 1 (1 ∷ 2 ∷ 3 ∷ 255 ∷ []) ∷ reply 2 (0x3f800000 ∷ 0xbf800000 ∷ 0x3fc00000 ∷ 0x80000000 ∷ []) ∷ []
unfolding of_bits of_fields odd to_bits
constants = refl
