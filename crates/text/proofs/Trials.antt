-- Texts of document 01, and of outside vectors that have each format, index, sign and mask, by computing.
-- Assumes nothing.
use mathlib.Core.Path.{◌≡◌, refl}
use mathlib.Core.List.{List, [], ◌∷◌, ◌++◌, map}
use Prim.Native.Nat.{ℕ}
use Prim.Native.String.{String}
use lib.ListN.{replicate}
use Rattle.binary.specs.Addresses.{word_address}
use Rattle.instruction.specs.Operations.{operations, format_of}
use Rattle.instruction.specs.Words.{decode_of}
use Rattle.text.specs.Pieces.{bytes, digits, decimal, lettered, labelled, name_text}
use Rattle.text.specs.Records.{record_of, operation_text, line_text, report_text, refused_text}
use Rattle.text.specs.Registers.{source_text, destination_text}
use Rattle.verifier.specs.declared.verdict.Report.{Report}

-- a word, the ID of its descriptor and that descriptor, and the text of its name and operands
record Trial : Type 0 where
  word : ℕ
  id : ℕ
  descriptor : ℕ
  text : String

trial : ℕ → ℕ → ℕ → String → Trial
trial w i d t = record { word = w; id = i; descriptor = d; text = t }

trials : List Trial
trials =
    trial 0x4c000000 0 0x0d86c36f "MOV     o0.xyzw,v0.xyzw" ∷
    trial 0x9cc00c00 0 0x0d86c36f "IFU     b3 0003+00" ∷
    trial 0x02225100 0 0x0d86c36f "ADD     r1.xyzw,c5.xyzw,v2.xyzw" ∷
    trial 0x84000000 0 0x0d86c36f "NOP     " ∷
    trial 0x88000000 0 0x0d86c36f "END     " ∷
    trial 0x0289e932 50 0x218e84f4 "ADD     r4.y,-r14[a0.x].xzyw,r2.xwzz" ∷
    trial 0x033f0780 0 0xc94709f0 "ADD     r9._,-c80[aL].yxww,v15.xywx" ∷
    trial 0x62a808be 62 0xc4d836d6 "DPHI    r5.yz,-v0.zwyz,-r1[a0.x].yzxx" ∷
    trial 0x6732f701 1 0x00000000 "DSTI    r9._,v11.xxxx,c78[a0.y].xxxx" ∷
    trial 0x4a23f8ff 127 0x8d86c36f "MOVA    a0.xyzw,c31.xyzw" ∷
    trial 0x49023312 18 0x9d067833 "MOVA    a0.zw,-c3.wxxy" ∷
    trial 0xb918d795 21 0x8676fc0d "CMP     v13[aL].wzxx,NE,EQ,-v15.wyzw" ∷
    trial 0xbd0f3eb9 57 0x0d86c36f "CMP     c83[a0.x].xyzw,GE,EQ,r13.xyzw" ∷
    trial 0xeae50867 7 0xe065d94c "MAD     o10.xy,r2.wxzz,c34[aL].zyyw,-v3.wxxx" ∷
    trial 0xe0280a19 25 0x93510bbf "MAD     o0.xyzw,-r4.yywy,v2.yxyx,-r0.xzyz" ∷
    trial 0xdcc015b6 22 0xf1e1cb83 "MADI    r12.zw,v0.yywx,v1.zxyw,-c13[aL].wzxw" ∷
    trial 0x8c000000 0 0x00000000 "BREAKC  x0|y0" ∷
    trial 0x91002406 0 0x00000000 "CALL    0009+06" ∷
    trial 0x96c02406 0 0x00000000 "CALLC   y0 0009+06" ∷
    trial 0x9a002406 0 0x00000000 "CALLU   b8 0009+06" ∷
    trial 0xa0001401 0 0x00000000 "IFC     x0|y0 0005+01" ∷
    trial 0xb340cc00 0 0x00000000 "JMPC    x1&y1 0033" ∷
    trial 0xb4c11400 0 0x00000000 "JMPU    b3 0045" ∷
    trial 0xa4401000 0 0x00000000 "LOOP    i1 0004" ∷
    trial 0xa4401007 0 0x00000000 "LOOP    i1 0004" ∷
    trial 0xae800000 0 0x00000000 "SETEMIT v2 p1 w0" ∷
    trial 0xa2805401 0 0x00000000 "IFC     x1 0015+01" ∷
    trial 0xa2013702 0 0x00000000 "IFC     x1|y0 004D+02" ∷
    trial 0xa140e801 0 0x00000000 "IFC     x0&y1 003A+01" ∷
    trial 0xbc4776dd 93 0xccd7726e "CMP     c87.zyxw,GT,LT,-v13.yywy" ∷
    trial 0xbb5f3bea 106 0xccc7ef5d "CMP     -c83[aL].ywzz,LE,LT,-r7.xyww" ∷
    trial 0x4c91ee10 16 0xfe06d003 "MOV     o4.zw,r14[a0.y].zxxx" ∷
    []

written : map (λ t. operation_text (replicate t.id 0 ++ t.descriptor ∷ []) (decode_of t.word)) trials ≡ map (λ t. bytes t.text) trials
unfolding trials trial source_text destination_text digits decimal lettered name_text decode_of format_of operations
written = refl

-- a whole record: the example's second line, at another index
lines : record_of 80 (line_text 0x1fa 0x9cc00c00 []) ≡ bytes "01FA 9CC00C00 IFU     b3 0003+00                                               \n"
unfolding line_text digits decimal lettered name_text decode_of format_of operations
lines = refl

-- the example's report, and one with nine different numbers
report : ℕ → ℕ → ℕ → ℕ → ℕ → ℕ → ℕ → ℕ → Report
report t m e i o c w n = record { shader_type = t; main = word_address m; endmain = word_address e; inputs = i; outputs = o; constants = c; words = w; total = n }

reports : report_text 0 (report 0 0 5 1 1 0 5 5) ∷ report_text 9 (report 1 3 31 16 11 2 75 2105150) ∷ []
    ≡ bytes "exe 00 type 0 main 0000 end 0005 in 01 out 01 con 0000 words 0005 most 0000005" ∷ bytes "exe 09 type 1 main 0003 end 0031 in 16 out 11 con 0002 words 0075 most 2105150" ∷ []
unfolding report report_text labelled digits
reports = refl

-- a refusal at executable 1
refusals : refused_text 26 65546 ≡ bytes "refused 26 0001000A"
unfolding refused_text labelled digits
refusals = refl
