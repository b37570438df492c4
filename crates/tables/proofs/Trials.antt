-- P12, and entries on the edges of what document 01 allows, through the definitions. Assumes nothing.
use mathlib.Core.Path.{◌≡◌, refl}
use mathlib.Core.Bool.{true, false}
use mathlib.Core.List.{List, [], ◌∷◌, map}
use Prim.Native.Nat.{ℕ}
use lib.Ieee.{binary32, of_bits}
use Rattle.std.specs.Prelude.{Some}
use Rattle.answer.specs.Faults.{Nothing, At}
use Rattle.tables.specs.Constants.{entry_of, convert_of, constant_fault}
use Rattle.tables.specs.Entries.{good_label, label_fault, good_output, output_fault, in_one_kind, good_uniform, uniform_fault}
use Rattle.tables.specs.Float24.{good_float24, f32_bits}
use Rattle.tables.specs.Names.{meets0, good_name, names_end}
use Rattle.tables.specs.declared.constants.Constant.TheVariants.{Flag, Bytes, Vector}

-- P12, with both zeros
p12 : map f32_bits (0x3f0000 ∷ 0xbf0000 ∷ 0x3f8000 ∷ 0x000000 ∷ 0x800000 ∷ [])
    ≡ 0x3f800000 ∷ 0xbf800000 ∷ 0x3fc00000 ∷ 0x00000000 ∷ 0x80000000 ∷ []
unfolding f32_bits
p12 = refl

-- .. which are good, with the least and the greatest exponent and fraction that are
p12_good : map good_float24 (0x3f0000 ∷ 0xbf0000 ∷ 0x3f8000 ∷ 0x000000 ∷ 0x800000 ∷ 0x010000 ∷ 0x7effff ∷ [])
    ≡ true ∷ true ∷ true ∷ true ∷ true ∷ true ∷ true ∷ []
unfolding good_float24
p12_good = refl

-- .. and the two that are refused, the same with a sign, and words with a top byte
p12_refused : map good_float24 (0x000001 ∷ 0x7f0000 ∷ 0x800001 ∷ 0xff0000 ∷ 0x01000000 ∷ 0x803f0000 ∷ [])
    ≡ false ∷ false ∷ false ∷ false ∷ false ∷ false ∷ []
unfolding good_float24
p12_refused = refl

-- a symbol table of three names, the last without its 00 byte
symbols : List ℕ
symbols = 0x61 ∷ 0x00 ∷ 0x62 ∷ 0x63 ∷ 0x00 ∷ 0x64 ∷ []

names : map (good_name symbols) (0 ∷ 2 ∷ 4 ∷ 5 ∷ 6 ∷ []) ≡ true ∷ true ∷ true ∷ false ∷ false ∷ []
unfolding good_name meets0 symbols
names = refl

ends : map names_end (symbols ∷ [] ∷ (0x61 ∷ []) ∷ (0x00 ∷ []) ∷ []) ≡ 5 ∷ 0 ∷ 0 ∷ 1 ∷ []
unfolding names_end meets0 symbols
ends = refl

-- labels in a program of 5 words, names ending at 3: the last address and name that are good, the first that
-- are not
abbrev label : ℕ → ℕ → List ℕ
label address name = 1 ∷ 0 ∷ 1 ∷ 0 ∷ address ∷ 0 ∷ 0 ∷ 0 ∷ 0xff ∷ 0xff ∷ 0xff ∷ 0xff ∷ name ∷ 0 ∷ 0 ∷ 0 ∷ []

labels : map (λ e. label_fault e 5 3 65537) (label 0 0 ∷ label 5 2 ∷ label 6 2 ∷ label 5 3 ∷ [])
    ≡ Nothing ∷ Nothing ∷ At 19 65537 ∷ At 19 65537 ∷ []
unfolding good_label label_fault
labels = refl

-- .. and an address and a name that are good in their lowest byte alone
labels_high : map (λ e. label_fault e 5 3 1)
    ((1 ∷ 0 ∷ 1 ∷ 0 ∷ 0 ∷ 0 ∷ 1 ∷ 0 ∷ 0 ∷ 0 ∷ 0 ∷ 0 ∷ 0 ∷ 0 ∷ 0 ∷ 0 ∷ []) ∷ (1 ∷ 0 ∷ 1 ∷ 0 ∷ 0 ∷ 0 ∷ 0 ∷ 0 ∷ 0 ∷ 0 ∷ 0 ∷ 0 ∷ 0 ∷ 0 ∷ 1 ∷ 0 ∷ []) ∷ [])
    ≡ At 19 1 ∷ At 19 1 ∷ []
unfolding good_label label_fault
labels_high = refl

-- outputs: types 6, 7, 8 and 9, registers 15 and 16, masks 0, 1, 15 and 16
abbrev output : ℕ → ℕ → ℕ → List ℕ
output kind register mask = kind ∷ 0 ∷ register ∷ 0 ∷ mask ∷ 0 ∷ []

outputs : map (λ e. output_fault e 2) (output 6 15 15 ∷ output 8 0 1 ∷ output 7 0 1 ∷ output 9 0 1 ∷ output 0 16 1 ∷ output 0 0 0 ∷ output 0 0 16 ∷ [])
    ≡ Nothing ∷ Nothing ∷ At 20 2 ∷ At 20 2 ∷ At 20 2 ∷ At 20 2 ∷ At 20 2 ∷ []
unfolding good_output output_fault
outputs = refl

-- .. type, register and mask 0100h and more
outputs_high : map (λ e. output_fault e 2)
    ((0 ∷ 1 ∷ 0 ∷ 0 ∷ 1 ∷ 0 ∷ []) ∷ (0 ∷ 0 ∷ 0 ∷ 1 ∷ 1 ∷ 0 ∷ []) ∷ (0 ∷ 0 ∷ 0 ∷ 0 ∷ 1 ∷ 1 ∷ []) ∷ [])
    ≡ At 20 2 ∷ At 20 2 ∷ At 20 2 ∷ []
unfolding good_output output_fault
outputs_high = refl

-- uniforms, names ending at 3: each range whole; from each range into the next; the gap and what follows the
-- last; end before start; the name
abbrev uniform : ℕ → ℕ → ℕ → List ℕ
uniform name start end = name ∷ 0 ∷ 0 ∷ 0 ∷ start ∷ 0 ∷ end ∷ 0 ∷ []

uniforms : map (λ e. uniform_fault e 3 0)
    (uniform 0 0x00 0x0f ∷ uniform 0 0x10 0x6f ∷ uniform 0 0x70 0x73 ∷ uniform 2 0x78 0x87 ∷ uniform 0 0x0f 0x10 ∷ uniform 0 0x6f 0x70
    ∷ uniform 0 0x73 0x78 ∷ uniform 0 0x74 0x74 ∷ uniform 0 0x77 0x77 ∷ uniform 0 0x88 0x88 ∷ uniform 0 0x11 0x10 ∷ uniform 3 0x00 0x00 ∷ [])
    ≡ Nothing ∷ Nothing ∷ Nothing ∷ Nothing ∷ At 21 0 ∷ At 21 0 ∷ At 21 0 ∷ At 21 0 ∷ At 21 0 ∷ At 21 0 ∷ At 21 0 ∷ At 21 0 ∷ []
unfolding good_uniform in_one_kind uniform_fault
uniforms = refl

-- .. start and end 0100h, end alone, and the name 00010000h
uniforms_high : map (λ e. uniform_fault e 3 0)
    ((0 ∷ 0 ∷ 0 ∷ 0 ∷ 0 ∷ 1 ∷ 0 ∷ 1 ∷ []) ∷ (0 ∷ 0 ∷ 0 ∷ 0 ∷ 0 ∷ 0 ∷ 0 ∷ 1 ∷ []) ∷ (0 ∷ 0 ∷ 1 ∷ 0 ∷ 0 ∷ 0 ∷ 0 ∷ 0 ∷ []) ∷ [])
    ≡ At 21 0 ∷ At 21 0 ∷ At 21 0 ∷ []
unfolding good_uniform in_one_kind uniform_fault
uniforms_high = refl

-- constants: the last ID and value of each kind that are good, the first that are not; a vector with a bad
-- word; kind 3
abbrev constant : ℕ → ℕ → List ℕ → List ℕ
constant kind id rest = kind ∷ 0 ∷ id ∷ 0 ∷ rest

floats : List ℕ
floats = 0 ∷ 0 ∷ 0x3f ∷ 0 ∷ 0 ∷ 0 ∷ 0xbf ∷ 0 ∷ 0 ∷ 0x80 ∷ 0x3f ∷ 0 ∷ 0 ∷ 0 ∷ 0x80 ∷ 0 ∷ []

given : map (λ e. convert_of (entry_of e))
    (constant 0 15 (1 ∷ 2 ∷ []) ∷ constant 0 0 (0 ∷ []) ∷ constant 1 3 (1 ∷ 2 ∷ 3 ∷ 4 ∷ []) ∷ constant 2 95 floats ∷ [])
    ≡ Some (Flag true) ∷ Some (Flag false) ∷ Some (Bytes (record { x = 1; y = 2; z = 3; w = 4 }))
    ∷ Some (Vector (record { x = of_bits binary32 0x3f800000; y = of_bits binary32 0xbf800000; z = of_bits binary32 0x3fc00000; w = of_bits binary32 0x80000000 })) ∷ []
unfolding convert_of good_float24 f32_bits floats
given = refl

refused : map (λ e. constant_fault e 3)
    (constant 2 95 floats ∷ constant 0 16 (1 ∷ []) ∷ constant 0 0 (2 ∷ []) ∷ constant 1 4 [] ∷ constant 2 96 floats ∷ constant 2 0 (0 ∷ 0 ∷ 0x7f ∷ []) ∷ constant 3 0 [] ∷ [])
    ≡ Nothing ∷ At 18 3 ∷ At 18 3 ∷ At 18 3 ∷ At 18 3 ∷ At 18 3 ∷ At 18 3 ∷ []
unfolding constant_fault convert_of good_float24 f32_bits floats
refused = refl

-- .. a vector whose x, y, z or w alone is bad
abbrev words : ℕ → ℕ → ℕ → ℕ → List ℕ
words x y z w = x ∷ 0 ∷ 0 ∷ 0 ∷ y ∷ 0 ∷ 0 ∷ 0 ∷ z ∷ 0 ∷ 0 ∷ 0 ∷ w ∷ 0 ∷ 0 ∷ 0 ∷ []

bad_words : map (λ e. constant_fault e 3)
    (constant 2 0 (words 1 0 0 0) ∷ constant 2 0 (words 0 1 0 0) ∷ constant 2 0 (words 0 0 1 0) ∷ constant 2 0 (words 0 0 0 1) ∷ constant 2 0 (words 0 0 0 0) ∷ [])
    ≡ At 18 3 ∷ At 18 3 ∷ At 18 3 ∷ At 18 3 ∷ Nothing ∷ []
unfolding constant_fault convert_of good_float24 f32_bits
bad_words = refl
