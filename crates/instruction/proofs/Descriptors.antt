-- The parts of an operand descriptor are those of its layout: no bit is left out, and none is read twice.
-- Assumes nothing.
use mathlib.Core.Path.{◌≡◌, refl, ap, ◌∙◌}
use mathlib.Core.List.{List}
use Prim.Native.Nat.{ℕ, ◌^◌, ◌<◌}
use lib.Dec.{T, eqb}
use mathlib.Core.Bool.{cond}
use Rattle.std.proofs.Common.{arith}
use Rattle.std.proofs.lemmas.Grind.{common_steps}
use Rattle.bits.specs.Fields.{field, fields_from, fit, pack}
use Rattle.bits.proofs.Laws.{field_lt, pack_fields, fields_pack}
use Rattle.instruction.specs.Operands.{descriptor_layout, descriptor_parts}

-- a bit is 1 exactly if it is told to be 1
bit_of : (pos w : ℕ) → cond (eqb (field pos 1 w) 1) 1 0 ≡ field pos 1 w
bit_of pos w = grind (arith, common_steps, field_lt pos 1 w)

in_order : (d : ℕ) → descriptor_parts d ≡ fields_from 0 descriptor_layout d
in_order d = rw (bit_of 4 d, bit_of 13 d, bit_of 22 d) refl

pub pack_parts : (d : ℕ) → d < 2 ^ 32 → pack descriptor_layout (descriptor_parts d) ≡ d
pack_parts d h = ap (pack descriptor_layout) (in_order d) ∙ pack_fields descriptor_layout d h

pub parts_pack : (ps : List ℕ) → T (fit descriptor_layout ps) → descriptor_parts (pack descriptor_layout ps) ≡ ps
parts_pack ps t = in_order (pack descriptor_layout ps) ∙ fields_pack descriptor_layout ps t
