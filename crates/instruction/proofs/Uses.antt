-- What is known of a word's control, descriptor ID and operators: unknown exactly if the word is; an ID of 7
-- bits at most; no operators without a descriptor. Assumes nothing.
use mathlib.Core.Path.{◌≡◌}
use mathlib.Core.Bool.{true}
use Prim.Native.Nat.{ℕ, ◌<◌}
use native.Mathlib.Omega.{arith}
use Rattle.std.proofs.Common.{Some, None, is_none}
use Rattle.std.proofs.lemmas.Bool.Decides.{nat_tests}
use Rattle.answer.specs.Answers.{given, refused}
use Rattle.bits.proofs.Laws.{field_lt}
use Rattle.instruction.specs.Control.{control_of}
use Rattle.instruction.specs.Operands.{descriptor_of, operators_of}
use Rattle.instruction.specs.Words.{decode_of}
use Rattle.instruction.specs.declared.decoding.Fields.{Fields}
use Rattle.instruction.specs.declared.flow_control.Control.TheVariants.{Unknown}

pub unknown_word : (w : ℕ) → decode_of w ≡ refused 9 0 → control_of w ≡ Unknown
unfolding control_of
unknown_word w e = rw e

pub known_word : (w : ℕ) {f : Fields} → decode_of w ≡ given f → control_of w ≡ Unknown → ⊥
unfolding control_of
known_word w {f} e u = grind (arith, nat_tests)

-- an ID fits its bits
pub id_lt : (w n : ℕ) → descriptor_of w ≡ Some n → n < 128
unfolding descriptor_of decode_of
id_lt w n e = let a = field_lt 0 7 w in let b = field_lt 0 5 w in grind (arith, nat_tests)

pub no_operators : (w : ℕ) → is_none (descriptor_of w) ≡ true → operators_of w ≡ None
unfolding descriptor_of operators_of decode_of
no_operators w e = grind (arith, nat_tests)
