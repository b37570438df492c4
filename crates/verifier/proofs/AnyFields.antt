-- A word that takes any fields has none of 9 to 12. Assumes nothing.
use mathlib.Core.Path.{◌≡◌, refl}
use mathlib.Core.Bool.{true, false}
use Prim.Native.Nat.{ℕ}
use Rattle.answer.specs.Faults.{Nothing}
use Rattle.flow.proofs.Tests.{false_not_true, both}
use Rattle.instruction.specs.Control.{control_of}
use Rattle.instruction.specs.Operands.{descriptor_of, is_free, takes_any_fields}
use Rattle.instruction.specs.declared.flow_control.Control.{Control}
use Rattle.instruction.specs.declared.flow_control.Control.TheVariants.{Unknown, Plain, Emit, End, Break, If, Loop, Call, Jump}
use Rattle.std.specs.Prelude.{Option, Some, None, is_none}
use Rattle.instruction.proofs.Uses.{no_operators}
use Rattle.verifier.specs.Words.{is_unknown, undescribed, bad_register, word_fault}

-- neither 9 nor 12
free : (c : Control) → is_free c ≡ true → (is_unknown c ≡ false) × (bad_register c ≡ false)
free Unknown e = absurd (false_not_true e)
free Plain e = (refl, refl)
free Emit e = (refl, refl)
free End e = (refl, refl)
free (Break c) e = (refl, refl)
free (If c dst num) e = (refl, refl)
free (Loop r dst) e = absurd (false_not_true e)
free (Call c dst num) e = (refl, refl)
free (Jump c dst num) e = (refl, refl)

-- not 11
described : (descriptors : ℕ) (d : Option ℕ) → is_none d ≡ true → undescribed descriptors d ≡ false
described descriptors (Some n) e = absurd (false_not_true e)
described descriptors None e = refl

pub no_fault : (descriptors w place : ℕ) → takes_any_fields w ≡ true → word_fault descriptors w place ≡ Nothing
unfolding takes_any_fields word_fault
no_fault descriptors w place e =
    let (f, u) = both (is_free (control_of w)) (is_none (descriptor_of w)) e in
    let (known, register) = free (control_of w) f in
    rw (known, no_operators w u, described descriptors (descriptor_of w) u, register)
