-- What a word's opcode alone tells: what is read of its fields, the same over a range of opcodes; whether it
-- is an IF or a LOOP; whether it takes any fields. Assumes nothing.
use mathlib.Core.Path.{◌≡◌, refl, ap, ◌∙◌}
use mathlib.Core.Bool.{true, false, not, ◌&&◌}
use mathlib.Core.List.{List, ◌∷◌}
use Prim.Native.Nat.{ℕ, zero, suc, ◌+◌, ◌<◌, ◌≤◌}
use native.Mathlib.Omega.{arith}
use lib.Dec.{leb, eqb}
use lib.ListN.{replicate}
use Rattle.answer.specs.Answers.{Answer}
use Rattle.std.proofs.lemmas.Bool.Decides.{nat_tests}
use Rattle.bits.specs.Fields.{field}
use Rattle.instruction.specs.Control.{control_of, is_block}
use Rattle.instruction.specs.Operands.{descriptor_of, takes_any_fields}
use Rattle.instruction.specs.Operations.{format_of}
use Rattle.instruction.specs.Words.{decode_as, decode_of}
use Rattle.instruction.specs.declared.decoding.Fields.{Fields}
use Rattle.instruction.proofs.Formats.{by_range}
use Rattle.instruction.proofs.Tables.{table_from, same_on}

module _ {A : Type 0} where
  same_value : (a : A) (lo n : ℕ) → table_from (λ k. a) lo n ≡ replicate n a
  same_value a lo zero = refl
  same_value a lo (suc n) = ap (λ (rest : List A). a ∷ rest) (same_value a (suc lo) n)

  -- the formats of a range may differ, as long as what is read of the fields is the same
  pub by_opcode : (read : Answer Fields → A) (w lo n : ℕ) {a : A} → replicate n a ≡ table_from (λ k. read (decode_as (format_of k) w)) lo n
      → {op : ℕ} → op ≡ field 26 6 w → lo ≤ op → op < lo + n → a ≡ read (decode_of w)
  unfolding decode_of
  by_opcode read w lo n {a} same {op} e h l =
      let at : ℕ → A = λ k. read (decode_as (format_of k) w) in
      same_on (λ k. a) at lo n (same_value a lo n ∙ same) op h l ∙ ap at e

module _ (w : ℕ) where
  block_below : field 26 6 w < 0x27 → is_block (control_of w) ≡ false
  unfolding control_of decode_of
  block_below h = grind (arith, by_range)

  block_within : 0x27 ≤ field 26 6 w → field 26 6 w ≤ 0x29 → is_block (control_of w) ≡ true
  unfolding control_of decode_of
  block_within h l = grind (arith, by_range)

  block_above : 0x29 < field 26 6 w → is_block (control_of w) ≡ false
  unfolding control_of decode_of
  block_above h = grind (arith, by_range)

-- IF and LOOP have the opcodes 27h to 29h
pub block_of : (w : ℕ) → is_block (control_of w) ≡ (leb 0x27 (field 26 6 w) && leb (field 26 6 w) 0x29)
block_of w = grind (arith, nat_tests, block_below w, block_within w, block_above w)

-- a word takes any fields at 20h to 2Dh but 29h, LOOP
pub any_fields_of : (w : ℕ) → takes_any_fields w ≡ ((leb 0x20 (field 26 6 w) && leb (field 26 6 w) 0x2d) && not (eqb (field 26 6 w) 0x29))
unfolding takes_any_fields control_of descriptor_of decode_of
any_fields_of w = grind (arith, by_range)
