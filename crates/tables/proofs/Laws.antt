-- Laws of names, of a float24's f32 and of constants. Assumes nothing.
use mathlib.Core.Path.{◌≡◌, refl}
use mathlib.Core.Bool.{Bool, true, false, not, ◌&&◌}
use mathlib.Core.List.{List, [], ◌∷◌, map}
use mathlib.Core.Logic.{◌≢◌}
use Prim.Native.Nat.{ℕ, zero, suc, ◌+◌, ◌*◌, ◌/◌, ◌%◌, ◌^◌, ◌<◌, ◌≤◌}
use native.Mathlib.Omega.{arith}
use lib.Dec.{T, eqb, leb, ltb}
use lib.Ieee.{binary32, of_bits, to_bits, nan_bits}
use lib.Ieee.Bits.{to_bits-of_bits, nan_bits_is}
use lib.ListN.{length, get_or}
use borrow.Author.Tests.{ne_eqb, eqb-true, eqb-false}
use Rattle.std.specs.Prelude.{Some}
use Rattle.std.specs.Bool.{then_some}
use Rattle.std.proofs.lemmas.Bool.Decides.{nat_tests}
use Rattle.binary.specs.Bytes.{u8_at, u32_at}
use Rattle.bits.specs.Fields.{fields_from}
use Rattle.tables.specs.Constants.{entry_of, flag_of, bytes_of, f32_of, convert_of, floats_of}
use Rattle.tables.specs.Entries.{label_address, label_name, good_label, uniform_name, uniform_start, uniform_end, in_one_kind, good_uniform}
use Rattle.tables.specs.Float24.{fraction, exponent, sign, top_byte, f32_bits}
use Rattle.tables.specs.Names.{meets0, good_name, names_end}
use Rattle.tables.specs.declared.constants.Constant.TheVariants.{Flag, Bytes, Vector}
use Rattle.tables.specs.declared.constants.ConstantEntry.{ConstantEntry}
use Rattle.tables.specs.declared.constants.FloatVector.{FloatVector}

-- without a 00 byte names end at 0
no_names : (s : List ℕ) → meets0 s ≡ false → names_end s ≡ 0
unfolding meets0 names_end
no_names [] e = refl
no_names (b ∷ s) e = grind (arith, nat_tests)

-- a name is good exactly if it starts before the place where names end
pub good_names : (symbols : List ℕ) (at : ℕ) → ltb at (names_end symbols) ≡ good_name symbols at
unfolding meets0 names_end good_name
good_names [] at = grind (arith, nat_tests)
good_names (b ∷ s) zero = grind (arith, nat_tests)
good_names (b ∷ s) (suc at) = let same = good_names s at in let none = no_names s in grind (arith, nat_tests)

-- so a label's and a uniform's name is tested as document 01 says
module _ (s symbols : List ℕ) where
  pub label_name_lem : (words : ℕ) → good_label s words (names_end symbols) ≡ (leb (label_address s) words && good_name symbols (label_name s))
  unfolding good_label
  label_name_lem words = rw (good_names symbols (label_name s))

  pub uniform_name_lem : good_uniform s (names_end symbols) ≡ (leb (uniform_start s) (uniform_end s) && in_one_kind (uniform_start s) (uniform_end s) && good_name symbols (uniform_name s))
  unfolding good_uniform
  uniform_name_lem = rw (good_names symbols (uniform_name s))

-- where names end, by the last byte that is 00
none_met : (s : List ℕ) → ((k : ℕ) → k < length s → get_or s k 0 ≢ 0) → meets0 s ≡ false
unfolding meets0
none_met [] h = refl
none_met (b ∷ s) h = let here = h 0 (omega arith) in let rest = none_met s (λ k l. h (suc k) (omega arith)) in grind (arith, nat_tests)

pub no_zero : (s : List ℕ) → ((k : ℕ) → k < length s → get_or s k 0 ≢ 0) → names_end s ≡ 0
no_zero s h = no_names s (none_met s h)

pub last_zero : (s : List ℕ) (i : ℕ) → i < length s → get_or s i 0 ≡ 0 → ((k : ℕ) → i < k → k < length s → get_or s k 0 ≢ 0) → names_end s ≡ i + 1
unfolding names_end
last_zero [] i l e h = absurd (omega arith)
last_zero (b ∷ s) zero l e h = let none = none_met s (λ k m. h (suc k) (omega arith) (omega arith)) in grind (arith, nat_tests)
last_zero (b ∷ s) (suc i) l e h =
    let later = last_zero s i (omega arith) e (λ k m n. h (suc k) (omega arith) (omega arith)) in
    let none = no_names s in
    grind (arith, nat_tests)

-- a float24 word has these fields, from bit 0 up, and no bit besides
pub float24_fields : (w : ℕ) → fields_from 0 (16 ∷ 7 ∷ 1 ∷ 8 ∷ []) w ≡ fraction w ∷ exponent w ∷ sign w ∷ top_byte w ∷ []
float24_fields w = refl

-- bits that have a fraction, an exponent and a sign at an f32's layout
abbrev pub f32_layout : List ℕ
f32_layout = 23 ∷ 8 ∷ 1 ∷ []

module _ (f e s : ℕ) (hf : f < 2 ^ 23) (he : e < 2 ^ 8) (hs : s < 2 ^ 1) where
  abbrev bits : ℕ
  bits = s * 2 ^ 31 + e * 2 ^ 23 + f

  bits_fields : fields_from 0 f32_layout bits ≡ f ∷ e ∷ s ∷ []
  bits_fields = grind arith

  pub bits_digits : bits % 2 ^ 23 ≡ f
  bits_digits = omega arith

  pub bits_power : bits % 2 ^ 31 / 2 ^ 23 ≡ e
  bits_power = omega arith

  -- with an exponent below 255 they are no NaN's, and the f32 keeps them
  bits_no_nan : e < 255 → T (not (nan_bits binary32 bits))
  unfolding nan_bits
  bits_no_nan h = rw (bits_power, ne_eqb e 255 (omega arith)) tt

  bits_kept : e < 255 → to_bits binary32 (of_bits binary32 bits) ≡ bits
  bits_kept h = to_bits-of_bits binary32 bits (omega arith) (rw (nan_bits_is binary32 bits) at (bits_no_nan h))

-- the f32 of a float24
module _ (w : ℕ) where
  pub normal_bits : 1 ≤ exponent w → f32_bits w ≡ sign w * 2 ^ 31 + (exponent w + 64) * 2 ^ 23 + fraction w * 128
  unfolding f32_bits
  normal_bits h = grind (arith, nat_tests)

  pub zero_bits : exponent w ≡ 0 → f32_bits w ≡ sign w * 2 ^ 31 + 0 * 2 ^ 23 + 0
  unfolding f32_bits
  zero_bits h = grind (arith, nat_tests)

  -- its fields are those that document 01 gives it
  pub normal_fields : 1 ≤ exponent w → fields_from 0 f32_layout (f32_bits w) ≡ (fraction w * 128) ∷ (exponent w + 64) ∷ sign w ∷ []
  normal_fields h = rw (normal_bits h) (bits_fields (fraction w * 128) (exponent w + 64) (sign w) (omega arith) (omega arith) (omega arith))

  pub zero_fields : exponent w ≡ 0 → fields_from 0 f32_layout (f32_bits w) ≡ 0 ∷ 0 ∷ sign w ∷ []
  zero_fields h = rw (zero_bits h) (bits_fields 0 0 (sign w) (omega arith) (omega arith) (omega arith))

  -- it is no NaN, and it has these bits
  by_fields : (P : ℕ → Type 0) → ((f e s : ℕ) → f < 2 ^ 23 → e < 2 ^ 8 → s < 2 ^ 1 → e < 255 → P (s * 2 ^ 31 + e * 2 ^ 23 + f)) → P (f32_bits w)
  by_fields P p = by (eqb (exponent w) 0) refl
    where
      by : (b : Bool) → eqb (exponent w) 0 ≡ b → P (f32_bits w)
      by true h = rw (zero_bits (eqb-true (exponent w) 0 h)) (p 0 0 (sign w) (omega arith) (omega arith) (omega arith) (omega arith))
      by false h =
          rw (normal_bits (omega (arith, eqb-false (exponent w) 0 h)))
          (p (fraction w * 128) (exponent w + 64) (sign w) (omega arith) (omega arith) (omega arith) (omega arith))

  pub no_nan : T (not (nan_bits binary32 (f32_bits w)))
  no_nan = by_fields (λ b. T (not (nan_bits binary32 b))) bits_no_nan

  pub has_bits : to_bits binary32 (f32_of w) ≡ f32_bits w
  has_bits = by_fields (λ b. to_bits binary32 (of_bits binary32 b) ≡ b) bits_kept

-- the bytes of a word of the file, lowest first
pub word_bytes : (s : List ℕ) (at : ℕ) → ((k : ℕ) → u8_at s k < 256)
    → fields_from 0 (8 ∷ 8 ∷ 8 ∷ 8 ∷ []) (u32_at s at) ≡ u8_at s at ∷ u8_at s (at + 1) ∷ u8_at s (at + 2) ∷ u8_at s (at + 2 + 1) ∷ []
word_bytes s at h = let a = h at in let b = h (at + 1) in let c = h (at + 2) in let d = h (at + 2 + 1) in grind arith

-- a bool's value and an integer's bytes x y z w are the bytes of the file at 4 to 7
module _ (s : List ℕ) (bytes : (k : ℕ) → u8_at s k < 256) where
  pub bool_byte_lem : flag_of (entry_of s) ≡ then_some (leb (u8_at s 2) 15 && leb (u8_at s 4) 1) (Flag (eqb (u8_at s 4) 1))
  bool_byte_lem = let e = word_bytes s 4 bytes in cc

  pub integer_bytes : bytes_of (entry_of s) ≡ then_some (leb (u8_at s 2) 3) (Bytes (record { x = u8_at s 4; y = u8_at s 5; z = u8_at s 6; w = u8_at s 7 }))
  integer_bytes = let e = word_bytes s 4 bytes in cc

-- the components of a vector have the bits of their words
pub vector_floats : (e : ConstantEntry) (v : FloatVector) → convert_of e ≡ Some (Vector v) → floats_of e ≡ v
unfolding convert_of
vector_floats e v q = grind (arith, nat_tests)

pub vector_bits : (e : ConstantEntry) (v : FloatVector) → convert_of e ≡ Some (Vector v)
    → map (to_bits binary32) (v.x ∷ v.y ∷ v.z ∷ v.w ∷ []) ≡ map f32_bits (e.x ∷ e.y ∷ e.z ∷ e.w ∷ [])
vector_bits e v q = rw (← vector_floats e v q, has_bits e.x, has_bits e.y, has_bits e.z, has_bits e.w)
