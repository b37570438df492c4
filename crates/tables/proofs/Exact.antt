-- 'exact': the f32 of a float24 is the same number. Assumes nothing.
use mathlib.Core.Path.{◌≡◌, refl, sym}
use mathlib.Core.Bool.{Bool, true, false}
use Prim.Native.Nat.{ℕ, suc, ◌+◌, ◌*◌, ◌^◌, ◌<◌, ◌≤◌}
use native.Mathlib.Nat.{mul_assoc}
use native.Mathlib.Omega.{arith}
use lib.Dec.{eqb, leb}
use lib.Ieee.{binary32, of_bits, of_fields, odd}
use lib.Ieee.Exact.{HasValue, odd_sign}
use lib.Pow.{pow-add}
use borrow.Author.Tests.{ne_eqb, eqb-true, eqb-false}
use Rattle.std.proofs.lemmas.Bool.Decides.{nat_tests}
use Rattle.tables.specs.Constants.{f32_of}
use Rattle.tables.specs.Float24.{fraction, exponent, sign, f32_bits}
use Rattle.tables.proofs.Laws.{bits_digits, bits_power, normal_bits, zero_bits}

-- the number that a fraction, an exponent from 1 to 254 and a sign have at an f32's layout
module _ (f e s : ℕ) (hf : f < 2 ^ 23) (he : e < 254) (hs : s < 2) where
  abbrev bits : ℕ
  bits = s * 2 ^ 31 + suc e * 2 ^ 23 + f

  negative : leb (2 ^ 31) bits ≡ eqb s 1
  negative = grind (arith, nat_tests)

  value : HasValue (of_bits binary32 bits) (eqb s 1) ((2 ^ 23 + f) * 2 ^ e) (2 ^ 149)
  unfolding of_bits of_fields
  value =
      rw (negative, bits_power f (suc e) s hf (omega arith) hs, bits_digits f (suc e) s hf (omega arith) hs, ne_eqb (suc e) 255 (omega arith))
      (odd_sign 24 (eqb s 1) (2 ^ 23 + f) e 149)

-- a float24 with e from 1 on is (1 + f / 2 ^ 16) * 2 ^ (e - 63), and so is its f32; above and below the line
-- both stand multiplied by 2 ^ 70
pub exact : (w : ℕ) → 1 ≤ exponent w
    → HasValue (f32_of w) (eqb (sign w) 1) ((2 ^ 16 + fraction w) * 2 ^ exponent w * 2 ^ 70) (2 ^ (16 + 63) * 2 ^ 70)
exact w h =
    let f = fraction w in
    let e = exponent w in
    let same : f32_bits w ≡ sign w * 2 ^ 31 + suc (e + 63) * 2 ^ 23 + f * 128 = omega (arith, normal_bits w h) in
    let moved : (2 ^ 23 + f * 128) * 2 ^ (e + 63) ≡ (2 ^ 16 + f) * 2 ^ e * 2 ^ 70 = shift (2 ^ 16 + f) (2 ^ 23 + f * 128) e (omega arith) in
    rw (same, ← moved) (value (f * 128) (e + 63) (sign w) (omega arith) (omega arith) (omega arith))
  where
    shift : (q r e : ℕ) → r ≡ q * 2 ^ 7 → r * 2 ^ (e + 63) ≡ q * 2 ^ e * 2 ^ 70
    shift q r e d =
        let powers : 2 ^ 7 * (2 ^ e * 2 ^ 63) ≡ 2 ^ e * 2 ^ 70 = omega arith in
        rw (d, pow-add 2 e 63, mul_assoc q (2 ^ 7) (2 ^ e * 2 ^ 63), powers) (sym (mul_assoc q (2 ^ e) (2 ^ 70)))

-- e=0: a zero of that sign
pub exact_zero : (w : ℕ) → exponent w ≡ 0 → HasValue (f32_of w) (eqb (sign w) 1) 0 1
unfolding of_bits of_fields odd
exact_zero w h = by (eqb (sign w) 1) refl
  where
    by : (b : Bool) → eqb (sign w) 1 ≡ b → HasValue (f32_of w) b 0 1
    by true p = let same : f32_bits w ≡ 2 ^ 31 = omega (arith, zero_bits w h, eqb-true (sign w) 1 p) in rw same (refl, refl)
    by false p = let same : f32_bits w ≡ 0 = omega (arith, zero_bits w h, eqb-false (sign w) 1 p) in rw same (refl, refl)
