-- The laws of bit fields, over position and width: packing and taking apart undo one another, and what is
-- packed stays below the power.
-- Every layout of a word, of a descriptor or of a float is an instance. Assumes nothing.
use mathlib.Core.Path.{◌≡◌, refl, ap, ap₂, sym, ◌∙◌}
use mathlib.Core.List.{List, [], ◌∷◌}
use Prim.Native.Nat.{ℕ, ◌+◌, ◌*◌, ◌/◌, ◌%◌, ◌^◌, ◌<◌, ◌≤◌}
use native.Mathlib.Nat.{div-eq_of_lt, mod-eq_of_lt, lt_of_lt_of_le, lt_of_le_of_lt, add_assoc, mul_comm, mul_assoc, add-mul, mod-lt, div-one}
use native.Mathlib.Omega.{arith}
use lib.Pow.{pow_mono, shr_le, pow_pos, pow-add, shl_exact, split, high, low, shr-shr, shr_lt}
use lib.Pow.{field as div-of-mod}
use lib.Dec.{T, ltb, ltb→lt, lt→ltb}
use lib.Arith.{digits_lt}
use mir.Facts.{and_yes, yes_and}
use Rattle.bits.specs.Fields.{field, total, fields_from, pack, fit}

-- a one shifted to bit n, in a word of 32 bits
pub shifted_one : (n : ℕ) → n < 32 → 1 * 2 ^ n % 2 ^ 32 ≡ 2 ^ n
shifted_one n h = shl_exact 1 n 32 (omega arith) (omega arith) ∙ omega arith

-- past its end there is nothing, and more bits than it has are all that it has
pub shifted_out : (w pos : ℕ) → w < 2 ^ 32 → 32 ≤ pos → w / 2 ^ pos ≡ 0
shifted_out w pos h p = div-eq_of_lt (lt_of_lt_of_le h (pow_mono {i = 32} p))

pub all_kept : (w pos width : ℕ) → w < 2 ^ 32 → 32 ≤ width → w / 2 ^ pos % 2 ^ width ≡ w / 2 ^ pos
all_kept w pos width h p = mod-eq_of_lt (lt_of_le_of_lt (shr_le w pos) (lt_of_lt_of_le h (pow_mono {i = 32} p)))

pub ruleset in_one_word = (shifted_one, shifted_out, all_kept)

-- a field fits its width
pub field_lt : (pos width w : ℕ) → field pos width w < 2 ^ width
field_lt pos width w = mod-lt (w / 2 ^ pos) (pow_pos width)

-- the upper part of a field is a field
pub field_upper : (pos low width w : ℕ) → field (pos + low) width w ≡ field pos (width + low) w / 2 ^ low
field_upper pos low width w = ap (λ (x : ℕ). x % 2 ^ width) (sym (shr-shr w pos low)) ∙ sym (div-of-mod (w / 2 ^ pos) width low)

-- the head and the tail of fields that fit
module _ (n : ℕ) (ns : List ℕ) (f : ℕ) (fs : List ℕ) (t : T (fit (n ∷ ns) (f ∷ fs))) where
  head_fits : f < 2 ^ n
  head_fits = ltb→lt f (2 ^ n) (and_yes (ltb f (2 ^ n)) (fit ns fs) t).0

  tail_fits : T (fit ns fs)
  tail_fits = (and_yes (ltb f (2 ^ n)) (fit ns fs) t).1

-- packing the fields of a word gives the word ..
pack_from : (ns : List ℕ) (pos w : ℕ) → w / 2 ^ pos < 2 ^ total ns → pack ns (fields_from pos ns w) ≡ w / 2 ^ pos
pack_from [] pos w h = omega arith
pack_from (n ∷ ns) pos w h =
    let rest : pack ns (fields_from (pos + n) ns w) ≡ w / 2 ^ (pos + n) = pack_from ns (pos + n) w (rw (← shr-shr w pos n) (shr_lt (total ns) n h)) in
    ap (λ (m : ℕ). m * 2 ^ n + field pos n w) (rest ∙ sym (shr-shr w pos n)) ∙ split (w / 2 ^ pos) n

pub pack_fields : (ns : List ℕ) (w : ℕ) → w < 2 ^ total ns → pack ns (fields_from 0 ns w) ≡ w
pack_fields ns w h = pack_from ns 0 w (rw (div-one w) h) ∙ div-one w

-- .. and the fields of a packed list are the list
fields_from_lem : (ns fs : List ℕ) (pos lo : ℕ) → lo < 2 ^ pos → T (fit ns fs) → fields_from pos ns (pack ns fs * 2 ^ pos + lo) ≡ fs
fields_from_lem [] [] pos lo h t = refl
fields_from_lem [] (f ∷ fs) pos lo h t = absurd t
fields_from_lem (n ∷ ns) [] pos lo h t = absurd t
fields_from_lem (n ∷ ns) (f ∷ fs) pos lo h t =
    let P : ℕ = pack ns fs in
    let hf : f < 2 ^ n = head_fits n ns f fs t in
    let moved : (P * 2 ^ n + f) * 2 ^ pos + lo ≡ P * 2 ^ (pos + n) + (f * 2 ^ pos + lo) =
    rw (pow-add 2 pos n, add-mul) (simp (mul_assoc, mul_comm (2 ^ n) (2 ^ pos), add_assoc)) in
    let below : f * 2 ^ pos + lo < 2 ^ (pos + n) = rw (pow-add 2 pos n, mul_comm (2 ^ pos) (2 ^ n)) (digits_lt hf h) in
    ap₂ ◌∷◌ (ap (λ (m : ℕ). m % 2 ^ n) (high (P * 2 ^ n + f) pos h) ∙ low P n hf)
    (ap (fields_from (pos + n) ns) moved ∙ fields_from_lem ns fs (pos + n) (f * 2 ^ pos + lo) below (tail_fits n ns f fs t))

pub fields_pack : (ns fs : List ℕ) → T (fit ns fs) → fields_from 0 ns (pack ns fs) ≡ fs
fields_pack ns fs t =
    let whole : pack ns fs * 2 ^ 0 + 0 ≡ pack ns fs = omega arith in
    rw whole at (fields_from_lem ns fs 0 0 (omega arith) t)

-- what is packed has no more bits than the layout
pub pack_lt : (ns fs : List ℕ) → T (fit ns fs) → pack ns fs < 2 ^ total ns
pack_lt [] [] t = omega arith
pack_lt [] (f ∷ fs) t = absurd t
pack_lt (n ∷ ns) [] t = absurd t
pack_lt (n ∷ ns) (f ∷ fs) t = rw (pow-add 2 (total ns) n) (digits_lt (pack_lt ns fs (tail_fits n ns f fs t)) (head_fits n ns f fs t))

-- the fields of a word fit the layout
pub fields_fit : (ns : List ℕ) (pos w : ℕ) → T (fit ns (fields_from pos ns w))
fields_fit [] pos w = tt
fields_fit (n ∷ ns) pos w =
    yes_and (ltb (field pos n w) (2 ^ n)) (fit ns (fields_from (pos + n) ns w)) (lt→ltb (field pos n w) (2 ^ n) (field_lt pos n w)) (fields_fit ns (pos + n) w)
