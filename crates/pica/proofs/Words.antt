-- The answers of encoding, and that decoding and encoding are inverse as calls too. Assumes nothing.
use mathlib.Core.Path.{◌≡◌, refl, sym, ap, ◌∙◌}
use mathlib.Core.Bool.{Bool, true, false, ◌&&◌, cond}
use mathlib.Core.List.{List, [], ◌∷◌, ◌++◌}
use Prim.Native.Nat.{ℕ, zero, suc, ◌-◌, ◌≤◌, ◌<◌, ◌^◌}
use native.Mathlib.Omega.{arith}
use lib.Dec.{eqb, leb}
use lib.Pointwise.{pointwise}
use Rattle.std.specs.Cmp.Lexicographic.{same_text}
use lib.ListN.{length, get_or, take, drop, replicate, length-drop, take-append-drop}
use lib.Seq.{take-suc, length-take-le}
use borrow.Author.Tests.{le-leb, leb-true, eq-eqb}
use Rattle.answer.specs.Answers.{given, refused}
use Rattle.instruction.proofs.RoundTrip.{encode_decode, decode_encode}
use Rattle.instruction.specs.Operations.{tag}
use Rattle.instruction.specs.Words.{decode_of, format_for, encode_of}
use Rattle.instruction.specs.declared.decoding.Fields.{Fields}
use Rattle.instruction.specs.declared.decoding.Fields.TheVariants.{Format0, Format1, Format1i, Format1u, Format1c, Format2, Format3, Format4, Format5, Format5i}
use Rattle.pica.specs.Words.{format_number, field_numbers, eight_numbers, fields_by, zeros, encode_numbers}

-- a format and eight numbers: what is encoded, if the numbers after the format's fields are zeros
encoded_if : (format : ℕ) (l : List ℕ) → format ≤ 9 → 8 ≤ length l
    → encode_numbers format l ≡ cond (zeros (drop (length (field_numbers (fields_by format l))) (take 8 l))) (encode_of (fields_by format l)) (refused 31 0)
unfolding encode_numbers
encoded_if format l h k = rw (le-leb format 9 h, le-leb 8 (length l) k)

-- what decoding tells of a word is encoded to that word
pub record Eight (f : Fields) : Type 0 where
  pub format : format_number f ≤ 9
  pub long : length (eight_numbers f) ≡ 8
  pub fields : fields_by (format_number f) (eight_numbers f) ≡ f
  pub zero : zeros (drop (length (field_numbers f)) (take 8 (eight_numbers f))) ≡ true

eight : (f : Fields) → Eight f
eight (Format0 op rest) = record { format = omega arith; long = refl; fields = refl; zero = refl }
eight (Format1 op desc src2 src1 idx1 dst) = record { format = omega arith; long = refl; fields = refl; zero = refl }
eight (Format1i op desc src2 src1 idx2 dst) = record { format = omega arith; long = refl; fields = refl; zero = refl }
eight (Format1u op desc rest src1 idx1 dst) = record { format = omega arith; long = refl; fields = refl; zero = refl }
eight (Format1c op desc src2 src1 idx1 cmpy cmpx) = record { format = omega arith; long = refl; fields = refl; zero = refl }
eight (Format2 op num rest dst condop refy refx) = record { format = omega arith; long = refl; fields = refl; zero = refl }
eight (Format3 op num rest dst id) = record { format = omega arith; long = refl; fields = refl; zero = refl }
eight (Format4 op rest winding primemit vtxid) = record { format = omega arith; long = refl; fields = refl; zero = refl }
eight (Format5 op desc src3 src2 src1 idx2 dst) = record { format = omega arith; long = refl; fields = refl; zero = refl }
eight (Format5i op desc src3 src2 src1 idx3 dst) = record { format = omega arith; long = refl; fields = refl; zero = refl }

pub encode_told : (w : ℕ) → w < 2 ^ 32 → (f : Fields) → decode_of w ≡ given f → encode_numbers (format_number f) (eight_numbers f) ≡ given w
encode_told w h f e =
    let x = eight f in
    encoded_if (format_number f) (eight_numbers f) x.format (omega (arith, x.long)) ∙ rw (x.fields, x.zero) (encode_decode w h f e)

first_eight : (l : List ℕ) → 8 ≤ length l
    → take 8 l ≡ get_or l 0 0 ∷ get_or l 1 0 ∷ get_or l 2 0 ∷ get_or l 3 0 ∷ get_or l 4 0 ∷ get_or l 5 0 ∷ get_or l 6 0 ∷ get_or l 7 0 ∷ []
first_eight l h =
    rw (take-suc l 7 0 (omega arith), take-suc l 6 0 (omega arith), take-suc l 5 0 (omega arith), take-suc l 4 0 (omega arith), take-suc l 3 0 (omega arith), take-suc l 2 0 (omega arith), take-suc l 1 0 (omega arith), take-suc l 0 0 (omega arith))

-- a format's fields are the first of the numbers, in their order
module _ (l : List ℕ) where
  abbrev numbers : List ℕ
  numbers = get_or l 0 0 ∷ get_or l 1 0 ∷ get_or l 2 0 ∷ get_or l 3 0 ∷ get_or l 4 0 ∷ get_or l 5 0 ∷ get_or l 6 0 ∷ get_or l 7 0 ∷ []

  record Ordered (format : ℕ) : Type 0 where
    same : format_number (fields_by format l) ≡ format
    first : field_numbers (fields_by format l) ≡ take (length (field_numbers (fields_by format l))) numbers

  ordered : (format : ℕ) → format ≤ 9 → Ordered format
  ordered zero h = record { same = refl; first = refl }
  ordered (suc zero) h = record { same = refl; first = refl }
  ordered (suc (suc zero)) h = record { same = refl; first = refl }
  ordered (suc (suc (suc zero))) h = record { same = refl; first = refl }
  ordered (suc (suc (suc (suc zero)))) h = record { same = refl; first = refl }
  ordered (suc (suc (suc (suc (suc zero))))) h = record { same = refl; first = refl }
  ordered (suc (suc (suc (suc (suc (suc zero)))))) h = record { same = refl; first = refl }
  ordered (suc (suc (suc (suc (suc (suc (suc zero))))))) h = record { same = refl; first = refl }
  ordered (suc (suc (suc (suc (suc (suc (suc (suc zero)))))))) h = record { same = refl; first = refl }
  ordered (suc (suc (suc (suc (suc (suc (suc (suc (suc zero))))))))) h = record { same = refl; first = refl }
  ordered (suc (suc (suc (suc (suc (suc (suc (suc (suc (suc k)))))))))) h = absurd (omega arith)

-- lists that begin alike are equal as what follows is; all are zeros
same_front : (a b c : List ℕ) → pointwise eqb (a ++ b) (a ++ c) ≡ pointwise eqb b c
same_front [] b c = refl
same_front (x ∷ a) b c = rw (eq-eqb x x refl) (same_front a b c)

all_zeros : (l : List ℕ) → pointwise eqb l (replicate (length l) 0) ≡ zeros l
all_zeros [] = refl
all_zeros (x ∷ l) = ap (λ b. eqb x 0 && b) (all_zeros l)

-- eight numbers are those of their fields exactly if the numbers after the fields are zeros
module _ (format : ℕ) (l : List ℕ) (h : format ≤ 9) (k : 8 ≤ length l) where
  abbrev f : Fields
  f = fields_by format l

  abbrev beyond : List ℕ
  beyond = drop (length (field_numbers f)) (take 8 l)

  told_again : pointwise eqb (take 8 l) (eight_numbers f) ≡ zeros beyond
  told_again =
      let n = length (field_numbers f) in
      let t = first_eight l k in
      let s : field_numbers f ≡ take n (take 8 l) = rw t (ordered l format h).first in
      let m : 8 - n ≡ length beyond = omega (arith, length-drop n (take 8 l), length-take-le 8 l k) in
      let x : take n (take 8 l) ++ beyond ≡ take 8 l = take-append-drop n (take 8 l) in
      let y : eight_numbers f ≡ take n (take 8 l) ++ replicate (length beyond) 0 = cc in
      let z = same_front (take n (take 8 l)) beyond (replicate (length beyond) 0) in
      ap (λ a. pointwise eqb a (eight_numbers f)) (sym x) ∙ ap (pointwise eqb (take n (take 8 l) ++ beyond)) y ∙ z ∙ all_zeros beyond

  fields_again : fields_by format (take 8 l) ≡ f
  fields_again = rw (first_eight l k)

  -- what a call encodes of the first eight numbers
  pub encoded_of : {xs : List ℕ} → xs ≡ take 8 l
      → encode_numbers format l ≡ cond (pointwise eqb xs (eight_numbers (fields_by format xs))) (encode_of (fields_by format xs)) (refused 31 0)
  encoded_of e = rw (e, fields_again, told_again) (encoded_if format l h k)

pub told_encoded : (format : ℕ) (l : List ℕ) (w : ℕ) → encode_numbers format l ≡ given w
    → (f : Fields) × (decode_of w ≡ given f) × (format_number f ≡ format) × (eight_numbers f ≡ take 8 l)
unfolding encode_numbers
told_encoded format l w e = by (leb format 9) (leb 8 (length l)) (zeros rest) refl refl refl e
  where
    f : Fields
    f = fields_by format l

    rest : List ℕ
    rest = drop (length (field_numbers f)) (take 8 l)

    by : (a b c : Bool) → leb format 9 ≡ a → leb 8 (length l) ≡ b → zeros rest ≡ c → cond (a && (b && c)) (encode_of f) (refused 31 0) ≡ given w
        → (f : Fields) × (decode_of w ≡ given f) × (format_number f ≡ format) × (eight_numbers f ≡ take 8 l)
    by true true true x y z g =
        let h = leb-true format 9 x in
        let k = leb-true 8 (length l) y in
        (f, decode_encode f w g, (ordered l format h).same, sym (same_text (take 8 l) (eight_numbers f) (sym (told_again format l h k ∙ z))))
    by true true false x y z g = absurd (let q : ◌≡◌ {A = ℕ} 0 1 = cc in omega arith)
    by true false c x y z g = absurd (let q : ◌≡◌ {A = ℕ} 0 1 = cc in omega arith)
    by false b c x y z g = absurd (let q : ◌≡◌ {A = ℕ} 0 1 = cc in omega arith)

-- the formats are numbered as decoding tells them apart, from 0
pub format_tag : (f : Fields) → tag (format_for f) ≡ suc (format_number f)
format_tag (Format0 op rest) = refl
format_tag (Format1 op desc src2 src1 idx1 dst) = refl
format_tag (Format1i op desc src2 src1 idx2 dst) = refl
format_tag (Format1u op desc rest src1 idx1 dst) = refl
format_tag (Format1c op desc src2 src1 idx1 cmpy cmpx) = refl
format_tag (Format2 op num rest dst condop refy refx) = refl
format_tag (Format3 op num rest dst id) = refl
format_tag (Format4 op rest winding primemit vtxid) = refl
format_tag (Format5 op desc src3 src2 src1 idx2 dst) = refl
format_tag (Format5i op desc src3 src2 src1 idx3 dst) = refl
