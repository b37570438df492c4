-- Decoding and encoding undo one another, over all words and all fields. Assumes nothing.
use mathlib.Core.Path.{◌≡◌, refl, ap}
use mathlib.Core.Bool.{Bool, true, false, ◌&&◌}
use Prim.Native.Nat.{ℕ, ◌+◌, ◌^◌, ◌<◌, ◌≤◌}
use native.Mathlib.Omega.{arith}
use lib.Dec.{T}
use Rattle.std.proofs.Common.{Option, Some, None}
use Rattle.std.specs.Option.{option_and_then}
use Rattle.bits.specs.Fields.{field, fields_from, fit, pack, total}
use Rattle.bits.proofs.Laws.{field_upper, pack_fields, fields_pack, pack_lt, fields_fit}
use Rattle.answer.specs.Answers.{given, refused}
use Rattle.instruction.specs.Operations.{operations, is_format, format_of, entry_format}
use Rattle.instruction.specs.declared.operation.Format.{Format}
use Rattle.instruction.specs.declared.operation.Format.TheVariants.{F0, F1, F1i, F1u, F1c, F2, F3, F4, F5, F5i}
use Rattle.instruction.specs.declared.decoding.Fields.{Fields}
use Rattle.instruction.specs.declared.decoding.Fields.TheVariants.{Format0, Format1, Format1i, Format1u, Format1c, Format2, Format3, Format4, Format5, Format5i}
use Rattle.instruction.specs.Words.{format0, format1, format1i, format1u, format1c, format2, format3, format4, format5, format5i, fields_as, decode_as, decode_of, layout, format_for, number_of, parts_of, word_if, word_of, or_refused, encode_of}
use Rattle.instruction.proofs.Tables.{same_all}
use Rattle.instruction.proofs.Formats.{of_format, is_itself, format_past, by_range, by_number}

T_true : (b : Bool) → T b → b ≡ true
T_true true t = refl
T_true false t = absurd t

-- the operation's number, from the format and the opcode; and the format, from the number
abbrev number : Format → ℕ → ℕ
number F1c k = 0x2e
number F5 k = 0x38
number F5i k = 0x30
number _ k = k

abbrev numbered : ℕ → Option Format
numbered k = option_and_then (λ g. entry_format (number g k)) (format_of k)

numbered_past : (k : ℕ) → 64 ≤ k → numbered k ≡ format_of k
numbered_past k h = rw (format_past k h)

number_has_format : (k : ℕ) → numbered k ≡ format_of k
unfolding format_of entry_format operations
number_has_format = same_all numbered format_of 64 refl numbered_past

format_of_number : (g : Format) (k : ℕ) → entry_format k ≡ Some g → format_of k ≡ Some g
format_of_number g k e = grind (arith, by_number)

-- CMP, MADI and MAD: the opcode's lowest j bits belong to another field. The n that are left are the same in
-- every word of the format and tell it, and the format has one number.
record Short (g : Format) (j n bits m : ℕ) : Type 0 where
  same_bits : (w : ℕ) → format_of (field 26 6 w) ≡ Some g → field (26 + j) n w ≡ bits
  tell : (w : ℕ) → field (26 + j) n w ≡ bits → format_of (field 26 6 w) ≡ Some g
  one_number : (op : ℕ) → entry_format op ≡ Some g → op ≡ m

CMP : Short F1c 1 5 0x17 0x2e
CMP =
    record {
      same_bits = λ w e. let u = field_upper 26 1 5 w in grind (arith, by_range);
      tell = λ w e. let u = field_upper 26 1 5 w in grind (arith, by_range);
      one_number = λ op e. grind (arith, by_number, by_range);
    }

MADI : Short F5i 3 3 6 0x30
MADI =
    record {
      same_bits = λ w e. let u = field_upper 26 3 3 w in grind (arith, by_range);
      tell = λ w e. let u = field_upper 26 3 3 w in grind (arith, by_range);
      one_number = λ op e. grind (arith, by_number, by_range);
    }

MAD : Short F5 3 3 7 0x38
MAD =
    record {
      same_bits = λ w e. let u = field_upper 26 3 3 w in grind (arith, by_range);
      tell = λ w e. let u = field_upper 26 3 3 w in grind (arith, by_range);
      one_number = λ op e. grind (arith, by_number, by_range);
    }

-- a word decodes to fields exactly if its opcode is an operation's; else the answer is 9 at 0
pub listed_decodes : (w : ℕ) → (format_of (field 26 6 w) ≡ None → ⊥) → (f : Fields) × (decode_of w ≡ given f)
unfolding decode_of
listed_decodes w n = by (format_of (field 26 6 w)) n
  where
    by : (o : Option Format) → (o ≡ None → ⊥) → (f : Fields) × (decode_as o w ≡ given f)
    by (Some g) n = (fields_as g w, refl)
    by None n = absurd (n refl)

pub unlisted_refused : (w : ℕ) → format_of (field 26 6 w) ≡ None → decode_of w ≡ refused 9 0
unfolding decode_of
unlisted_refused w e = rw e

-- a word of a listed operation decodes to fields that encode to the same word
module _ (w : ℕ) (h : w < 2 ^ 32) where
  abbrev opcode : ℕ
  opcode = field 26 6 w

  encodes : (g : Format) → format_of opcode ≡ Some g → (f : Fields) → (number_of f ≡ number g opcode) × (format_for f ≡ g)
      → parts_of f ≡ fields_from 0 (layout (format_for f)) w → w < 2 ^ total (layout (format_for f)) → encode_of f ≡ given w
  unfolding encode_of
  encodes g p f s q b =
      let ns = layout (format_for f) in
      let n : entry_format (number_of f) ≡ Some (format_for f) = rw (s.0, s.1) (rw p at (number_has_format opcode)) in
      rw (n, is_itself (format_for f), q, T_true (fit ns (fields_from 0 ns w)) (fields_fit ns 0 w)) (ap given (pack_fields ns w b))

  by_format : (g : Format) → format_of opcode ≡ Some g → encode_of (fields_as g w) ≡ given w
  by_format F0 p = encodes F0 p (format0 w) (refl, refl) refl h
  by_format F1 p = encodes F1 p (format1 w) (refl, refl) refl h
  by_format F1i p = encodes F1i p (format1i w) (refl, refl) refl h
  by_format F1u p = encodes F1u p (format1u w) (refl, refl) refl h
  by_format F1c p = encodes F1c p (format1c w) (refl, refl) (rw (CMP.same_bits w p)) h
  by_format F2 p = encodes F2 p (format2 w) (refl, refl) refl h
  by_format F3 p = encodes F3 p (format3 w) (refl, refl) refl h
  by_format F4 p = encodes F4 p (format4 w) (refl, refl) refl h
  by_format F5 p = encodes F5 p (format5 w) (refl, refl) (rw (MAD.same_bits w p)) h
  by_format F5i p = encodes F5i p (format5i w) (refl, refl) (rw (MADI.same_bits w p)) h

  pub encode_decode : (f : Fields) → decode_of w ≡ given f → encode_of f ≡ given w
  unfolding decode_of
  encode_decode f e = by (format_of opcode) refl e
    where
      by : (o : Option Format) → format_of opcode ≡ o → decode_as o w ≡ given f → encode_of f ≡ given w
      by (Some g) p e = let same : fields_as g w ≡ f = cc in rw (← same) (by_format g p)
      by None p e = cc

given_if : (a b : Bool) (x w : ℕ) → or_refused (word_if (a && b) x) ≡ given w → (a ≡ true) × (b ≡ true) × (x ≡ w)
given_if a b x w e = (grind (arith), grind (arith), grind (arith))

-- fields that encode give a word, of 32 bits, that decodes to them
record Coded (f : Fields) (w : ℕ) : Type 0 where
  number : entry_format (number_of f) ≡ Some (format_for f)
  parts : fields_from 0 (layout (format_for f)) w ≡ parts_of f
  word : w < 2 ^ total (layout (format_for f))

coded : (f : Fields) (w : ℕ) → encode_of f ≡ given w → Coded f w
unfolding encode_of
coded f w e =
    let ns = layout (format_for f) in
    let g = given_if (is_format (entry_format (number_of f)) (format_for f)) (fit ns (parts_of f)) (pack ns (parts_of f)) w e in
    let t : T (fit ns (parts_of f)) = rw g.1 tt in
    record {
      number = of_format (entry_format (number_of f)) (format_for f) g.0;
      parts = rw g.2 at (fields_pack ns (parts_of f) t);
      word = rw g.2 at (pack_lt ns (parts_of f) t);
    }

module _ (w : ℕ) where
  at_format : (g : Format) {f : Fields} → format_of (field 26 6 w) ≡ Some g → fields_as g w ≡ f → decode_of w ≡ given f
  unfolding decode_of
  at_format g p e = rw (p, e)

  at_number : (g : Format) (op : ℕ) {f : Fields} → field 26 6 w ≡ op → entry_format op ≡ Some g → fields_as g w ≡ f → decode_of w ≡ given f
  at_number g op e n = at_format g (rw e (format_of_number g op n))

  decodes : (f : Fields) → Coded f w → decode_of w ≡ given f
  decodes (Format0 op rest) c = let q = c.parts in at_number F0 op (cc) c.number (cc)
  decodes (Format1 op desc src2 src1 idx1 dst) c = let q = c.parts in at_number F1 op (cc) c.number (cc)
  decodes (Format1i op desc src2 src1 idx2 dst) c = let q = c.parts in at_number F1i op (cc) c.number (cc)
  decodes (Format1u op desc rest src1 idx1 dst) c = let q = c.parts in at_number F1u op (cc) c.number (cc)
  decodes (Format1c op desc src2 src1 idx1 cmpy cmpx) c =
      let q = c.parts in
      let n = CMP.one_number op c.number in
      at_format F1c (CMP.tell w (cc)) (cc)
  decodes (Format2 op num rest dst condop refy refx) c = let q = c.parts in at_number F2 op (cc) c.number (cc)
  decodes (Format3 op num rest dst id) c = let q = c.parts in at_number F3 op (cc) c.number (cc)
  decodes (Format4 op rest winding primemit vtxid) c = let q = c.parts in at_number F4 op (cc) c.number (cc)
  decodes (Format5 op desc src3 src2 src1 idx2 dst) c =
      let q = c.parts in
      let n = MAD.one_number op c.number in
      at_format F5 (MAD.tell w (cc)) (cc)
  decodes (Format5i op desc src3 src2 src1 idx3 dst) c =
      let q = c.parts in
      let n = MADI.one_number op c.number in
      at_format F5i (MADI.tell w (cc)) (cc)

pub decode_encode : (f : Fields) (w : ℕ) → encode_of f ≡ given w → decode_of w ≡ given f
decode_encode f w e = decodes w f (coded f w e)

whole : (f : Fields) → total (layout (format_for f)) ≡ 32
whole f = grind (arith)

pub word_lt : (f : Fields) (w : ℕ) → encode_of f ≡ given w → w < 2 ^ 32
word_lt f w e = rw (whole f) at (coded f w e).word

-- fields that no word decodes to are refused, by 31 at 0, and only those
pub refused_if_none : (f : Fields) → ((w : ℕ) → w < 2 ^ 32 → decode_of w ≡ given f → ⊥) → encode_of f ≡ refused 31 0
unfolding encode_of
refused_if_none f none = by (word_of f) refl
  where
    by : (o : Option ℕ) → encode_of f ≡ or_refused o → encode_of f ≡ refused 31 0
    by (Some w) e = absurd (none w (word_lt f w e) (decode_encode f w e))
    by None e = e

pub none_if_refused : (f : Fields) → encode_of f ≡ refused 31 0 → (w : ℕ) → w < 2 ^ 32 → decode_of w ≡ given f → ⊥
none_if_refused f r w h e = let g = encode_decode w h f e in cc
