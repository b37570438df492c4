-- The text of registers (document 01, 'Listing and report', second paragraph).
-- Assumes nothing.
use Rattle.std.specs.Prelude.{ℕ, ◌-◌, ◌/◌, ◌%◌, Bool, cond, List, [], ◌∷◌, ◌++◌, ltb, eqb, get_or, map}
use Prim.Native.Char.{code}
use Rattle.instruction.specs.Operands.{mask_of}
use Rattle.instruction.specs.declared.operand.Source.{Source}
use Rattle.text.specs.Pieces.{bytes, lettered}
use Rattle.text.specs.declared.registers.Destination.{Destination}
use Rattle.text.specs.declared.registers.Register.{Register}

-- a source register and its IDX; one without an index
abbrev pub indexed : ℕ → ℕ → Register
indexed n idx = record { number = n; index = idx }

abbrev pub plain : ℕ → Register
plain n = indexed n 0

-- the register that an operation writes, with the word of its descriptor
abbrev pub destination_of : ℕ → ℕ → ℕ → Destination
destination_of op n d = record { op = op; register = n; descriptor = record { 0 = d } }

abbrev pub component : ℕ → ℕ
component k = get_or (bytes "xyzw") (k % 4) 0

-- 'Source: .. v0-v15 (00h), r0-r15 (10h), c0-c95 (20h)'
abbrev pub register_text : ℕ → List ℕ
register_text n = cond (ltb n 0x10) (lettered (code "v") n) (cond (ltb n 0x20) (lettered (code "r") (n - 0x10)) (lettered (code "c") (n - 0x20)))

-- '`-` if negated'
abbrev pub sign_text : Bool → List ℕ
sign_text negated = cond negated (bytes "-") []

-- '`[a0.x]`, `[a0.y]` or `[aL]` for IDX 1, 2, 3'
abbrev pub index_text : ℕ → List ℕ
index_text idx = cond (eqb idx 1) (bytes "[a0.x]") (cond (eqb idx 2) (bytes "[a0.y]") (cond (eqb idx 3) (bytes "[aL]") []))

-- '`.` and four selectors, component 0 first'
abbrev pub selectors_text : Source → List ℕ
selectors_text s = bytes "." ++ map component s.components

unfoldable pub source_text : Source → Register → List ℕ
source_text s r = sign_text s.negated ++ register_text r.number ++ index_text r.index ++ selectors_text s

-- a component, if it is written
abbrev pub written_text : Bool → ℕ → List ℕ
written_text written k = cond written (component k ∷ []) []

-- 'the written components in the order xyzw, `_` if none'; x is 8, y 4, z 2, w 1
abbrev pub mask_text : ℕ → List ℕ
mask_text m =
    let written = written_text (eqb (m / 8 % 2) 1) 0 ++ written_text (eqb (m / 4 % 2) 1) 1 ++ written_text (eqb (m / 2 % 2) 1) 2 ++ written_text (eqb (m % 2) 1) 3 in
    cond (eqb (m % 16) 0) (bytes "_") written

-- 'Destination: o0-o15 or r0-r15 (numbers 10h up), `a0` for MOVA'
abbrev pub written_register : ℕ → ℕ → List ℕ
written_register op n = cond (eqb op 0x12) (lettered (code "a") 0) (cond (ltb n 0x10) (lettered (code "o") n) (lettered (code "r") (n - 0x10)))

unfoldable pub destination_text : Destination → List ℕ
destination_text to = written_register to.op to.register ++ bytes "." ++ mask_text (mask_of to.descriptor.0)
