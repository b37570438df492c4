-- What a table that is not misplaced, and one that does not meet the opcode table, say of bytes.
-- Assumes nothing.
use mathlib.Core.Path.{◌≡◌, refl}
use mathlib.Core.Bool.{Bool, true, false, not, ◌&&◌, ◌||◌}
use mathlib.Core.List.{List}
use Prim.Native.Nat.{ℕ, ◌+◌, ◌*◌, ◌%◌, ◌≤◌}
use native.Mathlib.Omega.{arith}
use lib.Dec.{T, eqb}
use borrow.Author.Tests.{eq-eqb, ne_eqb, eqb-true, leb-true, le-leb}
use Rattle.binary.proofs.Laws.{byte_of_both, both_of_byte}
use Rattle.binary.specs.Bytes.{u32_at}
use Rattle.binary.specs.Ranges.{Holds, inside}
use Rattle.binary.specs.declared.Range.{Range}
use Rattle.container.specs.Placement.{table_at, table_range, misplaced, words_meet}
use Rattle.container.specs.declared.placement.Table.{Table}

-- a table with count 0 has no offset to test
pub empty_placed : (align size length : ℕ) (t : Table) → t.count ≡ 0 → misplaced align size length t ≡ false
unfolding misplaced
empty_placed align size length t e = rw (eq-eqb t.count 0 e)

-- any other starts at a multiple, from its section's start, and ends inside the file: base + offset + count ×
-- size in whole numbers
pub record Placed (align size length base offset count : ℕ) : Type 0 where
  pub aligned : offset % align ≡ 0
  pub ends : base + offset + count * size ≤ length

pub placed : (align size length : ℕ) (section : List ℕ) (base field : ℕ) → (u32_at section (field + 4) ≡ 0 → ⊥)
    → misplaced align size length (table_at section base field) ≡ false
    → Placed align size length base (u32_at section field) (u32_at section (field + 4))
unfolding misplaced
placed align size length section base field full e =
    by (eqb (u32_at section field % align) 0) (inside (table_range size (table_at section base field)) length) refl refl
    (rw (ne_eqb (u32_at section (field + 4)) 0 full) at e)
  where
    by : (a b : Bool) → eqb (u32_at section field % align) 0 ≡ a → inside (table_range size (table_at section base field)) length ≡ b → (not a || not b) ≡ false
        → Placed align size length base (u32_at section field) (u32_at section (field + 4))
    by true true p q r = record { aligned = eqb-true _ _ p; ends = leb-true _ _ q }
    by true false p q r = absurd (let z : ◌≡◌ {A = ℕ} 0 1 = cc in omega arith)
    by false b p q r = absurd (let z : ◌≡◌ {A = ℕ} 0 1 = cc in omega arith)

-- .. and one that does is not misplaced
pub well_placed : (align size length : ℕ) (section : List ℕ) (base field : ℕ)
    → Placed align size length base (u32_at section field) (u32_at section (field + 4))
    → misplaced align size length (table_at section base field) ≡ false
unfolding misplaced
well_placed align size length section base field p = rw (eq-eqb _ _ p.aligned, le-leb _ _ p.ends) (never (eqb (u32_at section (field + 4)) 0))
  where
    never : (b : Bool) → (not b && false) ≡ false
    never true = refl
    never false = refl

-- no byte is in the opcode table and in a range that it does not meet
pub apart : (words : Table) (r : Range) → words_meet words r ≡ false → (k : ℕ) → Holds (table_range 4 words) k → Holds r k → ⊥
unfolding words_meet
apart words r e k p q = rw e at (both_of_byte (table_range 4 words) r k p q)

-- .. and some byte is in both if they meet
pub meeting : (words : Table) (r : Range) → T (words_meet words r) → (k : ℕ) × (Holds (table_range 4 words) k × Holds r k)
unfolding words_meet
meeting words r = byte_of_both (table_range 4 words) r
