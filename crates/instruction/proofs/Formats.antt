-- The list of operations, read by opcode and by number, is what the code goes by: ranges of numbers.
-- Assumes nothing.
use mathlib.Core.Path.{◌≡◌, refl, ◌∙◌}
use mathlib.Core.Bool.{Bool, true, ◌&&◌, ◌||◌, and-false}
use mathlib.Core.List.{List, [], ◌∷◌}
use Prim.Native.Nat.{ℕ, ◌<◌, ◌≤◌}
use native.Mathlib.Omega.{arith}
use lib.Dec.{T, leb, ltb, ltb→lt, eqb}
use mir.Facts.{and_yes}
use borrow.Author.Tests.{lt-leb, eq-eqb}
use Rattle.std.proofs.Common.{Option, Some, None, cond}
use Rattle.instruction.proofs.Tables.{same_all}
use Rattle.std.proofs.lemmas.Bool.Decides.{nat_tests}
use Rattle.instruction.specs.Operations.{Operation, operations, format_where, tag, is_format, format_of, entry_format}
use Rattle.instruction.specs.declared.operation.Format.{Format}
use Rattle.instruction.specs.declared.operation.Format.TheVariants.{F0, F1, F1i, F1u, F1c, F2, F3, F4, F5, F5i}

pub of_format : (o : Option Format) (f : Format) → is_format o f ≡ true → o ≡ Some f
of_format o f e = grind (arith, nat_tests)

pub is_itself : (f : Format) → is_format (Some f) f ≡ true
is_itself f = eq-eqb (tag f) (tag f) refl

-- past 3Fh there is no operation
abbrev ends_below : ℕ → List Operation → Bool
ends_below n [] = true
ends_below n (o ∷ os) = ltb o.highest n && ends_below n os

none_past : (k : ℕ) → 64 ≤ k → (os : List Operation) → T (ends_below 64 os) → format_where (λ o. leb o.lowest k && leb k o.highest) os ≡ None
none_past k h [] t = refl
none_past k h (o ∷ os) t =
    let p = and_yes (ltb o.highest 64) (ends_below 64 os) t in
    let high : o.highest < 64 = ltb→lt o.highest 64 p.0 in
    rw (lt-leb k o.highest (omega arith), and-false) (none_past k h os p.1)

pub format_past : (k : ℕ) → 64 ≤ k → format_of k ≡ None
unfolding format_of operations
format_past k h = none_past k h operations tt

pub entry_past : (k : ℕ) → 64 ≤ k → entry_format k ≡ None
unfolding entry_format operations
entry_past k h = grind (arith, nat_tests)

-- the formats by ranges of opcodes, each up to the number that it is tested against
abbrev pub ranges : ℕ → Option Format
ranges k =
    cond (leb k 0x04) (Some F1)
    (cond (leb k 0x07) (Some F1u)
    (cond (leb k 0x0a) (Some F1)
    (cond (leb k 0x0b) (Some F1u)
    (cond (leb k 0x0d) (Some F1)
    (cond (leb k 0x0f) (Some F1u)
    (cond (leb k 0x11) None
    (cond (leb k 0x13) (Some F1u)
    (cond (leb k 0x17) None
    (cond (leb k 0x1b) (Some F1i)
    (cond (leb k 0x1f) None
    (cond (leb k 0x22) (Some F0)
    (cond (leb k 0x25) (Some F2)
    (cond (leb k 0x27) (Some F3)
    (cond (leb k 0x28) (Some F2)
    (cond (leb k 0x29) (Some F3)
    (cond (leb k 0x2a) (Some F0)
    (cond (leb k 0x2b) (Some F4)
    (cond (leb k 0x2c) (Some F2)
    (cond (leb k 0x2d) (Some F3)
    (cond (leb k 0x2f) (Some F1c)
    (cond (leb k 0x37) (Some F5i)
    (cond (leb k 0x3f) (Some F5) None))))))))))))))))))))))

ranges_past : (k : ℕ) → 64 ≤ k → None ≡ ranges k
ranges_past k h = grind (arith, nat_tests)

pub in_ranges : (k : ℕ) → format_of k ≡ ranges k
unfolding format_of operations
in_ranges = same_all format_of ranges 64 refl (λ k h. format_past k h ∙ ranges_past k h)

-- the opcodes that are not the lowest of their entry: of CMP, MADI and MAD
abbrev pub is_higher : ℕ → Bool
is_higher k = eqb k 0x2f || (leb 0x31 k && leb k 0x37) || (leb 0x39 k && leb k 0x3f)

abbrev pub lowest_format : ℕ → Option Format
lowest_format k = cond (is_higher k) None (format_of k)

lowest_past : (k : ℕ) → 64 ≤ k → entry_format k ≡ lowest_format k
lowest_past k h = let p = format_past k h in let q = entry_past k h in grind (arith, nat_tests)

pub at_lowest : (k : ℕ) → entry_format k ≡ lowest_format k
unfolding entry_format format_of operations
at_lowest = same_all entry_format lowest_format 64 refl lowest_past

-- what the code's functions give to `grind`: the format by the opcode, and by the entry's number
pub ruleset by_range = (in_ranges, nat_tests)

pub ruleset by_number = (at_lowest, nat_tests)
