-- Laws of records: a text written over the start of a blank record, and the names of operations.
-- Assumes nothing.
use Rattle.std.proofs.Common.{◌≡◌, ℕ, ◌+◌, ◌≤◌, ◌<◌, Bool, true, ◌&&◌, List, [], ◌∷◌, length, length-take, get_or, set, take, replicate, refl, sym, ap, arith, nat_eq}
use Rattle.std.proofs.lemmas.Bool.{agree_below, agree_below_at}
use Rattle.std.proofs.lemmas.Grind.{common_steps}
use Rattle.std.specs.Prelude.{ltb}
use Rattle.std.specs.Cmp.Lexicographic.{pointwise, same_text}
use Rattle.std.proofs.lemmas.List.{drop-replicate, take_more_set}
use lib.Seq.{sets, sets-eq}
use Rattle.instruction.specs.Operations.{Operation, operations}
use Rattle.text.specs.Pieces.{name_in, name_text}
use Rattle.text.specs.Records.{record_of}
use Rattle.text.specs.declared.record.TheConstants.{NAMES}
use Rattle.verifier.proofs.Lists.{sets_append}

-- a text written over the start of a blank record gives its record
pub recorded : (n : ℕ) (p : List ℕ) → length p ≤ n → sets (record_of (n + 1) []) 0 p ≡ record_of (n + 1) p
recorded n p h = grind (arith, common_steps, sets-eq, drop-replicate)

-- and one byte more, written after it
pub one_put : (blank l : List ℕ) (i b : ℕ) → i < length l → l ≡ sets blank 0 (take i l) → set l i b ≡ sets blank 0 (take (i + 1) (set l i b))
one_put blank l i b h e =
    let z : 0 + length (take i l) ≡ i = omega (arith, length-take i l) in
    rw (take_more_set l i b h, sets_append (take i l) (b ∷ []) blank 0, z) (ap (λ k. set k i b) e)

-- no number of the list is over 63
all_low : List Operation → Bool
all_low [] = true
all_low (o ∷ os) = ltb o.lowest 64 && all_low os

all_low_lem : all_low operations ≡ true
unfolding all_low operations
all_low_lem = refl

unnamed : (os : List Operation) (op : ℕ) → all_low os ≡ true → 64 ≤ op → name_in os op ≡ []
unfolding all_low
unnamed [] op e h = refl
unnamed (o ∷ os) op e h = grind (arith, common_steps, unnamed os op)

pub no_name : (op : ℕ) → 64 ≤ op → name_text op ≡ replicate 7 0x20
unfolding name_text
no_name op h = rw (unnamed operations op all_low_lem h) refl

-- the names of operations, by a test that is computed over the whole table
abbrev is_named : ℕ → Bool
is_named op = pointwise nat_eq (get_or NAMES op []) (name_text op)

named : agree_below is_named (λ op. true) 64 ≡ true
unfolding name_text operations
named = refl

pub name_at : (op : ℕ) → op < 64 → get_or NAMES op [] ≡ name_text op
name_at op h = same_text _ _ (sym (agree_below_at is_named (λ op. true) 64 op named h))
