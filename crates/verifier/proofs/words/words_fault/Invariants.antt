-- `words::words_fault` meets its contract: what is left from word p on is the answer. Assumes nothing.
use mathlib.Core.Path.{◌≡◌}
use mathlib.Core.List.{List}
use Prim.Native.Nat.{ℕ, ◌-◌, ◌≤◌}
use lib.ListN.{length, get_or}
use Rattle.answer.specs.Faults.{or_else, first_in}
use Rattle.answer.specs.Faults.{Fault}
use Rattle.answer.specs.Faults.{Nothing}
use Rattle.verifier.specs.Words.{word_fault, words_fault}
use Rattle.verifier.proofs.words.words_fault.Given as goal

abbrev at : ℕ → List ℕ → ℕ → Fault
at d ws p = word_fault d (get_or ws p 0) p

abbrev pub invariant-loop-p : goal.invariant-loop-p
invariant-loop-p l = (l.p ≤ length l.words) × (words_fault l.descriptors l.words ≡ or_else (first_in (at l.descriptors l.words) l.p (length l.words - l.p)) Nothing)

abbrev pub decreases-loop-p : goal.decreases-loop-p
decreases-loop-p l = l.p-end - l.p
