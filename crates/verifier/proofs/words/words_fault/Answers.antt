-- `words::words_fault` meets its contract: what is left from word p on is the answer. Assumes nothing.
use mathlib.Core.Path.{◌≡◌, sym}
use mathlib.Core.List.{List}
use Prim.Native.Nat.{ℕ, ◌-◌}
use native.Mathlib.Omega.{arith}
use borrow.Author.Rules.{rules}
use lib.ListN.{length, get_or}
use Rattle.std.specs.Prelude.{Err}
use Rattle.answer.specs.Faults.{Fault, Nothing, or_else, first_in}
use Rattle.answer.proofs.Laws.{or_nothing, hit, miss, over}
use Rattle.verifier.specs.Words.{word_fault, words_fault}
use Rattle.verifier.proofs.words.words_fault.Goals as goal

abbrev at : ℕ → List ℕ → ℕ → Fault
at d ws p = word_fault d (get_or ws p 0) p

begin : (d : ℕ) (ws : List ℕ) → words_fault d ws ≡ or_else (first_in (at d ws) 0 (length ws - 0)) Nothing
unfolding words_fault
begin d ws =
    let z : length ws - 0 ≡ length ws = omega arith in
    rw (z, or_nothing)

pub loop-p-init : goal.loop-p-init
loop-p-init c = (search rules, begin _ _)

pub returns-in_err-word_fault : goal.returns-in_err-word_fault
returns-in_err-word_fault c =
    let same : c.from_residual.result ≡ Err c.in_err-word_fault.field-0.0 = search rules in
    rw same (hit _ _ _ _ _ c.loop-p.invariant.1 c.loop-p-test.true (sym c.in_err-word_fault.ensures))

pub loop-p-preserved : goal.loop-p-preserved
loop-p-preserved c =
    (search rules, miss _ _ _ _ _ c.loop-p.invariant.1 c.loop-p-test.true (sym c.in_ok-word_fault.ensures))

pub returns : goal.returns
returns c = sym (over _ _ _ _ _ c.loop-p.invariant.1 c.loop-p-test.false)
