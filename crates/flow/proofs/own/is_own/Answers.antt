-- `own::is_own` meets its contract: the word is an own word from the start on exactly if it is one from here
-- on. Assumes nothing.
use mathlib.Core.Path.{◌≡◌, sym, ◌∙◌}
use Prim.Native.Nat.{ℕ, ◌<◌}
use native.Mathlib.Omega.{arith}
use Rattle.std.specs.Prelude.{Some}
use Rattle.flow.specs.Flow.{code_of}
use Rattle.flow.specs.Inside.{after_of}
use Rattle.flow.specs.Own.{own_words, has}
use Rattle.flow.specs.Rules.{Code}
use Rattle.flow.proofs.OwnSteps.{own_none, own_next, own_last, own_reached, after_no_block}
use Rattle.flow.proofs.own.is_own.Goals.{In-loop-p}
use Rattle.flow.proofs.own.is_own.Goals as goal

-- in the loop the word is further on, and p in the region
module _ (k : In-loop-p) where
  abbrev C : Code
  C = code_of k.args.words.now 0

  abbrev p : ℕ
  p = k.loop-p.p

  abbrev E : ℕ
  E = k.args.end

  abbrev d : ℕ
  d = k.args.word

  inside : p < E
  inside = omega (arith, k.loop-p-test.true, k.if-end-word.false)

  elsewhere : p ≡ d → ⊥
  elsewhere e = omega (arith, k.loop-p-test.true)

  step : {n : ℕ} → after_of (C.control p) p E ≡ Some n → has (own_words C n E) d ≡ has (own_words C k.args.from E) d
  step e = sym (own_next C p E d inside elsewhere e) ∙ k.loop-p.invariant

pub returns-then-end-word : goal.returns-then-end-word
returns-then-end-word c =
    let a = c.args in
    own_none (code_of a.words.now 0) a.from a.end a.word (λ l. c.if-end-word.true)

pub loop-p-preserved-then-is_block : goal.loop-p-preserved-then-is_block
loop-p-preserved-then-is_block c =
    step (goal.at.loop-p-preserved-then-is_block c).In-loop-p (sym c.own_after.ensures ∙ c.in-Some.is)

pub loop-p-preserved : goal.loop-p-preserved
loop-p-preserved c =
    let k = (goal.at.loop-p-preserved c).In-loop-p in
    step k (after_no_block ((C k).control (p k)) (p k) (E k) (sym c.is_block.ensures ∙ c.if-is_block.false))

pub returns-in_default : goal.returns-in_default
returns-in_default c =
    let k = (goal.at.returns-in_default c).In-loop-p in
    own_last (C k) (p k) (E k) (d k) (inside k) (elsewhere k) (sym c.own_after.ensures ∙ c.in_default.is) ∙ c.loop-p.invariant

pub returns : goal.returns
returns c =
    let a = c.args in
    own_reached (code_of a.words.now 0) c.loop-p.p a.end a.word c.loop-p-test.false c.if-end-word.false ∙ c.loop-p.invariant
