-- `own::is_own` meets its contract: the word is an own word from the start on exactly if it is one from here
-- on. Assumes nothing.
use mathlib.Core.Path.{◌≡◌}
use Prim.Native.Nat.{◌-◌}
use Rattle.flow.specs.Flow.{code_of}
use Rattle.flow.specs.Own.{own_words, has}
use Rattle.flow.proofs.own.is_own.Given as goal

abbrev pub invariant-loop-p : goal.invariant-loop-p
invariant-loop-p l = has (own_words (code_of l.words 0) l.p l.end) l.word ≡ has (own_words (code_of l.words 0) l.initial.p l.end) l.word

abbrev pub decreases-loop-p : goal.decreases-loop-p
decreases-loop-p l = l.word - l.p
