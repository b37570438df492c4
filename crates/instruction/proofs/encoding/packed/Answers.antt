-- `encoding::packed` meets its contract: the parts that the iterators have given fit and are packed in the
-- word. Assumes nothing.
use mathlib.Core.Path.{◌≡◌}
use mathlib.Core.Logic.{⊎_elim, inl, inr}
use native.Mathlib.Omega.{arith}
use Rattle.std.specs.List.{push}
use Rattle.instruction.proofs.Packing.{Left, all_left, none_left, narrow_next, turn, does_not_fit, word_lt}
use Rattle.instruction.proofs.encoding.packed.Given.{Over}
use Rattle.instruction.proofs.encoding.packed.Goals.{In-Some}
use Rattle.instruction.proofs.encoding.packed.Goals as goal

-- a turn takes the last width and the last part that are left
left : (g : Over) (b : In-Some g)
    → Left b.args.widths.now b.args.parts.now (push b.next.new.self.a.iter.rest.now b.in-Some.width.now) (push b.next.new.self.b.iter.rest.now b.in-Some.part.now) b.loop-width.word
left g b = rw b.in-Some.ensures.steps.0 at (rw b.in-Some.ensures.steps.1 at b.loop-width.invariant)

pub loop-width-init : goal.loop-width-init
loop-width-init g c =
    let e : c.into_iter-width-iterator.result.a.iter.rest.now ≡ c.args.widths.now = cc in
    let f : c.into_iter-width-iterator.result.b.iter.rest.now ≡ c.args.parts.now = cc in
    rw (e, f) (all_left (omega arith) c.requires.whole c.requires.narrow)

pub overflow_shl-limit : goal.overflow_shl-limit
overflow_shl-limit g c = narrow_next _ _ _ _ (left g (goal.at.overflow_shl-limit g c).In-Some)

pub returns-then-limit-part : goal.returns-then-limit-part
returns-then-limit-part g c = does_not_fit _ _ _ _ (left g (goal.at.returns-then-limit-part g c).In-Some) c.if-limit-part.true

pub overflow_mul-word : goal.overflow_mul-word
overflow_mul-word g c = omega (arith, word_lt (turn _ _ _ _ (left g (goal.at.overflow_mul-word g c).In-Some) c.if-limit-part.false))

pub overflow_add-word : goal.overflow_add-word
overflow_add-word g c = omega (arith, word_lt (turn _ _ _ _ (left g (goal.at.overflow_add-word g c).In-Some) c.if-limit-part.false))

pub loop-width-preserved : goal.loop-width-preserved
loop-width-preserved g c = turn _ _ _ _ (left g (goal.at.loop-width-preserved g c).In-Some) c.if-limit-part.false

pub returns : goal.returns
returns g c = none_left c.loop-width.invariant (⊎_elim (λ x. inl x.1.0) (λ x. inr x.1.0) c.in-None.ensures.steps)
