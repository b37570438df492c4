use Rattle.std.proofs.Common.{true, false, Ok, rules, of_calls, arith, refl, ◌∙◌, ap}
use Rattle.inputs.proofs.Calls.{called_next}
use Rattle.stream.specs.Stream.{over, last, turns}
use Rattle.stream.proofs.Taking.{visits}
use Rattle.stream.proofs.each_library.Goals as goal

pub loop-preserved : goal.loop-preserved
loop-preserved g c =
    let i = c.loop.invariant in
    record {
      callable = search of_calls;
      visited = called_next _ _ refl i.visited (visits _ (goal.F-step g) true (rw c.in-Some.is at c.in_ok-kept.ensures.taken) (rw c.in-Some.is at c.in_ok-kept.ensures.silent) c.visit.ensures (c.in_ok-visit.was ∙ ap Ok c.if-not-branch.false));
      nothing = search rules;
    }

pub returns-in_default-clause-visits : goal.returns-in_default-clause-visits
returns-in_default-clause-visits g c =
    let (libraries, counted, calls) = c.loop.invariant.visited in
    (libraries, _, calls, over (search rules) (search rules))

pub returns-then-not-branch-clause-visits : goal.returns-then-not-branch-clause-visits
returns-then-not-branch-clause-visits g c =
    let (libraries, counted, calls) = c.loop.invariant.visited in
    (libraries, _, calls, last _ _ (visits _ (goal.F-step g) false (rw c.in-Some.is at c.in_ok-kept.ensures.taken) (rw c.in-Some.is at c.in_ok-kept.ensures.silent) c.visit.ensures (c.in_ok-visit.was ∙ ap Ok c.if-not-branch.true)))

pub returns-clause-visits : goal.returns-clause-visits
returns-clause-visits g c =
    let (libraries, counted, calls) = c.loop.invariant.visited in
    (libraries, _, calls, turns (omega arith))
