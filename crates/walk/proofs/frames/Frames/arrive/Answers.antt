use Rattle.std.proofs.Common.{◌∙◌, arith, inl, inr}
use Rattle.walk.proofs.Regions.{arrives_inside, arrives_past, arrives_again, arrives_over, arrives_none}
use Rattle.walk.proofs.frames.Frames.arrive.Goals.{in-GoOn, in-Turns+else-turns-gt0, else-turns-gt0-via-then-turns-gt0+else-first-at, else-turns-gt0-via-else-turns-gt0}
use Rattle.walk.proofs.frames.Frames.arrive.Goals as goal

pub returns-then-at-region : goal.returns-then-at-region
returns-then-at-region c =
    arrives_inside _ _ c.loop-self-test.true (omega arith) _ c.if-at-region.true ∙ c.loop-self.invariant.1

pub returns-then-first-at : goal.returns-then-first-at
returns-then-first-at c =
    arrives_again _ _ c.loop-self-test.true (omega arith) _ c.if-at-region.false c.in-Turns.is c.if-turns-gt0.true c.if-first-at.true ∙ c.loop-self.invariant.1

pub loop-self-preserved : goal.loop-self-preserved
loop-self-preserved c = (
  omega arith,
  elim c.match-region.branch [
    | in-GoOn w ↦ rw w.at-is (arrives_past _ _ c.loop-self-test.true (omega arith) _ c.if-at-region.false w.in-GoOn.is)
    | in-Turns+else-turns-gt0 w ↦ rw w.at-is (arrives_over _ _ c.loop-self-test.true (omega arith) _ c.if-at-region.false w.in-Turns.is
        (elim w.else-turns-gt0.branch [
          | else-turns-gt0-via-then-turns-gt0+else-first-at v ↦ inl (v.if-turns-gt0.true, v.if-first-at.false)
          | else-turns-gt0-via-else-turns-gt0 v ↦ inr v.if-turns-gt0.false
        ]))
  ] ∙ c.loop-self.invariant.1,
)

pub returns : goal.returns
returns c = arrives_none _ _ _ c.loop-self-test.false ∙ c.loop-self.invariant.1
