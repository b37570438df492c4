use Rattle.std.proofs.Common.{arith, of_calls}
use Rattle.std.proofs.lemmas.Fn.{called_at}
use Rattle.inputs.proofs.Calls.{called_next}
use Rattle.inputs.proofs.each_argument.Goals as goal

pub loop-index-preserved : goal.loop-index-preserved
loop-index-preserved g c =
    let i = c.loop-index.invariant in
    record {
      callable = search of_calls;
      counted = omega arith;
      visited = called_next _ _ i.counted i.visited (called_at g.F.FnMut c.visit.ensures c.in_ok-visit.was);
    }
