-- `line::digits_of` meets its contract: one more digit stands there. Assumes nothing.
use Rattle.std.proofs.Common.{arith}
use Rattle.std.proofs.lemmas.Grind.{common_steps}
use Rattle.text.proofs.Digits.{one_more}
use Rattle.text.proofs.line.digits_of.Goals as goal

pub loop-digit-preserved : goal.loop-digit-preserved
loop-digit-preserved g c =
    (grind (arith, common_steps), one_more _ _ _ _ _ _ c.loop-digit.invariant.0 (omega arith) c.loop-digit.invariant.1)
