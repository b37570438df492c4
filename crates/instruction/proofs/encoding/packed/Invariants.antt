-- `encoding::packed` meets its contract: the parts that the iterators have given fit and are packed in the
-- word. Assumes nothing.
use Rattle.instruction.proofs.Packing.{Left}
use Rattle.instruction.proofs.encoding.packed.Given as goal

abbrev pub invariant-loop-width : goal.invariant-loop-width
invariant-loop-width g l = Left l.widths l.parts l.width-iterator.a.iter.rest.now l.width-iterator.b.iter.rest.now l.word
